-- Ranges in which there is no fault, and the values that are true exactly in them.
use Rattle.vortex_mask.proofs.Common.{common_steps, ◌≡◌, ℕ, ◌+◌, ◌<◌, ◌≤◌, ◌&&◌, not, Bool, true, false, nat_lt, nat_le, List, [], ◌∷◌, length, get_or, drop, map, zero, suc, None, sym, ◌∙◌, arith, subst, AllAdjacentBelow, list_any, prefix_len, position, range_with_len, get_or-map-range_with_len, length-map-range_with_len, cases_lt, nat_tests, at_drop_more, at_drop_all, prefix_len_passes, bitmap, backing_bit, count, repeated, is_inside, AreRanges, bad_range, neighbor_fault, neighbors_fault_from, range_fault, rows_held, all_true_from_count, all_false_from_count, count-le-length, length-bitmap, get_or-bitmap, All, ranges_add_up_to_the_count}
use Rattle.vortex_mask.proofs.Masks.FaultLemmas.{option_or-none, none_mapped}

-- ---- neighbors, one pair at a time

-- the last range has no next one
pub no_more_neighbors : (rs : List (ℕ × ℕ)) (n : ℕ) → length rs ≤ n + 1 → neighbors_fault_from n (drop n rs) ≡ None
no_more_neighbors rs n h = grind (arith, common_steps, cases_lt n (length rs), at_drop_more, at_drop_all (λ ys. neighbors_fault_from n (get_or rs n (0, 0) ∷ ys)) rs (n + 1) h, at_drop_all)

-- ---- no fault

-- a range is not empty and within the length
abbrev IsGood : ℕ → ℕ × ℕ → Type 0
IsGood len r = (r.0 < r.1) × (r.1 ≤ len)

good : (len : ℕ) (r : ℕ × ℕ) → not (not (nat_lt r.0 r.1 && nat_le r.1 len)) ≡ true → IsGood len r
good len r passes = (grind (arith, nat_tests), grind (arith, nat_tests))

position-None : {X : Type 0} (p : X → Bool) (xs : List X) → position p xs ≡ None → length xs ≤ prefix_len (λ x. not (p x)) xs
position-None p xs none = grind (arith, nat_tests)

all_good : (len : ℕ) (rs : List (ℕ × ℕ)) → range_fault len rs ≡ None → All (IsGood len) rs
all_good len rs none = grind (arith, option_or-none, nat_lt, nat_le, position-None, none_mapped, good, prefix_len_passes)

apart : (r s : ℕ × ℕ) (at : ℕ) → neighbor_fault r s at ≡ None → r.1 ≤ s.0
apart r s at none = grind (arith, nat_tests)

ordered_from : (n : ℕ) (rs : List (ℕ × ℕ)) → neighbors_fault_from n rs ≡ None → AllAdjacentBelow (λ r s. r.1 ≤ s.0) rs (length rs)
ordered_from n [] none k d h = absurd (omega arith)
ordered_from n (r ∷ []) none k d h = absurd (omega arith)
ordered_from n (r ∷ s ∷ rs) none zero d h = apart r s (n + 1) (option_or-none (neighbor_fault r s (n + 1)) (neighbors_fault_from (n + 1) (s ∷ rs)) none).0
ordered_from n (r ∷ s ∷ rs) none (suc k) d h =
    let next : suc (k + 1) ≡ suc k + 1 = omega arith in
    subst (λ (j : ℕ). (get_or (s ∷ rs) k d).1 ≤ (get_or (r ∷ s ∷ rs) j d).0) next
    (ordered_from (n + 1) (s ∷ rs) (option_or-none (neighbor_fault r s (n + 1)) (neighbors_fault_from (n + 1) (s ∷ rs)) none).1 k d (omega arith))

pub nonempty-no_fault : (len : ℕ) (rs : List (ℕ × ℕ)) → range_fault len rs ≡ None → All (λ r. r.0 < r.1) rs
nonempty-no_fault len rs none = λ k d h. (all_good len rs none k d h).0

pub within-no_fault : (len room : ℕ) (rs : List (ℕ × ℕ)) → range_fault len rs ≡ None → len ≤ room → All (λ r. r.1 ≤ room) rs
within-no_fault len room rs none h = λ k d inside. omega (arith, (all_good len rs none k d inside).1)

-- ---- the list that is true exactly in ranges without a fault

AreRanges-no_fault : (len : ℕ) (rs : List (ℕ × ℕ)) (m : List Bool) → range_fault len rs ≡ None → length m ≡ len → ((i : ℕ) → i < len → get_or m i false ≡ list_any (is_inside i) rs) → AreRanges m rs
AreRanges-no_fault len rs m none long exact = record {
  nonempty = nonempty-no_fault len rs none;
  within = within-no_fault len (length m) rs none (omega (arith, long));
  ordered = ordered_from 0 rs (option_or-none (bad_range len rs) (neighbors_fault_from 0 rs) none).1;
  exact = λ i h. exact i (omega (arith, long));
}

painted : ℕ → List (ℕ × ℕ) → List Bool
painted len rs = map (λ i. list_any (is_inside i) rs) (range_with_len 0 len)

held_are_ranges : (len : ℕ) (rs : List (ℕ × ℕ)) → range_fault len rs ≡ None → AreRanges (painted len rs) rs
unfolding painted
held_are_ranges len rs none = grind (arith, AreRanges-no_fault, painted len rs, length-map-range_with_len (λ i. list_any (is_inside i) rs) 0 len, get_or-map-range_with_len)

long_painted : (len : ℕ) (rs : List (ℕ × ℕ)) → length (painted len rs) ≡ len
unfolding painted
long_painted len rs = length-map-range_with_len (λ i. list_any (is_inside i) rs) 0 len

rows_held-painted : (len : ℕ) (rs : List (ℕ × ℕ)) → range_fault len rs ≡ None → rows_held rs ≡ count (painted len rs)
rows_held-painted len rs none = ranges_add_up_to_the_count (painted len rs) rs (held_are_ranges len rs none)

pub rows_held-le : (len : ℕ) (rs : List (ℕ × ℕ)) → range_fault len rs ≡ None → rows_held rs ≤ len
rows_held-le len rs none = omega (arith, rows_held-painted len rs none, count-le-length (painted len rs), long_painted len rs)

-- ranges that hold no place, or all
pub AreRanges-none : (len : ℕ) (rs : List (ℕ × ℕ)) → range_fault len rs ≡ None → rows_held rs ≡ 0 → AreRanges (repeated len false) rs
AreRanges-none len rs none held = grind (arith, common_steps, painted len rs, all_false_from_count 0 (painted len rs) (sym (rows_held-painted len rs none) ∙ held), rows_held-painted len rs none, long_painted len rs, held_are_ranges len rs none)

pub AreRanges-all : (len : ℕ) (rs : List (ℕ × ℕ)) → range_fault len rs ≡ None → rows_held rs ≡ len → AreRanges (repeated len true) rs
AreRanges-all len rs none held = grind (arith, common_steps, painted len rs, long_painted len rs, all_true_from_count 0 (painted len rs) (sym (rows_held-painted len rs none) ∙ held ∙ sym (long_painted len rs)), rows_held-painted len rs none, held_are_ranges len rs none)

-- the values of bytes in which just the bits of the ranges are set
pub AreRanges-set : (len : ℕ) (rs : List (ℕ × ℕ)) (bytes : List ℕ) → range_fault len rs ≡ None → ((p : ℕ) → backing_bit bytes p ≡ list_any (is_inside p) rs) → AreRanges (bitmap bytes 0 len) rs
AreRanges-set len rs bytes none set = grind (arith, common_steps, AreRanges-no_fault len rs (bitmap bytes 0 len) none (length-bitmap bytes 0 len) (λ i h. grind (arith, get_or-bitmap, set i)), length-bitmap bytes 0 len, get_or-bitmap)

pub ruleset range_facts = (nonempty-no_fault, rows_held-le, AreRanges-none, AreRanges-all, ranges_add_up_to_the_count)
