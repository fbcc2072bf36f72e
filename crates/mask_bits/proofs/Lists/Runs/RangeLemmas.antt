-- How many places ranges hold.
use Rattle.mask_bits.proofs.Common.{◌≡◌, ℕ, ◌-◌, ◌<◌, ◌≤◌, Bool, true, false, List, [], ◌∷◌, length, get_or, drop, slice_range, refl, ap, ◌∙◌, suc, arith, AllAdjacentBelow, list_any, sum_by, drop_all, length-between, get_or-between, drop_split, sum_by-cons, count, repeated, is_inside, AreRanges, All, ext_get_or}
use Rattle.mask_bits.proofs.Lists.CountLemmas.{count-append, count-repeated_true, count-repeated_false, length-repeated, get_or-repeated}
use Rattle.mask_bits.proofs.Lists.Runs.RunLemmas.{inside, inside-past}

-- a part whose values are all v
pub part_of_one : (m : List Bool) (v : Bool) (s e : ℕ) → e ≤ length m → ((i : ℕ) → s ≤ i → i < e → get_or m i false ≡ v) → slice_range m s e ≡ repeated (e - s) v
part_of_one m v s e within same =
    ext_get_or false _ _ (grind (arith, length-between, length-repeated, get_or-between, get_or-repeated)) (λ j h. grind (arith, length-between, length-repeated, get_or-between, get_or-repeated))

-- nonempty ranges from low to high, each after the one before it
abbrev pub Ordered : ℕ → ℕ → List (ℕ × ℕ) → Type 0
Ordered low high [] = low ≤ high
Ordered low high (r ∷ rs) = (low ≤ r.0) × (r.0 < r.1) × Ordered r.1 high rs

pub Ordered-top : (low high : ℕ) (rs : List (ℕ × ℕ)) → Ordered low high rs → low ≤ high
Ordered-top low high [] o = o
Ordered-top low high (r ∷ rs) o = omega (arith, Ordered-top r.1 high rs o.2)

-- no place below the lower bound is inside
pub none_below : (low high i : ℕ) (rs : List (ℕ × ℕ)) → Ordered low high rs → i < low → list_any (is_inside i) rs ≡ false
none_below low high i [] o h = refl
none_below low high i (r ∷ rs) o h = grind (arith, none_below r.1 high i rs o.2 (omega arith))

-- from a place on, the ranges hold as many places as values are true
from_place : (m : List Bool) (low : ℕ) (rs : List (ℕ × ℕ)) → Ordered low (length m) rs
    → ((i : ℕ) → low ≤ i → i < length m → get_or m i false ≡ list_any (is_inside i) rs) → sum_by (λ r. r.1 - r.0) rs ≡ count (drop low m)
from_place m low [] o exact = grind (arith, part_of_one, count-repeated_false (length m - low), drop_split m low (length m) o, count-append, drop_all)
from_place m low (r ∷ rs) o exact =
    let top = Ordered-top r.1 (length m) rs o.2 in
    let gap = ap count (part_of_one m false low r.0 (omega (arith, o.1, top)) (λ i from h. grind (arith, exact i from, o.1, top, none_below r.0 (length m) i (r ∷ rs) (omega arith, o.1, o.2) h))) ∙ count-repeated_false (r.0 - low) in
    let held = ap count (part_of_one m true r.0 r.1 top (λ i from h. grind (arith, exact i, o.0, top, inside i r from h))) ∙ count-repeated_true (r.1 - r.0) in
    let rest = from_place m r.1 rs o.2 (λ i from h. grind (arith, exact i, o.0, o.1, inside-past i r from)) in
    let first = ap count (drop_split m low r.0 o.0) ∙ count-append (slice_range m low r.0) (drop r.0 m) in
    let second = ap count (drop_split m r.0 r.1 (omega (arith, o.1))) ∙ count-append (slice_range m r.0 r.1) (drop r.1 m) in
    sum_by-cons (λ (s : ℕ × ℕ). s.1 - s.0) r rs ∙ omega (arith, gap, held, rest, first, second)

Ordered-from : (low high : ℕ) (rs : List (ℕ × ℕ)) → low ≤ high → ((k : ℕ) (d : ℕ × ℕ) → k < 1 → k < length rs → low ≤ (get_or rs k d).0)
    → All (λ r. r.0 < r.1) rs → All (λ r. r.1 ≤ high) rs → AllAdjacentBelow (λ r s. r.1 ≤ s.0) rs (length rs) → Ordered low high rs
Ordered-from low high [] top first nonempty within ordered = top
Ordered-from low high (r ∷ rs) top first nonempty within ordered = (
  first 0 r (omega arith) (omega arith),
  nonempty 0 r (omega arith),
  Ordered-from r.1 high rs (within 0 r (omega arith)) (λ k d below h. grind (arith, ordered 0 d)) (λ k d h. nonempty (suc k) d (omega arith))
      (λ k d h. within (suc k) d (omega arith)) (λ k d h. grind (arith, ordered (suc k) d)),
)

pub Ordered-of : (m : List Bool) (rs : List (ℕ × ℕ)) → AreRanges m rs → Ordered 0 (length m) rs
Ordered-of m rs are = Ordered-from 0 (length m) rs (omega arith) (λ k d first h. omega arith) are.nonempty are.within are.ordered

-- ranges hold as many indices as values are true
pub ranges_add_up_to_the_count : (m : List Bool) (rs : List (ℕ × ℕ)) → AreRanges m rs → sum_by (λ r. r.1 - r.0) rs ≡ count m
ranges_add_up_to_the_count m rs are = from_place m 0 rs (Ordered-of m rs are) (λ i from h. are.exact i h)
