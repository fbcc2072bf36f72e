-- Masks that are read by values, indices and counts.
use Rattle.vortex_mask.proofs.Common.{Option, Some, None, slice_get, nat_lt, zero, suc, ◌≡◌, ℕ, ◌+◌, ◌-◌, ◌≤◌, Bool, true, false, List, [], ◌∷◌, length, map, take, drop, replicate, slice_range, refl, sym, ap, ap₂, ◌∙◌, arith, then_some, SomeIff, lt-ltb, common_steps, map_more, take-replicate, take-append-drop, All-head, All-tail, slice_get_past, positions, count, count_below, repeated, count-repeated_true, count-repeated_false, count-append, length-repeated, positions-repeated_true_at, positions-all_false, nil-repeated, count-part_further, All}
use Rattle.vortex_mask.proofs.Lists.StartedWordLemmas.{count_below-within}

-- ---- lists of one value

pub first-all_true : (n : ℕ) → then_some (nat_lt 0 n) 0 ≡ slice_get (positions (repeated n true)) 0
first-all_true zero = rw (nil-repeated true) refl
first-all_true (suc n) = rw (lt-ltb 0 (suc n) (omega arith)) (sym (positions-repeated_true_at (suc n) 0 (omega arith)))

pub last-all_true : (n : ℕ) (o : Option ℕ) → SomeIff o (1 ≤ n) (n - 1) → o ≡ slice_get (positions (repeated n true)) (count (repeated n true) - 1)
last-all_true n None none = grind (arith, slice_get_past (positions (repeated n true)) (count (repeated n true) - 1), count-repeated_true n)
last-all_true n (Some p) some = grind (arith, positions-repeated_true_at n (n - 1), count-repeated_true n)

pub slice_get-all_false : (n k : ℕ) → slice_get (positions (repeated n false)) k ≡ None
slice_get-all_false n k = ap (λ indices. slice_get indices k) (positions-all_false n)

pub ruleset end_facts = (slice_get-all_false, first-all_true, last-all_true, length-repeated)

-- each of the values before a place of an all-true list is true
pub count_below-all_true : (n i : ℕ) → i ≤ n → count_below (repeated n true) i ≡ i
unfolding repeated
count_below-all_true n i h = ap count (take-replicate i n true h) ∙ count-repeated_true i

pub counts-all_true : (n : ℕ) (xs : List ℕ) → All (λ i. i ≤ length (repeated n true)) xs → map (count_below (repeated n true)) xs ≡ xs
counts-all_true n [] h = refl
counts-all_true n (x ∷ xs) h = grind (arith, common_steps, count_below-all_true, All-head, length-repeated, All-tail, counts-all_true n xs (All-tail (λ i. i ≤ length (repeated n true)) x xs h))

-- and none of an all-false one
count_below-all_false : (n i : ℕ) → count_below (repeated n false) i ≡ 0
count_below-all_false n i = grind (arith, common_steps, count-append (take i (repeated n false)) (drop i (repeated n false)), take-append-drop i (repeated n false), count-repeated_false n)

pub counts-all_false : (n : ℕ) (xs : List ℕ) → map (count_below (repeated n false)) xs ≡ replicate (length xs) 0
counts-all_false n [] = refl
counts-all_false n (x ∷ xs) = ap₂ (λ (y : ℕ) (ys : List ℕ). y ∷ ys) (count_below-all_false n x) (counts-all_false n xs)

pub ruleset one_value_counts = (counts-all_true, counts-all_false)

-- ---- counts that run on

-- a count up to an index, and the true values from there to the next one, are the count up to that
pub count-runs_on : (m : List Bool) (i j : ℕ) → i ≤ j → count_below m i + count (slice_range m i j) ≡ count_below m j
count-runs_on m i j ordered = grind (arith, count-part_further)

pub ruleset running_counts = (common_steps, map_more, count-runs_on, count_below-within)
