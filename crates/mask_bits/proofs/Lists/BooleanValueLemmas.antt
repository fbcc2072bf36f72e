-- The values of boolean calls, how many of them are true, and the rows that they choose: by recursion on the first list.
use Rattle.mask_bits.proofs.Common.{◌≡◌, ◌+◌, Bool, false, nat_eq, List, [], ◌∷◌, length, refl, arith, ℕ, ◌<◌, list_any, get_or-map-range_with_len, not_of, true_at, count, slice_index_or}
use Rattle.mask_bits.proofs.Lists.Places.PlaceLemmas.{trues, count-trues}

-- ---- values

-- and its value i is true exactly if i is one of them
pub value_of_true_at : (n : ℕ) (indices : List ℕ) (i : ℕ) → i < n → slice_index_or (true_at n indices) i false ≡ list_any (nat_eq i) indices
unfolding true_at
value_of_true_at n indices i h = get_or-map-range_with_len (λ j. list_any (nat_eq j) indices) 0 n i i false h (omega arith)

-- ---- counts

trues-complement : (m : List Bool) → trues m + trues (not_of m) ≡ length m
trues-complement [] = refl
trues-complement (v ∷ m) = grind (arith, trues-complement m)

-- the true values of a list and of its complement are all values
pub count_of_complement : (m : List Bool) → count m + count (not_of m) ≡ length m
count_of_complement m = omega (arith, trues-complement m, count-trues m, count-trues (not_of m))
