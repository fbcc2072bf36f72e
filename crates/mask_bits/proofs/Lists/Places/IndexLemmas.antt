-- True indices in their order, the count below the next one, and the ranges of a list of one value.
use Rattle.mask_bits.proofs.Common.{◌≡◌, ℕ, ◌+◌, ◌<◌, ◌≤◌, true, false, List, [], ◌∷◌, length, get_or, Some, subst, IsNonDecreasingBy-from_all_adjacent, le_from_is_le, repeated, AreRuns, AllAdjacentBelow, IsNonDecreasing, nat_cmp, partial_le}
use Rattle.mask_bits.proofs.Lists.Runs.RunLemmas.{AreRuns-runs_from}
use Rattle.mask_bits.proofs.Lists.Runs.RunListLemmas.{run_of_all_true, runs_of_all_false}

-- ---- lists of one value

-- an all-true list that isn't empty is one run
pub all_true_is_one_run : (n : ℕ) → 0 < n → AreRuns (repeated n true) ((0, n) ∷ [])
all_true_is_one_run n some = subst (λ (rs : List (ℕ × ℕ)). AreRuns (repeated n true) rs) (run_of_all_true n some) (AreRuns-runs_from (repeated n true))

-- an all-false list has no run
pub all_false_has_no_run : (n : ℕ) → AreRuns (repeated n false) []
all_false_has_no_run n = subst (λ (rs : List (ℕ × ℕ)). AreRuns (repeated n false) rs) (runs_of_all_false n) (AreRuns-runs_from (repeated n false))

-- ---- numbers that were tested

-- numbers of which none is above the next don't fall
pub neighbors_do_not_fall : (xs : List ℕ) → AllAdjacentBelow (λ x y. x ≤ y) xs (length xs) → IsNonDecreasing xs
neighbors_do_not_fall xs all = IsNonDecreasingBy-from_all_adjacent (λ x. x) xs all

-- nor do numbers that `is_sorted` finds so
pub sorted_do_not_fall : (xs : List ℕ) → AllAdjacentBelow (λ x y. partial_le (λ a b. Some (nat_cmp a b)) x y ≡ true) xs (length xs) → IsNonDecreasing xs
sorted_do_not_fall xs all = neighbors_do_not_fall xs (λ k d h. le_from_is_le (get_or xs k d) (get_or xs (k + 1) d) (all k d h))
