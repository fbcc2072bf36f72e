-- The list of a list's runs, and that of lists of one value.
use Rattle.mask_bits.proofs.Common.{◌≡◌, ℕ, zero, suc, ◌+◌, true, List, [], ◌∷◌, sym, subst, arith, ◌<◌, false, repeated, AreRuns, runs_from, runs}
use Rattle.mask_bits.specs.Laws.Runs.{RunsAreTheList}
use Rattle.mask_bits.proofs.Lists.Runs.RunLemmas.{AreRuns-runs_from, runs_from-AreRuns}
use Rattle.mask_bits.proofs.Lists.Words.WalkLemmas.{runs_from-repeated_false}

pub runs_are_the_list : RunsAreTheList
runs_are_the_list m rs = (λ same. subst (λ (ss : List (ℕ × ℕ)). AreRuns m ss) (sym same) (AreRuns-runs_from m), λ are. runs_from-AreRuns m rs are)

-- from place i on, k + 1 true values
runs_from-repeated_true : (i k e : ℕ) → e ≡ i + k + 1 → runs_from i (repeated (suc k) true) ≡ (i, e) ∷ []
unfolding repeated
runs_from-repeated_true i zero e len = grind arith
runs_from-repeated_true i (suc k) e len = grind (arith, runs_from-repeated_true (i + 1) k e (omega arith))

-- an all-true list that isn't empty is one run
pub run_of_all_true : (n : ℕ) → 0 < n → runs (repeated n true) ≡ (0, n) ∷ []
run_of_all_true zero some = absurd (omega arith)
run_of_all_true (suc k) some = runs_from-repeated_true 0 k (suc k) (omega arith)

-- an all-false list has no run
pub runs_of_all_false : (n : ℕ) → runs (repeated n false) ≡ []
runs_of_all_false n = runs_from-repeated_false 0 n
