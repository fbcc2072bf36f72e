-- Two masks of mixed values, narrowed on their path.
use Rattle.vortex_mask.proofs.Common.{◌≡◌, ℕ, Bool, List, length, Option, Result, Ok, Err, ap, ◌∙◌, YieldsList, WholeRun, IfOk, positions, count, at_indices, rank_intersection, truth, positions-within, positions-ascending, rank_intersection_is_the_list, Mask}
use Rattle.vortex_mask.proofs.Kernels.RankRunLemmas.{taken_whole}

-- a list of a's length that is true at a's true indices taken at b's is the rank intersection
pub list_from_places : (a b m : List Bool) → length b ≡ count a → length m ≡ length a → positions m ≡ at_indices (positions a) (positions b) → m ≡ rank_intersection a b
list_from_places a b m fits len indices = (rank_intersection_is_the_list a b m fits).1 (record { len = len; indices = indices })

-- so is what a kernel answers that goes by an iterator over b's
pub list_from_ranks : {S E X : Type 0} (steps : S → Option ℕ → S → Type 0) (s : S) (ranks : List ℕ) → YieldsList steps (λ x. x) s ranks
    → (a b held : List Bool) (r : Result (Mask × X) E) → length b ≡ count a → held ≡ a → ranks ≡ positions b
    → IfOk r (λ x. length (truth x.0) ≡ length held) → IfOk r (λ x. WholeRun steps s (λ p. positions (truth x.0) ≡ at_indices (positions held) p.items))
    → IfOk r (λ x. truth x.0 ≡ rank_intersection a b)
list_from_ranks steps s ranks yields a b held (Ok x) fits same is_ranks len run =
    list_from_places a b (truth x.0) fits (len ∙ ap length same) (rw (← same, ← is_ranks) (taken_whole steps s ranks yields _ _ run))
list_from_ranks steps s ranks yields a b held (Err e) fits same is_ranks len run = tt

pub ruleset path_facts = (list_from_places, positions-ascending, positions-within)
