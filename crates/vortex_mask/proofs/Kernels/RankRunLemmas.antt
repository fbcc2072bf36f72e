-- An iterator that yields ascending numbers, as it is handed to the kernel that goes by them.
use Rattle.vortex_mask.proofs.Common.{common_steps, ◌≡◌, ℕ, ◌<◌, true, List, length, take, Option, None, refl, sym, subst, ap, ◌∙◌, arith, YieldsList, YieldsList-so_far, YieldsList-end, map-id, All-take, Yields, Run, EachRunFrom, WholeRun, IsStrictlyIncreasing, at_indices, AreRanks, All}
use Rattle.std.specs.Iterator.Runs.{YieldsRun}
use Rattle.vortex_mask.proofs.Lists.PlaceListLemmas.{ascending-take}

module _ {S : Type 0} (steps : S → Option ℕ → S → Type 0) (s : S) (all : List ℕ) (yields : YieldsList steps (λ x. x) s all) where
  -- a run gives the first of them
  given : (p : Run steps) → p.from ≡ s → p.items ≡ take (length p.items) all
  unfolding YieldsRun
  given p at = sym (map-id p.items) ∙ YieldsList-so_far yields p.items p.gave.0.0 (subst (λ u. Yields steps u p.items p.gave.0.0) at p.gave.0.1)

  -- and to the end all of them
  given_whole : (p : Run steps) → p.from ≡ s → p.whole ≡ true → p.items ≡ all
  unfolding YieldsRun
  given_whole p at whole = grind (arith, common_steps, map-id p.items, YieldsList-end yields p.items p.gave.0.0 (subst (λ u. Yields steps u p.items p.gave.0.0) at p.gave.0.1) None (p.gave.0.2 whole).0 refl (p.gave.0.2 whole).1)

  pub are_ranks : (top n : ℕ) → IsStrictlyIncreasing all → All (λ k. k < top) all → length all ≡ n → EachRunFrom steps s (AreRanks top n)
  are_ranks top n ascending within counted = λ p _ at. (
    subst IsStrictlyIncreasing (sym (given p at)) (ascending-take (length p.items) all ascending),
    subst (All (λ k. k < top)) (sym (given p at)) (All-take (λ k. k < top) (length p.items) all within),
    λ whole. p.long ∙ ap length (given_whole p at whole) ∙ counted,
  )

  -- what is at the indices that a run to the end gives is at all of them
  pub taken_whole : (found indices : List ℕ) → WholeRun steps s (λ p. found ≡ at_indices indices p.items) → found ≡ at_indices indices all
  taken_whole found indices run = run.3 ∙ ap (at_indices indices) (given_whole run.0 run.1 run.2)
