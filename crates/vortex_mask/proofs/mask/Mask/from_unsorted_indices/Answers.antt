use Rattle.vortex_mask.proofs.Common.{◌≡◌, List, ℕ, Some, None, length, inl, inr, ap, ◌∙◌, IfOk-weaker, true_at, length-true_at, out_of_bounds, truth, IndexOutOfBounds}
use Rattle.vortex_mask.proofs.Masks.FaultLemmas.{out_of_bounds-first}
use Rattle.vortex_mask.proofs.Masks.MaskWalkLemmas.{whole_run}
use Rattle.vortex_mask.proofs.mask.Mask.from_unsorted_indices.Goals as goal

pub returns-in-Some-clause-refused : goal.returns-in-Some-clause-refused
returns-in-Some-clause-refused g c =
    let came = c.include.ensures in
    inr (came.0, came.1, out_of_bounds-first c.args.len came.0 c.include.result _ came.3 c.in-Some.is)

pub returns-in-Some-clause-refused_whole : goal.returns-in-Some-clause-refused_whole
returns-in-Some-clause-refused_whole g c = elim (returns-in-Some-clause-refused g c) [
  | inl memory ↦ inl memory
  | inr came ↦ inr (whole_run _ _ (λ (xs : List ℕ). out_of_bounds c.args.len xs ≡ Some (IndexOutOfBounds c.in-Some.index c.args.len)) came.0 came.1 came.2)
]

pub returns-clause-list : goal.returns-clause-list
returns-clause-list g c =
    let came = c.include.ensures in
    let none = out_of_bounds-first c.args.len came.0 c.include.result _ came.3 c.in_default.is in
    IfOk-weaker c.from_buffer.result _ _ (λ m same. (came.0, came.1, none, same ∙ c.in_ok-freeze.ensures ∙ came.2)) c.from_buffer.ensures.list

pub returns-clause-whole : goal.returns-clause-whole
returns-clause-whole g c =
    IfOk-weaker c.from_buffer.result _ _ (λ m made.
    whole_run _ _ (λ (xs : List ℕ). (out_of_bounds c.args.len xs ≡ None) × (truth m ≡ true_at c.args.len xs)) made.0 made.1 (made.2, made.3)) (returns-clause-list g c)

pub returns-clause-len : goal.returns-clause-len
returns-clause-len g c = IfOk-weaker c.from_buffer.result _ _ (λ m made. ap length made.3 ∙ length-true_at c.args.len made.0) (returns-clause-list g c)
