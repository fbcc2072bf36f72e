use Rattle.vortex_mask.proofs.Common.{sym, ap, ap₂, ◌∙◌, inr, IfOk-weaker, common, out_of_bounds}
use Rattle.vortex_mask.proofs.Masks.MaskWalkLemmas.{drained}
use Rattle.vortex_mask.proofs.mask.Mask.from_intersection_indices.Goals as goal

pub returns-clause-indices : goal.returns-clause-indices
returns-clause-indices g c =
    let left = c.in_ok-lhs.ensures.ran in
    let right = c.in_ok-rhs.ensures.ran in
    let same = c.shrink_to_fit.ensures.items ∙ c.common-indices.ensures ∙ ap₂ common left.2.0 right.2.0 in
    IfOk-weaker c.of_indices.result _ _ (λ m is. (left.0, right.0, drained g.L.Iterator.next_gives c.args.lhs left.0 left.1, drained g.R.Iterator.next_gives c.args.rhs right.0 right.1, is.true_indices ∙ same)) c.of_indices.ensures.mask

pub returns-clause-whole : goal.returns-clause-whole
returns-clause-whole g c =
    let left = c.in_ok-lhs.ensures.runs tt in
    let right = c.in_ok-rhs.ensures.runs tt in
    let same = c.shrink_to_fit.ensures.items ∙ c.common-indices.ensures ∙ ap₂ common left.3.0 right.3.0 in
    IfOk-weaker c.of_indices.result _ _ (λ m is. (left.0, left.1, left.2, (right.0, right.1, right.2, is.true_indices ∙ same))) c.of_indices.ensures.mask

pub returns-in-Some-clause-refused_whole : goal.returns-in-Some-clause-refused_whole
returns-in-Some-clause-refused_whole g c =
    let left = c.in_ok-lhs.ensures.runs tt in
    let right = c.in_ok-rhs.ensures.runs tt in
    let same = c.deref.ensures.value ∙ c.common-indices.ensures ∙ ap₂ common left.3.0 right.3.0 in
    inr (left.0, left.1, left.2, (right.0, right.1, right.2, ap (out_of_bounds c.args.len) (sym same) ∙ sym c.out_of_bounds.ensures ∙ c.in-Some.is))
