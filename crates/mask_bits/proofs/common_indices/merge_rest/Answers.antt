use Rattle.mask_bits.proofs.Common.{◌∙◌, inr, map, arith, length-map}
use Rattle.mask_bits.proofs.Lists.CommonLemmas.{merge_is_over}
use Rattle.mask_bits.proofs.common_indices.merge_rest.Goals as goal

pub returns-else-at-other-clause-found : goal.returns-else-at-other-clause-found
returns-else-at-other-clause-found g c = λ b a.
    let row = g.N.RowIndex.row_number in
    let at = c.loop-at.at in
    merge_is_over (map row c.loop-at.list) (map row c.args.other.now) at.list at.other at.found (inr (omega (arith, length-map c.args.other.now row, c.if-at-other.false))) ∙ c.loop-at.invariant.same b a
