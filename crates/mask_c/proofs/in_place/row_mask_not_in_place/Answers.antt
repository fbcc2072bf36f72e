use Rattle.mask_c.proofs.Common.{front-taken, ap, ◌∙◌, arith, length-take, not_of}
use Rattle.mask_c.proofs.LastLemmas.{front-appended}
use Rattle.mask_c.proofs.in_place.row_mask_not_in_place.Goals as goal

pub returns-clause-values : goal.returns-clause-values
returns-clause-values c =
    c.clear_behind.ensures.list
    ∙ front-appended c.negate_in_place.new.bytes _ c.args.len (omega (arith, c.div_ceil.ensures, c.negate_in_place.auto.bytes, length-take c.div_ceil.result c.args.bytes.now, c.requires.room))
    ∙ c.negate_in_place.ensures
    ∙ ap not_of (front-taken c.args.bytes.now c.div_ceil.result c.args.len (omega (arith, c.div_ceil.ensures)))
