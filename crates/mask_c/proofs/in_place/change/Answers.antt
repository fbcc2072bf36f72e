use Rattle.mask_c.proofs.Common.{front-taken, ap, ◌∙◌, arith, length-take, bitmap, combined}
use Rattle.mask_c.proofs.LastLemmas.{front-appended}
use Rattle.mask_c.proofs.in_place.change.Goals as goal

pub returns-clause-values : goal.returns-clause-values
returns-clause-values g c =
    c.clear_behind.ensures.list
    ∙ front-appended c.combine_in_place.new.bytes _ c.args.len (omega (arith, c.div_ceil.ensures, c.combine_in_place.auto.bytes, length-take c.div_ceil.result c.args.a.now, c.requires.room))
    ∙ c.combine_in_place.ensures
    ∙ ap (λ m. combined g.C.BitOp.of_bits m (bitmap c.args.b.now c.args.b_offset c.args.len)) (front-taken c.args.a.now c.div_ceil.result c.args.len (omega (arith, c.div_ceil.ensures)))
