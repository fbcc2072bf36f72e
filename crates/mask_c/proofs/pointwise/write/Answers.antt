use Rattle.mask_c.proofs.Common.{◌*◌, ◌/◌, ◌∙◌, arith, length-take}
use Rattle.mask_c.proofs.LastLemmas.{written-combined}
use Rattle.mask_c.proofs.pointwise.write.Goals as goal

pub returns-clause-values : goal.returns-clause-values
returns-clause-values g c =
    c.put_remainder.ensures.list
    ∙ written-combined g.C.BitOp.of_bits c.args.a.now c.args.b.now c.args.a_offset c.args.b_offset c.combine.new.out _ _ c.args.len
    (omega (arith, c.combine.auto.out, length-take (8 * (c.args.len / 64)) c.args.out.now, c.requires.room)) c.combine.ensures c.combine_remainder-last.ensures
