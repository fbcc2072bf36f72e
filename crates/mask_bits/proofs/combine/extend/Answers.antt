use Rattle.mask_bits.proofs.CombineLemmas.{AreCombined-step}
use Rattle.mask_bits.proofs.combine.extend.Goals as goal

pub loop-i-preserved : goal.loop-i-preserved
loop-i-preserved g c =
    AreCombined-step g.C.BitOp.of_bits c.args.a.bytes.now c.args.b.bytes.now c.loop-i.out c.set_word.new.bytes c.args.a.low c.args.b.low c.loop-i.i _ _ _
    c.loop-i.invariant c.word.ensures c.word-in-loop-i.ensures c.of.ensures c.set_word.ensures.here c.set_word.ensures.others
