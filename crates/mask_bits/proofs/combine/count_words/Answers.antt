use Rattle.mask_bits.proofs.Common.{◌*◌, ◌+◌, arith}
use Rattle.mask_bits.proofs.CombineLemmas.{AreCombined-step}
use Rattle.mask_bits.proofs.CompareLemmas.{count-at_most, count-step}
use Rattle.mask_bits.proofs.combine.count_words.Goals as goal

pub overflow_add-count : goal.overflow_add-count
overflow_add-count g c =
    grind (arith, count-at_most g.C.BitOp.of_bits c.args.a.bytes.now c.args.b.bytes.now c.args.a.low c.args.b.low (64 * (c.loop-i.i + 1)), count-step)

pub loop-i-preserved : goal.loop-i-preserved
loop-i-preserved g c = record {
  list = AreCombined-step g.C.BitOp.of_bits c.args.a.bytes.now c.args.b.bytes.now c.loop-i.out c.set_word.new.bytes c.args.a.low c.args.b.low c.loop-i.i _ _ _
      c.loop-i.invariant.list c.word.ensures c.word-in-loop-i.ensures c.of-word.ensures c.set_word.ensures.here c.set_word.ensures.others;
  counted = grind (arith, count-step);
}
