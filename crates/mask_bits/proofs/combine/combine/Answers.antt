use Rattle.mask_bits.proofs.Common.{◌*◌, ◌+◌, ◌/◌, arith}
use Rattle.mask_bits.proofs.CombineLemmas.{values-combined}
use Rattle.mask_bits.proofs.combine.combine.Goals as goal

pub returns-then-whole-words : goal.returns-then-whole-words
returns-then-whole-words g c =
    values-combined g.C.BitOp.of_bits c.args.a.now c.args.b.now c.extend_last.new.out _ _ _ _ c.args.a_offset c.args.b_offset c.args.len (64 * (c.args.len / 64 + 1))
    c.new-a.ensures.bytes c.new-a.ensures.low c.new-b.ensures.bytes c.new-b.ensures.low c.extend_last.ensures (omega arith)

pub returns-else-whole-words : goal.returns-else-whole-words
returns-else-whole-words g c =
    values-combined g.C.BitOp.of_bits c.args.a.now c.args.b.now c.extend_whole.new.out _ _ _ _ c.args.a_offset c.args.b_offset c.args.len (64 * (c.args.len / 64))
    c.new-a.ensures.bytes c.new-a.ensures.low c.new-b.ensures.bytes c.new-b.ensures.low c.extend_whole.ensures (omega (arith, c.started_words-words.ensures))
