use Rattle.mask_bits.proofs.Common.{◌+◌, refl}
use Rattle.mask_bits.proofs.WriteLemmas.{written-bits_clear}
use Rattle.mask_bits.proofs.write_bits.put_windows.Goals as goal

pub put_word-requires-clause-clear : goal.put_word-requires-clause-clear
put_word-requires-clause-clear c =
    written-bits_clear c.args.bytes.now c.loop-done.bytes c.args.from.now c.args.at c.args.offset c.loop-done.done (c.args.at + c.loop-done.done) refl c.loop-done.invariant.written
