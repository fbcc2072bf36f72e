use Rattle.mask_bits.proofs.Common.{arith, one_shifted}
use Rattle.mask_bits.proofs.WindowLemmas.{word_bits-remainder}
use Rattle.mask_bits.proofs.chunks.remainder.Goals as goal

pub returns : goal.returns
returns c =
    grind (arith, one_shifted, word_bits-remainder (record { bytes = c.args.bytes.now; offset = c.args.offset; len = c.args.len }) c.word_at.result c.word_at.ensures)
