use Rattle.mask_bits.proofs.Common.{[], ◌+◌, ◌*◌, drop, arith, append-nil, length-append, values, word_bits}
use Rattle.mask_bits.proofs.RunWordLemmas.{behind-front, behind-whole, behind-remainder, remainder_ends}
use Rattle.mask_bits.proofs.buffer.BitBuffer.runs.Goals as goal

pub push_runs-begun-requires-clause-room : goal.push_runs-begun-requires-clause-room
push_runs-begun-requires-clause-room c =
    grind (arith, length-append, behind-whole, behind-front c.loop-i.begun.inside c.loop-i.begun.start (64 * c.loop-i.i) (word_bits c.word.result) (drop (64 * (c.loop-i.i + 1)) (values c.args.self.now)))

pub loop-i-preserved : goal.loop-i-preserved
loop-i-preserved c = grind (arith, behind-whole)

pub push_runs-requires-clause-room : goal.push_runs-requires-clause-room
push_runs-requires-clause-room c = grind (arith, behind-remainder, length-append)

pub returns : goal.returns
returns c = grind (arith, append-nil, behind-remainder, remainder_ends, c.push_runs.ensures.runs [])
