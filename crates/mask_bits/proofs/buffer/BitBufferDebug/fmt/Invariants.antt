use Rattle.mask_bits.proofs.Common.{map, HasWritten, IsPlainFormatter, digit}
use Rattle.mask_bits.proofs.buffer.BitBufferDebug.fmt.Given as goal

-- a digit is written for each value so far
abbrev pub invariant-loop-value : goal.invariant-loop-value
invariant-loop-value g l = IsPlainFormatter l.initial.f → HasWritten g.W.Write.write_str_gives l.initial.f (map digit l.yielded) l.f
