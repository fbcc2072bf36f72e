use Rattle.vortex_mask.proofs.Common.{map, HasWritten, IsPlainFormatter, digit}
use Rattle.vortex_mask.proofs.mask.MaskDisplay.fmt.Given as goal

-- a digit is written for each value so far
abbrev pub invariant-loop-is_true : goal.invariant-loop-is_true
invariant-loop-is_true g l = IsPlainFormatter l.initial.f → HasWritten g.W.Write.write_str_gives l.initial.f (map digit l.yielded) l.f
