use Rattle.std.proofs.Common.{◌≡◌, ◌+◌, drop, map, string_bytes}
use Rattle.maskrun.specs.Arguments.{first_mask_fault}
use Rattle.maskrun.proofs.argument.masks.Given as goal

-- the first fault is one of the arguments that are still to be read
abbrev pub invariant-loop-i : goal.invariant-loop-i
invariant-loop-i l = first_mask_fault 1 (map string_bytes l.arguments) ≡ first_mask_fault (l.i + 1) (map string_bytes (drop l.i l.arguments))
