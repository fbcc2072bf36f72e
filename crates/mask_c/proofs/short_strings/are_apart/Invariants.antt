use Rattle.std.proofs.Common.{◌≤◌}
use Rattle.mask_c.proofs.short_strings.are_apart.Given as goal

abbrev pub invariant-loop-k : goal.invariant-loop-k
invariant-loop-k l = l.apart ≤ l.k
