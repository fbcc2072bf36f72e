use Rattle.std.proofs.Common.{length}
use Rattle.mask_bench.proofs.calls.+are_a_stack.Given as goal

abbrev pub decreases-are_a_stack : goal.decreases-are_a_stack
decreases-are_a_stack l = length l.rest.now
