use Rattle.std.proofs.Common.{arith}
use Rattle.mask_bench.proofs.calls.ascends.Goals as goal

pub returns : goal.returns
returns c = (λ yes k h. c.loop-at.invariant.0 yes k (omega arith) h, λ all. c.loop-at.invariant.1 (λ k h within. all k within))
