use Rattle.vortex_mask.proofs.Common.{◌+◌, ◌<◌, ◌↔◌, ℕ, length, get_or, IsTrue}
use Rattle.vortex_mask.proofs.conditions.ascends.Given as goal

-- the indices before this one ascend
abbrev pub invariant-loop-at : goal.invariant-loop-at
invariant-loop-at l = IsTrue l.ascends ↔ ((k : ℕ) → k + 1 < l.at → k + 1 < length l.indices → get_or l.indices k 0 < get_or l.indices (k + 1) 0)
