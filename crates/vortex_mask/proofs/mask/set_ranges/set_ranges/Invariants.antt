use Rattle.vortex_mask.proofs.Common.{◌≡◌, ℕ, take, list_any, backing_bit, is_inside}
use Rattle.vortex_mask.proofs.mask.set_ranges.set_ranges.Given as goal

-- the bits in the ranges before are set
abbrev pub invariant-loop-start : goal.invariant-loop-start
invariant-loop-start l = (p : ℕ) → backing_bit l.bytes p ≡ list_any (is_inside p) (take l.start-index l.ranges)
