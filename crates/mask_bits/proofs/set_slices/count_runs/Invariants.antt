use Rattle.mask_bits.proofs.Common.{◌≡◌, ◌+◌, ◌*◌, length, drop, count, runs, starts_of}
use Rattle.mask_bits.proofs.set_slices.count_runs.Given as goal

-- those so far, and those that begin in the rest, are all
abbrev pub invariant-loop-i : goal.invariant-loop-i
invariant-loop-i l = l.count + count (starts_of l.inside (drop (64 * l.i) l.chunks)) ≡ length (runs l.chunks)
