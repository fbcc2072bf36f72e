use Rattle.mask_bits.proofs.Common.{◌≡◌, ◌+◌, ◌*◌, ◌≤◌, ◌++◌, length, drop, values, runs, runs_behind, vec_capacity}
use Rattle.mask_bits.proofs.buffer.BitBuffer.runs.Given as goal

-- the runs that the words so far end, and those of the rest, are all, and there is room for these and two more
abbrev pub invariant-loop-i : goal.invariant-loop-i
invariant-loop-i l = record {
  list : l.ranges.items ++ runs_behind l.begun.inside l.begun.start (64 * l.i) (drop (64 * l.i) (values l.self)) ≡ runs (values l.self);
  room : length (runs (values l.self)) + 2 ≤ vec_capacity l.ranges;
}
