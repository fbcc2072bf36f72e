use Rattle.mask_c.proofs.Common.{◌≡◌, ◌+◌, ◌-◌, ◌<◌, ◌≤◌, ◌++◌, ℕ, drop, length, map, take, All, bitmap, runs_from}
use Rattle.mask_c.proofs.RunLemmas.{moved, pair}
use Rattle.mask_c.proofs.runs.row_mask_next_runs.Given as goal

-- the runs so far and those that are left are all, and what is behind them is as it was
abbrev pub invariant-loop-at : goal.invariant-loop-at
invariant-loop-at l = record {
  all : map pair (take l.at l.out) ++ map (moved l.from) l.runs ≡ runs_from l.from (drop l.from (bitmap l.bytes l.offset l.len));
  counted : l.at + length l.runs ≡ length (runs_from l.from (drop l.from (bitmap l.bytes l.offset l.len)));
  nonempty : All (λ (r : ℕ × ℕ). r.0 < r.1) l.runs;
  within : All (λ (r : ℕ × ℕ). r.1 ≤ l.len - l.from) l.runs;
  room : l.at ≤ length l.out;
  behind : drop l.at l.out ≡ drop l.at l.fn.out;
}

abbrev pub decreases-loop-at : goal.decreases-loop-at
decreases-loop-at l = length l.out - l.at
