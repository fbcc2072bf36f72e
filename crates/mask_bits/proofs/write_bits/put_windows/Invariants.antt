use Rattle.mask_bits.proofs.Common.{◌-◌, ◌≤◌, values, IsWrittenBehind}
use Rattle.mask_bits.proofs.write_bits.put_windows.Given as goal

-- the bits so far are written
abbrev pub invariant-loop-done : goal.invariant-loop-done
invariant-loop-done l = record {
  within : l.done ≤ l.n;
  written : IsWrittenBehind l.initial.bytes l.bytes l.at (values (record { bytes = l.from; offset = l.offset; len = l.done }));
}

abbrev pub decreases-loop-done : goal.decreases-loop-done
decreases-loop-done l = l.n - l.done
