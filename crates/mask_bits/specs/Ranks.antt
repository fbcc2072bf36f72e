-- A directory of counts: how many true values a list has before each of its blocks of 512.
use Rattle.std.specs.Prelude.{ℕ, ◌+◌, ◌*◌, ◌<◌, ◌≡◌, Bool, List, length, slice_index}
use Rattle.std.specs.Int.{div_ceil}
use Rattle.mask_bits.specs.Positions.{count_below}

-- a count for each started block, of the true values before it, and last that of all true values
pub record AreCountsBefore (m : List Bool) (before : List ℕ) : Type 0 where
  pub len : length before ≡ div_ceil (length m) 512 + 1
  pub each : (i : ℕ) → i < length before → slice_index before i ≡ count_below m (512 * i)
