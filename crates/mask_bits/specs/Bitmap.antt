-- A bitmap: plain bytes, the position of the first bit, and how many bits there are.
use Rattle.std.specs.Prelude.{ℕ, Bool, List}
use Rattle.mask_bits.specs.Buffer.{values}

-- its list of truth values
abbrev pub bitmap : List ℕ → ℕ → ℕ → List Bool
bitmap bytes offset len = values (record { bytes = bytes; offset = offset; len = len })
