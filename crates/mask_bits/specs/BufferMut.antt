-- A list of truth values under construction, and what is written behind the first bits of some bytes.
use Rattle.std.specs.Prelude.{ℕ, ◌+◌, ◌*◌, ◌%◌, ◌≡◌, ◌<◌, ◌≤◌, Bool, false, List, length, slice_index_or}
use Rattle.mask_bits.specs.Buffer.{backing_bit}

-- the bits before position `at` stay; from there on come the values of m, and then zeros
pub record IsWrittenBehind (old new : List ℕ) (at : ℕ) (m : List Bool) : Type 0 where
  pub stays : (p : ℕ) → p < at → backing_bit new p ≡ backing_bit old p
  pub comes : (i : ℕ) → backing_bit new (at + i) ≡ slice_index_or m i false

-- from position `at` on all bits are clear
abbrev pub AreClearFrom : ℕ → List ℕ → Type 0
AreClearFrom at bytes = (p : ℕ) → at ≤ p → backing_bit bytes p ≡ false

-- whole words that hold the first len bits, and zeros past them
pub record IsRoom (bytes : List ℕ) (len : ℕ) : Type 0 where
  pub whole : length bytes % 8 ≡ 0
  pub covered : len ≤ 8 * length bytes
  pub clear : AreClearFrom len bytes
