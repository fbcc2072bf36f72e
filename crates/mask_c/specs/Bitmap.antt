-- Bitmaps that C passes: what is written into their bytes, whether one has all true values of another, and the rows that one chooses.
use Rattle.std.specs.Prelude.{ℕ, ◌+◌, ◌*◌, ◌<◌, ◌≤◌, ◌≡◌, ◌⊎◌, ◌&&◌, Bool, true, false, List, length, slice_index_or, take}
use Rattle.std.specs.Int.{div_ceil}
use Rattle.mask_bits.specs.Bitmap.{bitmap}
use Rattle.mask_bits.specs.Buffer.{backing_bit, IsWithinBytes}
use Rattle.mask_bits.specs.Positions.{chosen, count}

-- in the bytes that n values take from bit 0 on, the bits behind the last value are clear
abbrev pub AreClearBehind : List ℕ → ℕ → Type 0
AreClearBehind bytes n = (p : ℕ) → n ≤ p → p < 8 * div_ceil n 8 → backing_bit bytes p ≡ false

-- each true value of a is true in b
abbrev pub IsSubset : List Bool → List Bool → Type 0
IsSubset a b = (i : ℕ) → i < length a → slice_index_or a i false ≡ true → slice_index_or b i false ≡ true

-- the bits from position m to n are `value`, and all others as they were
pub record IsFilled (old new : List ℕ) (m n : ℕ) (value : Bool) : Type 0 where
  pub inside : (p : ℕ) → m ≤ p → p < n → backing_bit new p ≡ value
  pub outside : (p : ℕ) → ((p < m) ⊎ (n ≤ p)) → backing_bit new p ≡ backing_bit old p

-- of the first n bits just those stay true whose value in m is true, and all others are as they were
pub record IsNarrowed (old new : List ℕ) (m : List Bool) (n : ℕ) : Type 0 where
  pub inside : (p : ℕ) → p < n → backing_bit new p ≡ (backing_bit old p && slice_index_or m p false)
  pub outside : (p : ℕ) → n ≤ p → backing_bit new p ≡ backing_bit old p

-- the n bits from position `start` on are those of `more` from position `offset` on, and all others as they were
pub record IsWritten (old new : List ℕ) (start : ℕ) (more : List ℕ) (offset n : ℕ) : Type 0 where
  pub inside : (i : ℕ) → i < n → backing_bit new (start + i) ≡ backing_bit more (offset + i)
  pub outside : (p : ℕ) → ((p < start) ⊎ (start + n ≤ p)) → backing_bit new p ≡ backing_bit old p

-- there is a row for each value, and room for those that are chosen
pub record CanChoose {T : Type 0} (bytes : List ℕ) (offset len : ℕ) (rows out : List T) : Type 0 where
  pub within : IsWithinBytes bytes offset len
  pub fitting : length rows ≡ len
  pub room : count (bitmap bytes offset len) ≤ length out

-- the first n rows of `out` are those at the true values of m, in their order
pub record AreChosen {T : Type 0} (rows : List T) (m : List Bool) (out : List T) (n : ℕ) : Type 0 where
  pub front : take n out ≡ chosen rows m
  pub counted : n ≡ count m
