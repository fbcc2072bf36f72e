-- What it means to deposit the bits of a word at the set places of a mask word, and to select a set place of a word.
use Rattle.std.specs.Prelude.{ℕ, ◌≡◌, ◌<◌, ◌↔◌, slice_index}
use Rattle.std.specs.Int.{bit_at}
use Rattle.mask_bits.specs.Positions.{positions, count_below}
use Rattle.mask_bits.specs.Words.{word_bits}

-- bit i of the result is set exactly where bit i of the mask is, and so is the source bit whose number is the count of mask bits below i
pub record Deposits (source mask result : ℕ) : Type 0 where
  pub bits : (i : ℕ) → i < 64 → (bit_at result i ≡ 1) ↔ ((bit_at mask i ≡ 1) × (bit_at source (count_below (word_bits mask) i) ≡ 1))

-- the place of set bit number n of a word
abbrev pub selected : ℕ → ℕ → ℕ
selected w n = slice_index (positions (word_bits w)) n
