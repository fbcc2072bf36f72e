-- The bits of a list at the true values of another, as they are being written by words.
use Rattle.std.specs.Prelude.{ℕ, ◌*◌, ◌/◌, ◌%◌, ◌≤◌, ◌≡◌, ◌++◌, Bool, List, drop, take}
use Rattle.std.specs.Int.{bit_at}
use Rattle.mask_bits.specs.Bitmap.{bitmap}
use Rattle.mask_bits.specs.Positions.{chosen, count}
use Rattle.mask_bits.specs.Words.{word_bits}

-- the first n values of a list that is being written: those of the whole words are there, and the others are the lowest bits of a word
abbrev pub values_so_far : List ℕ → ℕ → ℕ → List Bool
values_so_far bytes begun n = bitmap bytes 0 (64 * (n / 64)) ++ take (n % 64) (word_bits begun)

-- `out` and a word have the values that the first i words of the masks choose, n of them, with clear bits behind those in the word, and what is behind the whole words is as it was in `old`
pub record AreChosenSoFar (values masks : List Bool) (i : ℕ) (old out : List ℕ) (word n : ℕ) : Type 0 where
  pub list : values_so_far out word n ≡ chosen (take (64 * i) values) (take (64 * i) masks)
  pub counted : n ≡ count (take (64 * i) masks)
  pub clear : (j : ℕ) → n % 64 ≤ j → bit_at word j ≡ 0
  pub behind : drop (8 * (n / 64)) out ≡ drop (8 * (n / 64)) old
