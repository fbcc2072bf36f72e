-- Words of 64 bits as lists of truth values.
use Rattle.std.specs.Prelude.{ℕ, ◌+◌, ◌*◌, ◌-◌, ◌/◌, ◌%◌, ◌≡◌, Bool, false, nat_eq, List, [], ◌∷◌, ◌++◌, length, take, drop, map, slice_range}
use Rattle.std.specs.Int.{bit_at}
use Rattle.std.specs.List.{range_with_len}
use Rattle.mask_bits.specs.Buffer.{backing_bit}
use Rattle.mask_bits.specs.Positions.{count_below, repeated}

-- the 64 truth values of a word: value i is true exactly if the word divided by 2 ^ i, rounded down, is odd
unfoldable pub word_bits : ℕ → List Bool
word_bits w = map (λ i. nat_eq (bit_at w i) 1) (range_with_len 0 64)

-- the 64 backing bits from position p on
unfoldable pub window : List ℕ → ℕ → List Bool
window bytes p = map (λ j. backing_bit bytes (p + j)) (range_with_len 0 64)

-- part i of a list cut into whole words: its values from 64 * i on
abbrev pub word_part : List Bool → ℕ → List Bool
word_part m i = slice_range m (64 * i) (64 * i + 64)

-- the parts of a list cut into whole words
unfoldable pub word_parts : List Bool → List (List Bool)
word_parts m = map (word_part m) (range_with_len 0 (length m / 64))

-- the values past the whole words, and false values up to a whole word
abbrev pub padded_remainder : List Bool → List Bool
padded_remainder m = drop (64 * (length m / 64)) m ++ repeated (64 - length m % 64) false

-- how many words of 64 values n values start
abbrev pub started_words : ℕ → ℕ
started_words n = (n + 63) / 64

-- started part i of a list: its values from 64 * i on, and false values up to a whole word
abbrev pub padded_part : List Bool → ℕ → List Bool
padded_part m i = take 64 (drop (64 * i) m ++ repeated 64 false)

-- the started parts of a list: the whole ones, and the remainder where there is one
unfoldable pub padded_parts : List Bool → List (List Bool)
padded_parts m = map (padded_part m) (range_with_len 0 (started_words (length m)))

-- the values of words, one word after another
abbrev pub bits_of_words : List ℕ → List Bool
bits_of_words [] = []
bits_of_words (w ∷ ws) = word_bits w ++ bits_of_words ws

-- set bit number n of a word, counted from 0 at the lowest, stands at place p
pub record IsPlaceOf (w n p : ℕ) : Type 0 where
  pub set : bit_at w p ≡ 1
  pub number : count_below (word_bits w) p ≡ n
