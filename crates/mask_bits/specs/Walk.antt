-- Walks over a list by its started words. No public clause cites these terms.
use Rattle.std.specs.Prelude.{ℕ, ◌+◌, ◌*◌, ◌/◌, ◌≡◌, ◌<◌, ◌≤◌, ◌^◌, ◌%◌, Bool, true, false, List, ◌++◌, length, take, drop, slice_index_or}
use Rattle.std.specs.Int.{bit_at}
use Rattle.mask_bits.specs.Positions.{repeated}
use Rattle.mask_bits.specs.Words.{word_bits, padded_part}

-- a list whose values before started word i are passed, and where those of word i are the bits of w: passed values are false
unfoldable pub left_of : List Bool → ℕ → ℕ → List Bool
left_of m i w = take (length m) (repeated (64 * i) false ++ (word_bits w ++ drop (64 * i + 64) m))

-- word i begins within the list, and w is a word that has no bit past its end
pub record IsLeft (m : List Bool) (i w : ℕ) : Type 0 where
  pub word : w < 2 ^ 64
  pub within : 64 * i ≤ length m
  pub ends : (j : ℕ) → j < 64 → length m ≤ 64 * i + j → bit_at w j ≡ 0

-- between the start of word i, where w is left, and that of word j, where v is, all values are true
pub record PassesTrue (m : List Bool) (i w j v : ℕ) : Type 0 where
  pub is : IsLeft m j v
  pub later : i ≤ j
  pub full : (p : ℕ) → 64 * i ≤ p → p < 64 * j → slice_index_or (left_of m i w) p false ≡ true
  pub rest : (p : ℕ) → 64 * j ≤ p → slice_index_or (left_of m j v) p false ≡ slice_index_or (left_of m i w) p false

-- the values from n to e are those of one word, w, and where none is left of it the next one begins or the list ends
pub record IsAtHand (m : List Bool) (n e w : ℕ) : Type 0 where
  pub before : n ≤ e
  pub within : e ≤ length m
  pub word : n < e → word_bits w ≡ padded_part m (n / 64)
  pub inside : n < e → e ≤ 64 * (n / 64) + 64
  pub ends : e < length m → e % 64 ≡ 0
