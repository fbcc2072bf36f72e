-- What it means to extract the bits of a word at the set places of a mask word, and how it is computed.
use Rattle.std.specs.Prelude.{ℕ, zero, suc, min, ◌+◌, ◌-◌, ◌*◌, ◌/◌, ◌%◌, ◌^◌, ◌≡◌, ◌<◌, ◌↔◌, List, slice_index}
use Rattle.std.specs.Int.{bit_at}
use Rattle.mask_bits.specs.Positions.{positions, count}
use Rattle.mask_bits.specs.Words.{word_bits}

-- bit k of the result is set exactly if the mask has more than k set places and the source bit at set place number k is set
pub record Extracts (source mask result : ℕ) : Type 0 where
  pub bits : (k : ℕ) → k < 64 → (bit_at result k ≡ 1) ↔ ((k < count (word_bits mask)) × (bit_at source (slice_index (positions (word_bits mask)) k) ≡ 1))

-- ---- how it is computed

-- the source's bits at the set ones of the mask's lowest n places, moved down to the low end
unfoldable pub gathered : ℕ → ℕ → ℕ → ℕ
gathered zero source mask = 0
gathered (suc n) source mask = min (source % 2) (mask % 2) + 2 ^ (mask % 2) * gathered n (source / 2) (mask / 2)

-- where the mask is clear at place p, the bits above it moved down by one
unfoldable pub closed_up : ℕ → ℕ → ℕ → ℕ
closed_up p mask bits = bits % 2 ^ p + bits / 2 ^ (p + (1 - bit_at mask p)) * 2 ^ p

-- two words as one number, the first lowest
abbrev pub two_words : List ℕ → ℕ
two_words words = slice_index words 0 + slice_index words 1 * 2 ^ 64
