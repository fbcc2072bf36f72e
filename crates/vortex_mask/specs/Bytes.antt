-- Deposits by the network and by tables of nibbles, one byte at a time: what each step computes, and what stands where after it.
use Rattle.std.specs.Prelude.{ℕ, List, slice_index, length, ◌≡◌, ◌<◌, ◌+◌, ◌-◌, ◌*◌, ◌/◌, ◌%◌, ◌^◌, nat_eq, if◌then◌else◌, bit_and, bit_or, bit_xor, sum_by}
use Rattle.std.specs.Int.{bit_at}
use Rattle.std.specs.List.{range_with_len}

-- byte j of a word, the lowest first
unfoldable pub byte_at : ℕ → ℕ → ℕ
byte_at w j = w / 2 ^ (8 * j) % 2 ^ 8

-- byte j of two words: those of the first one, and from j = 8 on those of the second
abbrev pub byte_of_two : List ℕ → ℕ → ℕ
byte_of_two words j = byte_at (slice_index words (j / 8)) (j % 8)

-- what holds of each byte of two words
abbrev pub EachLane : (ℕ → Type 0) → Type 0
EachLane P = (j : ℕ) → j < 16 → P j

-- ---- where the bits of a mask byte stand

-- how many of the places below i are clear
unfoldable pub clear_below : ℕ → ℕ → ℕ
clear_below mask i = sum_by (λ k. 1 - bit_at mask k) (range_with_len 0 i)

-- where the mask bit of place i stands after the first n stages: each stage s has moved it down by 2 ^ s if bit s of its clear places below is set
unfoldable pub place_after : ℕ → ℕ → ℕ → ℕ
place_after n mask i = i - clear_below mask i % 2 ^ n

-- the mask bits as they stand after the first n stages
unfoldable pub packed_after : ℕ → ℕ → ℕ
packed_after n mask = sum_by (λ i. bit_at mask i * 2 ^ place_after n mask i) (range_with_len 0 8)

-- those of them that stage s has moved, where they landed
unfoldable pub landed_in : ℕ → ℕ → ℕ
landed_in s mask = sum_by (λ i. bit_at mask i * bit_at (clear_below mask i) s * 2 ^ place_after (s + 1) mask i) (range_with_len 0 8)

-- ---- what a stage computes

-- the places p for which an odd number of the places p, p - step, p - 2 * step .. are set
unfoldable pub odd_places : ℕ → ℕ → ℕ
odd_places step b = sum_by (λ p. sum_by (λ k. if nat_eq ((p - k) % step) 0 then bit_at b k else 0) (range_with_len 0 (p + 1)) % 2 * 2 ^ p) (range_with_len 0 8)

-- the bits that stand at odd places, moved down by a step
unfoldable pub moved_down : ℕ → ℕ → ℕ → ℕ
moved_down step packed odd = bit_and packed odd / 2 ^ step

-- all bits once these have moved
unfoldable pub with_moved : ℕ → ℕ → ℕ → ℕ
with_moved step packed odd = bit_xor packed (bit_xor (bit_and packed odd) (moved_down step packed odd))

-- every second zero, which is all that the later stages count: each is now marked at its place and a step below
unfoldable pub halved : ℕ → ℕ → ℕ → ℕ
halved step zeros odd = let even = bit_and zeros (255 - odd) in bit_xor even (even / 2 ^ step)

-- ---- the way back

-- the bits at these places, moved up by a step, and the others as they are
unfoldable pub moved_up : ℕ → ℕ → ℕ → ℕ
moved_up step places b = bit_or (bit_and b (255 - places)) (bit_and b places * 2 ^ step)

-- ---- a nibble of four bits, whose set places have at most three clear ones below them, so that two moves do

-- a nibble in each of sixteen lanes
pub record AreNibbles (v : List ℕ) : Type 0 where
  pub lanes : length v ≡ 16
  pub small : EachLane (λ j. slice_index v j < 16)

-- the bits of a nibble that the move by two places leaves where they are
unfoldable pub stays_in : ℕ → ℕ
stays_in mask = packed_after 3 mask - landed_in 1 mask

-- a nibble's bits, of which some move up by two places, and then some by one
unfoldable pub nibble_moved_up : ℕ → ℕ → ℕ
nibble_moved_up mask b = let moved = bit_or (bit_and b (stays_in mask)) (bit_and b (landed_in 1 mask) * 2 ^ 2) in moved + bit_and moved (landed_in 0 mask)
