-- The last byte of a word that is at most a number, by the top bits of a difference.
use Rattle.vortex_mask.proofs.Common.{common_steps, ◌≡◌, ℕ, zero, suc, ◌+◌, ◌-◌, ◌*◌, ◌/◌, ◌%◌, ◌^◌, ◌<◌, ◌≤◌, ap, ap₂, ◌∙◌, sym, arith, bit_and, eq-zero-or-pos, lt_of_le_of_lt, bit_at, leading_zeros, and_le_r, bit_at_and, byte_at, high, agree, same_below, w64}
use Rattle.vortex_mask.proofs.Deposits.ByteLemmas.{byte_at-zero, byte_at-suc, byte_at-lt, bit_at_byte}

-- a difference in which no byte takes from the next
byte_at_sub : (a b j : ℕ) → b ≤ a → ((i : ℕ) → i ≤ j → byte_at b i ≤ byte_at a i) → byte_at (a - b) j ≡ byte_at a j - byte_at b j
byte_at_sub a b zero le h = omega (arith, byte_at-zero (a - b), byte_at-zero a, byte_at-zero b, h 0 (omega arith))
byte_at_sub a b (suc j) le h =
    let e : (a - b) / 256 ≡ a / 256 - b / 256 = omega (arith, byte_at-zero a, byte_at-zero b, h 0 (omega arith)) in
    byte_at-suc (a - b) j ∙ ap (λ x. byte_at x j) e
    ∙ byte_at_sub (a / 256) (b / 256) j (omega arith) (λ i l. omega (arith, h (suc i) (omega arith), byte_at-suc a i, byte_at-suc b i))
    ∙ sym (ap₂ (λ x y. x - y) (byte_at-suc a j) (byte_at-suc b j))

-- the same number in each byte
byte_at_all : (x j : ℕ) → x < 256 → j < 8 → byte_at (x * 0x0101010101010101) j ≡ x
unfolding byte_at
byte_at_all = agree 256 8 (λ x j. byte_at (x * 0x0101010101010101) j) (λ x j. x) tt

-- ---- the top bit of each byte

abbrev pub tops : ℕ → ℕ
tops x = bit_and x 0x8080808080808080

tops-lt : (x : ℕ) → tops x < 2 ^ 64
tops-lt x = lt_of_le_of_lt (and_le_r x 0x8080808080808080) (omega arith)

top_is : (x j : ℕ) → j < 8 → bit_at (tops x) (8 * j + 7) ≡ byte_at x j / 128
top_is x j h = grind (arith, common_steps, same_below 8 (λ k. bit_at 0x8080808080808080 (8 * k + 7)) (λ k. 1) tt j h, bit_at_and x 0x8080808080808080 (8 * j + 7), bit_at_byte x j 7 (omega arith), byte_at-lt x j)

-- no other bit is set
top_place : (x p : ℕ) → p < 64 → bit_at (tops x) p ≡ 1 → p % 8 ≡ 7
top_place x p h set = omega (arith, set, bit_at_and x 0x8080808080808080 p, same_below 64 (bit_at 0x8080808080808080) (λ k. k % 8 / 7) tt p h)

-- ---- the last byte that is at most r

module _ (bytes r : ℕ) (word : bytes < 2 ^ 64) (rank : r < 64) (small : (j : ℕ) → j < 8 → byte_at bytes j ≤ 64) where
  -- so the difference is none below 0
  pub all_less : bytes ≤ (r + 128) * 0x0101010101010101
  unfolding byte_at
  all_less = omega (arith, small 7 (omega arith), word, rank)

  abbrev pub apart : ℕ
  apart = tops ((r + 128) * 0x0101010101010101 - bytes)

  top_apart : (j : ℕ) → j < 8 → bit_at apart (8 * j + 7) ≡ (r + 128 - byte_at bytes j) / 128
  top_apart j h = grind (arith, common_steps, byte_at_all, top_is, byte_at_sub, all_less)

  module _ (first : byte_at bytes 0 ≤ r) where
    some_apart : 0 < apart
    some_apart = grind (arith, common_steps, eq-zero-or-pos apart, apart, top_apart 0 (omega arith))

    abbrev pub last_place : ℕ
    last_place = 63 - leading_zeros w64 apart

    pub last_byte : (leading_zeros w64 apart ≤ 63) × (last_place / 8 < 8) × (byte_at bytes (last_place / 8) ≤ r) × ((j : ℕ) → last_place / 8 < j → j < 8 → r < byte_at bytes j)
    last_byte =
        let top = high apart some_apart (tops-lt _) in
        let p = last_place in
        let seventh : p % 8 ≡ 7 = top_place _ p (omega arith) top.1 in
        let e : 8 * (p / 8) + 7 ≡ p = omega (arith, seventh) in (
          omega (arith, top.0),
          omega arith,
          omega (arith, top_apart (p / 8) (omega arith), ap (bit_at apart) e, top.1),
          λ j l h. omega (arith, top_apart j h, top.2 (8 * j + 7) (omega (arith, e))),
        )
