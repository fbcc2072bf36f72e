-- The set bit of a word with a number: the byte that has it, and its place there.
use Rattle.vortex_mask.proofs.Common.{common_steps, ◌≡◌, ℕ, suc, ◌+◌, ◌-◌, ◌*◌, ◌^◌, ◌<◌, ◌≤◌, ap, ◌∙◌, arith, count_ones, inl, inr, mod-eq_of_lt, bit_at, cases_lt, count, count_below, word_bits, byte_at, selected, count-word_bits, count_below-word_bits}
use Rattle.vortex_mask.proofs.Deposits.ByteCountLemmas.{ones_below-byte, ones_below-in_byte}
use Rattle.vortex_mask.proofs.Deposits.ByteLemmas.{bit_at_byte}
use Rattle.vortex_mask.proofs.Deposits.SetPlaceLemmas.{ones_below, ones_below-le}
use Rattle.vortex_mask.proofs.Kernels.DepositListLemmas.{selected-is}

-- the bytes of `below` say how many bits of w are set in all lower bytes
module _ (w below : ℕ) (counts : (j : ℕ) → j < 8 → byte_at below j ≡ count_below (word_bits w) (8 * j)) where
  below-is : (j : ℕ) → j < 8 → byte_at below j ≡ ones_below w (8 * j)
  below-is j h = counts j h ∙ count_below-word_bits w (8 * j) (omega arith)

  pub below-small : (j : ℕ) → j < 8 → byte_at below j ≤ 64
  below-small j h = omega (arith, below-is j h, ones_below-le w (8 * j))

  module _ (r n : ℕ) (inside : n < 8) (within : byte_at below n ≤ r) where
    -- byte n has the bit where the next one begins past it
    pub bit-there : w < 2 ^ 64 → r < count (word_bits w) → ((j : ℕ) → n < j → j < 8 → r < byte_at below j) → r - byte_at below n < count_ones (byte_at w n)
    bit-there fits some past = elim (cases_lt n 7) [
      | inl l ↦ omega (arith, past (suc n) (omega arith) (omega arith), below-is (suc n) (omega arith), below-is n inside, ones_below-byte w n, within)
      | inr le ↦
          let e : 8 * suc n ≡ 64 = omega arith in
          let all : ones_below w (8 * suc n) ≡ count_ones w = ap (ones_below w) e ∙ ap count_ones (mod-eq_of_lt fits) in
          omega (arith, all, some, count-word_bits w fits, below-is n inside, ones_below-byte w n, within)
    ]

    pub selected-there : (t : ℕ) → t < 8 → bit_at (byte_at w n) t ≡ 1 → count_below (word_bits (byte_at w n)) t ≡ r - byte_at below n → 8 * n + t ≡ selected w r
    selected-there t h set number = grind (arith, common_steps, selected-is, bit_at_byte w n t h, ones_below-in_byte w n t (omega arith), below-is n inside, count_below-word_bits (byte_at w n) t (omega arith))
