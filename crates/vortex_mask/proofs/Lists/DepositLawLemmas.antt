-- The laws of deposits.
use Rattle.vortex_mask.proofs.Common.{common_steps, ◌≡◌, ℕ, ◌-◌, ◌*◌, ◌/◌, ◌^◌, ◌<◌, sym, ap, ◌∙◌, arith, bit_and, bit_or, mul-one, mul-zero, take, ◌%◌, bit_at, and_le_r, bit_at-lt, bit_at_or, Deposits, count, rank_intersection, word_bits, or_zero_r, count_below-word_bits}
use Rattle.vortex_mask.proofs.Deposits.DepositLemmas.{Deposits-from_bits, Deposits-from_deposit, bit_at-deposit, deposit, deposit-zero, deposit_step, first, left_of}
use Rattle.vortex_mask.proofs.Deposits.SetPlaceLemmas.{lowest, ones_below}
use Rattle.vortex_mask.proofs.Kernels.DepositListLemmas.{word_bits-deposited}

-- a deposit is the rank intersection of the mask's list and the source's first values, as many as the mask has set bits
pub deposit_is_rank_intersection : (source mask result : ℕ) → Deposits source mask result
    → word_bits result ≡ rank_intersection (word_bits mask) (take (count (word_bits mask)) (word_bits source))
deposit_is_rank_intersection = word_bits-deposited

-- the mask without its lowest set bit
abbrev pub without_lowest : ℕ → ℕ
without_lowest mask = bit_and mask (mask - 1)

-- at no set bit nothing is deposited
pub deposit_at_no_ones : (source : ℕ) → Deposits source 0 0
deposit_at_no_ones source = Deposits-from_deposit source 0 0 (sym (deposit-zero 64 source))

-- without its lowest set bit a mask is a smaller number
pub without_lowest_is_below : (mask : ℕ) → 0 < mask → without_lowest mask < mask
without_lowest_is_below mask some = omega (arith, and_le_r mask (mask - 1))

-- each bit of a deposit is that of the deposit as a function
bits_of : (s m r i : ℕ) → i < 64 → Deposits s m r → bit_at r i ≡ bit_at (deposit 64 s m) i
bits_of s m r i h d = grind (arith, ones_below, count_below-word_bits, deposit, bit_at-deposit, bit_at-lt)

by_lowest : (s m rest lead : ℕ) → m < 2 ^ 64 → lead ≡ first 64 s m → Deposits (s / 2) (without_lowest m) rest → Deposits s m (bit_or rest lead)
by_lowest s m rest lead fits is d =
    Deposits-from_bits s m (bit_or rest lead) (λ i h.
    let others = bits_of (s / 2) (without_lowest m) rest i h d in
    let step : bit_at (deposit 64 s m) i ≡ bit_at (bit_or (first 64 s m) (deposit 64 (s / 2) (without_lowest m))) i = ap (λ x. bit_at x i) (deposit_step 64 s m fits) in
    let led : bit_at lead i ≡ bit_at (first 64 s m) i = ap (λ x. bit_at x i) is in
    omega (arith, others, step, led, bit_at_or rest lead i, bit_at_or (first 64 s m) (deposit 64 (s / 2) (without_lowest m)) i) ∙ bit_at-deposit 64 s m i h)

-- the lowest set bit of the mask is set in the result too where the source is odd, and the others take the source's other bits
pub deposit_of_odd_source : (source mask rest : ℕ) → mask < 2 ^ 64 → source % 2 ≡ 1 → Deposits (source / 2) (without_lowest mask) rest
    → Deposits source mask (bit_or rest (mask - without_lowest mask))
deposit_of_odd_source source mask rest fits odd d = grind (arith, by_lowest, left_of, mul-one, lowest)

-- and it is clear in the result where the source is even
pub deposit_of_even_source : (source mask rest : ℕ) → mask < 2 ^ 64 → source % 2 ≡ 0 → Deposits (source / 2) (without_lowest mask) rest
    → Deposits source mask rest
deposit_of_even_source source mask rest fits even d = grind (arith, common_steps, by_lowest source mask rest 0 fits (sym (mul-zero (lowest 64 mask)) ∙ ap (λ b. lowest 64 mask * b) (sym even)) d, mul-zero (lowest 64 mask), lowest 64 mask, or_zero_r rest)
