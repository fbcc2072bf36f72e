-- The bits of words that were shifted and masked, and of two words by a funnel shift.
use Rattle.mask_bits.proofs.Common.{◌≡◌, ℕ, ◌+◌, ◌*◌, ◌-◌, ◌/◌, ◌%◌, ◌^◌, ◌<◌, ◌≤◌, Bool, false, ◌&&◌, ◌||◌, not, List, ◌++◌, length, get_or, take, replicate, slice_range, ap, inl, inr, arith, add-zero, bit_and, bit_or, mul_assoc, bit_at, bit_not, cases_lt, or-false, length-append, length-replicate, get_or-take, get_or-replicate, get_or_append_left, get_or-append_right, get_or_past, length-between, get_or-between, and_mask, mul-mod_first, bit_at-lt, bit_at_and, bit_at_or, bit_at_not, bit_at_above, bit_at_ones, bit_at_ones_above, ones_shr, bit_at_cat_low, bit_at_cat_high, repeated, word_bits, nat_tests, w64, length-take, shr-shr, pow_pos, pow-add}
use Rattle.mask_bits.proofs.Lists.Words.WordLemmas.{length-word_bits, get_or-word_bits, word_bits_from_bits}

-- ---- one bit of a number

-- of one shifted down
pub bit_at-shr : (n r j : ℕ) → bit_at (n / 2 ^ r) j ≡ bit_at n (r + j)
bit_at-shr n r j = ap (λ x. x % 2) (shr-shr n r j)

-- of one cut to its low bits
pub bit_at-mod : (n k j : ℕ) → j < k → bit_at (n % 2 ^ k) j ≡ bit_at n j
bit_at-mod n k j h = grind (arith, and_mask n k, bit_at_and, bit_at_ones)

-- of one that was masked
pub bit_at-low_mask : (n k j : ℕ) → j < k → bit_at (bit_and n (2 ^ k - 1)) j ≡ bit_at n j
bit_at-low_mask n k j h = omega (arith, bit_at_and n (2 ^ k - 1) j, bit_at_ones k j h, bit_at-lt n j)

pub bit_at-past_mask : (n k j : ℕ) → k ≤ j → bit_at (bit_and n (2 ^ k - 1)) j ≡ 0
bit_at-past_mask n k j h = omega (arith, bit_at_and n (2 ^ k - 1) j, bit_at_ones_above k j h)

-- of one shifted up
pub bit_at-shl_low : (n k j : ℕ) → j < k → bit_at (n * 2 ^ k) j ≡ 0
bit_at-shl_low n k j h = grind (arith, add-zero (n * 2 ^ k), bit_at_cat_low)

pub bit_at-shl_high : (n k j : ℕ) → k ≤ j → bit_at (n * 2 ^ k) j ≡ bit_at n (j - k)
bit_at-shl_high n k j h = grind (arith, bit_at_cat_high n k 0 j (pow_pos k) h)

-- ---- the list of a word

pub get_or-word_bits_and : (v w j : ℕ) → j < 64 → get_or (word_bits (bit_and v w)) j false ≡ (get_or (word_bits v) j false && get_or (word_bits w) j false)
get_or-word_bits_and v w j h = grind (arith, get_or-word_bits, bit_at_and)

pub get_or-word_bits_or : (v w j : ℕ) → j < 64 → get_or (word_bits (bit_or v w)) j false ≡ (get_or (word_bits v) j false || get_or (word_bits w) j false)
get_or-word_bits_or v w j h = grind (arith, get_or-word_bits, bit_at_or)

pub get_or-word_bits_not : (w j : ℕ) → w < 2 ^ 64 → j < 64 → get_or (word_bits (bit_not w64 w)) j false ≡ not (get_or (word_bits w) j false)
get_or-word_bits_not w j fits h = grind (arith, get_or-word_bits (bit_not w64 w) j false, bit_at_not w64 w j fits h, nat_tests, get_or-word_bits w j false)

-- `word >> r`
pub get_or-word_bits_shr : (w r j : ℕ) → w < 2 ^ 64 → j < 64 → get_or (word_bits (w / 2 ^ r)) j false ≡ get_or (word_bits w) (r + j) false
get_or-word_bits_shr w r j fits h =
    grind (arith, get_or-word_bits (w / 2 ^ r) j false h, bit_at-shr w r j, get_or-word_bits w (r + j) false, bit_at_above w 64 (r + j) fits, get_or_past (word_bits w) (r + j) false, length-word_bits w)

-- `word << k`
pub get_or-word_bits_shl_low : (w k j : ℕ) → j < 64 → j < k → get_or (word_bits (w * 2 ^ k % 2 ^ 64)) j false ≡ false
get_or-word_bits_shl_low w k j h low = grind (arith, get_or-word_bits (w * 2 ^ k % 2 ^ 64) j false h, bit_at-mod (w * 2 ^ k) 64 j h, bit_at-shl_low w k j low)

pub get_or-word_bits_shl_high : (w k j : ℕ) → j < 64 → k ≤ j → get_or (word_bits (w * 2 ^ k % 2 ^ 64)) j false ≡ get_or (word_bits w) (j - k) false
get_or-word_bits_shl_high w k j h high =
    grind (arith, get_or-word_bits (w * 2 ^ k % 2 ^ 64) j false h, bit_at-mod (w * 2 ^ k) 64 j h, bit_at-shl_high w k j high, get_or-word_bits w (j - k) false)

-- the lowest bits by a mask, and zeros above them
pub word_bits-low_mask : (w count : ℕ) → count ≤ 64 → word_bits (bit_and w (2 ^ count - 1)) ≡ take count (word_bits w) ++ repeated (64 - count) false
unfolding repeated
word_bits-low_mask w count few =
    let low : List Bool = take count (word_bits w) in
    let zeros : List Bool = replicate (64 - count) false in
    let len : length low ≡ count = omega (arith, length-take count (word_bits w), length-word_bits w) in
    grind (arith, word_bits_from_bits, length-append low zeros, length-replicate (64 - count) false, bit_at-low_mask, get_or_append_left, get_or-take, get_or-word_bits, bit_at-past_mask, get_or-append_right, get_or-replicate)

-- the same by a mask that is all ones, shifted down
pub word_bits-low_ones : (w count : ℕ) → count ≤ 64 → word_bits (bit_and w ((2 ^ 64 - 1) / 2 ^ (64 - count))) ≡ take count (word_bits w) ++ repeated (64 - count) false
word_bits-low_ones w count few = grind (arith, ones_shr 64 (64 - count) (omega arith), word_bits-low_mask)

-- ---- two words by a funnel shift

funnel_bit : (lo hi low j : ℕ) → lo < 2 ^ 64 → low < 64 → j < 64
    → get_or (word_bits (bit_or (lo / 2 ^ low) (hi * 2 ^ 1 % 2 ^ 64 * 2 ^ (63 - low) % 2 ^ 64))) j false ≡ get_or (word_bits lo ++ word_bits hi) (low + j) false
funnel_bit lo hi low j fits few h =
    let k : ℕ = 63 - low in
    let up : ℕ = hi * 2 ^ 1 % 2 ^ 64 in
    let parts = get_or-word_bits_or (lo / 2 ^ low) (up * 2 ^ k % 2 ^ 64) j h in
    let first = get_or-word_bits_shr lo low j fits h in
    elim (cases_lt (low + j) 64) [
      | inl inside ↦
          grind (arith, get_or-word_bits_shl_low up k j h, get_or-word_bits_shl_low hi 1 0, get_or-word_bits_shl_high up k j h, or-false, get_or_append_left (word_bits lo) (word_bits hi) false (low + j), length-word_bits lo)
      | inr past ↦
          grind (arith, get_or-word_bits_shl_high up k j h, get_or-word_bits_shl_high hi 1 (j - k), get_or_past (word_bits lo) (low + j) false, get_or-append_right (word_bits lo) (word_bits hi) 64 (low + j) false (length-word_bits lo), length-word_bits lo)
    ]

-- the high bits of one word and then the low bits of the next
pub word_bits-funnel : (lo hi low : ℕ) → lo < 2 ^ 64 → low < 64
    → word_bits (bit_or (lo / 2 ^ low) (hi * 2 ^ 1 % 2 ^ 64 * 2 ^ (63 - low) % 2 ^ 64)) ≡ slice_range (word_bits lo ++ word_bits hi) low (low + 64)
word_bits-funnel lo hi low fits few =
    let both : List Bool = word_bits lo ++ word_bits hi in
    let w : ℕ = bit_or (lo / 2 ^ low) (hi * 2 ^ 1 % 2 ^ 64 * 2 ^ (63 - low) % 2 ^ 64) in
    let within : low + 64 ≤ length both = omega (arith, length-append (word_bits lo) (word_bits hi), length-word_bits lo, length-word_bits hi) in
    grind (arith, word_bits_from_bits, length-between both low (low + 64) within, get_or-word_bits, funnel_bit, get_or-between)

-- the same by one shift of the next word, from a bit on that isn't the first
pub word_bits-funnel_inside : (lo hi low : ℕ) → lo < 2 ^ 64 → 0 < low → low < 64
    → word_bits (bit_or (lo / 2 ^ low) (hi * 2 ^ (64 - low) % 2 ^ 64)) ≡ slice_range (word_bits lo ++ word_bits hi) low (low + 64)
word_bits-funnel_inside lo hi low fits some few =
    grind (arith, pow-add 2 1 (63 - low), mul_assoc, mul-mod_first (hi * 2 ^ 1) (2 ^ (63 - low)) (2 ^ 64), word_bits-funnel)

pub ruleset words_cut = (word_bits-low_ones, word_bits-funnel, word_bits-funnel_inside)
