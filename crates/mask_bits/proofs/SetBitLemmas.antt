-- One bit of a list of bytes, read and set.
use Rattle.mask_bits.proofs.Common.{◌≡◌, ℕ, ◌*◌, ◌/◌, ◌%◌, ◌^◌, ◌<◌, true, not, ◌||◌, ◌&&◌, List, length, get_or, set, replicate, nat_eq, arith, bit_and, bit_or, bit_not, get_or-set_other, get_or-replicate, bit_at_set_same, bit_at_set_other, bit_at_clear_same, bit_at_clear_other, bit_at_ones, backing_bit, get_or-set_at, w8}

-- the bytes with the bit at q set
abbrev pub with_bit : List ℕ → ℕ → List ℕ
with_bit bytes q = set bytes (q / 8) (bit_or (get_or bytes (q / 8) 0) (1 * 2 ^ (q % 8) % 256))

-- setting a bit sets that one alone
pub backing_bit-with_bit : (bytes : List ℕ) (q p : ℕ) → q < 8 * length bytes → backing_bit (with_bit bytes q) p ≡ (nat_eq p q || backing_bit bytes p)
backing_bit-with_bit bytes q p h =
    grind (arith, get_or-set_at, get_or-set_other, bit_at_set_same w8 (get_or bytes (q / 8) 0) (q % 8), bit_at_set_other w8 (get_or bytes (q / 8) 0) (q % 8))

-- each bit of bytes of ones is set
pub backing_bit-ones : (n p : ℕ) → p < 8 * n → backing_bit (replicate n 255) p ≡ true
backing_bit-ones n p h = grind (arith, get_or-replicate {A = ℕ} n (p / 8) 255 0, bit_at_ones 8 (p % 8))

-- the bytes with the bit at q clear
abbrev pub without_bit : List ℕ → ℕ → List ℕ
without_bit bytes q = set bytes (q / 8) (bit_and (get_or bytes (q / 8) 0) (bit_not w8 (1 * 2 ^ (q % 8) % 256)))

-- clearing a bit clears that one alone
pub backing_bit-without_bit : (bytes : List ℕ) (q p : ℕ) → q < 8 * length bytes → backing_bit (without_bit bytes q) p ≡ (not (nat_eq p q) && backing_bit bytes p)
backing_bit-without_bit bytes q p h =
    grind (arith, get_or-set_at, get_or-set_other, bit_at_clear_same w8 (get_or bytes (q / 8) 0) (q % 8), bit_at_clear_other w8 (get_or bytes (q / 8) 0) (q % 8))

pub ruleset bits_written = (backing_bit-with_bit, backing_bit-without_bit)
