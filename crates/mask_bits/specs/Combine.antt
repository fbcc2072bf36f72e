-- What the loops over the words of two lists have made or found, bit by bit, and which words they can read.
use Rattle.std.specs.Prelude.{ℕ, ◌+◌, ◌*◌, ◌<◌, ◌≤◌, ◌≡◌, ◌⊎◌, ◌^◌, Bool, false, List, length}
use Rattle.mask_bits.specs.Buffer.{backing_bit}

-- the first n bits of `out` are f of those of a from bit p on and of those of b from bit q on
abbrev pub AreCombined : (Bool → Bool → Bool) → List ℕ → ℕ → List ℕ → ℕ → List ℕ → ℕ → Type 0
AreCombined f a p b q out n = (i : ℕ) → i < n → backing_bit out i ≡ f (backing_bit a (p + i)) (backing_bit b (q + i))

-- bits m to n of `new` are f of those of `old` and of as many of b from bit q + m on, and all other bits are as they were
pub record IsCombinedBetween (f : Bool → Bool → Bool) (old b new : List ℕ) (q m n : ℕ) : Type 0 where
  pub inside : (p : ℕ) → m ≤ p → p < n → backing_bit new p ≡ f (backing_bit old p) (backing_bit b (q + p))
  pub outside : (p : ℕ) → ((p < m) ⊎ (n ≤ p)) → backing_bit new p ≡ backing_bit old p

-- f makes no true value of the n bits of a from bit p on and of as many of b from bit q on
abbrev pub IsNoneTrue : (Bool → Bool → Bool) → List ℕ → ℕ → List ℕ → ℕ → ℕ → Type 0
IsNoneTrue f a p b q n = (i : ℕ) → i < n → f (backing_bit a (p + i)) (backing_bit b (q + i)) ≡ false

-- word i is a whole word of the bytes
pub record IsWholeWord (bytes : List ℕ) (low i : ℕ) : Type 0 where
  pub whole : low ≡ 0
  pub covered : 8 * i + 8 ≤ length bytes

-- word i from bit `low` of the first byte on lies in two whole words of the bytes
pub record IsInTwoWords (bytes : List ℕ) (low i : ℕ) : Type 0 where
  pub few : low < 8
  pub covered : 8 * i + 16 ≤ length bytes

-- the same where `low` isn't the first bit
pub record IsShifted (bytes : List ℕ) (low i : ℕ) : Type 0 where
  pub some : 0 < low
  pub few : low < 8
  pub covered : 8 * i + 16 ≤ length bytes

-- the bytes have all 64 bits of word i from bit `low` of the first byte on
pub record IsUnaligned (bytes : List ℕ) (low i : ℕ) : Type 0 where
  pub few : low < 8
  pub covered : low + 64 * i + 64 ≤ 8 * length bytes

-- the place of word i from bit `low` on fits the machine
pub record HasPlace (bytes : List ℕ) (low i : ℕ) : Type 0 where
  pub fits : low + 64 * i < 2 ^ 64
