-- The counts of set bits in each byte and below it, and what they say of places in the bytes.
use Rattle.vortex_mask.proofs.Common.{common_steps, ◌≡◌, ℕ, zero, suc, ◌+◌, ◌*◌, ◌/◌, ◌%◌, ◌^◌, ◌<◌, ◌≤◌, inl, inr, sym, ap, ap₂, ◌∙◌, arith, count_ones, add_comm, mod-lt, add-zero, min, bit_at, pow_pos, shr-shr, ones_cat, mod-pow-add, cases_lt, byte_at, Deposits, bit_at-mod, ones_below-more}
use Rattle.vortex_mask.proofs.Deposits.ByteLemmas.{byte_at-zero, byte_at-suc, byte_at_add, byte_at-low, bit_at_byte}
use Rattle.vortex_mask.proofs.Deposits.DepositLemmas.{deposit, bit_at-deposit, Deposits-from_bits}
use Rattle.vortex_mask.proofs.Deposits.SetPlaceLemmas.{ones_below, ones_below-zero, ones_below-le}

-- ---- the set bits below byte j

-- those below a place, and those of the next k places
pub ones_below-next : (w i k : ℕ) → ones_below w (i + k) ≡ ones_below w i + count_ones (w / 2 ^ i % 2 ^ k)
ones_below-next w i k = grind (arith, add_comm, mod-pow-add, ones_cat, mod-lt, pow_pos, add_comm i k, mod-pow-add w k i, mod-lt w (pow_pos i), pow_pos i)

pub ones_below-byte : (w j : ℕ) → ones_below w (8 * suc j) ≡ ones_below w (8 * j) + count_ones (byte_at w j)
unfolding byte_at
ones_below-byte w j = let e : 8 * suc j ≡ 8 * j + 8 = omega arith in ap (ones_below w) e ∙ ones_below-next w (8 * j) 8

-- ---- the counts below each byte, as one product: x's bytes are the counts

-- the product by 0x01..01, one byte up
abbrev pub summed : ℕ → ℕ
summed x = x * 0x0101010101010101 % 2 ^ 64 * 2 ^ 8 % 2 ^ 64

-- moving the sums up a byte and adding x again gives the same sums
summed_again : (x : ℕ) → x * 0x0101010101010101 % 2 ^ 64 ≡ (summed x + x) % 2 ^ 64
summed_again x = omega arith

byte_at_up : (x j : ℕ) → j < 7 → byte_at (x * 2 ^ 8 % 2 ^ 64) (suc j) ≡ byte_at x j
byte_at_up x j h = grind (arith, common_steps, byte_at-low 8 (x * 2 ^ 8) (suc j) (omega arith), byte_at-suc (x * 2 ^ 8) j)

pub summed_is : (x w j : ℕ) → ((i : ℕ) → i < 8 → byte_at x i ≡ count_ones (byte_at w i)) → j < 8 → (i : ℕ) → i ≤ j → byte_at (summed x) i ≡ ones_below w (8 * i)
summed_is x w zero counts h i l = grind (arith, common_steps, summed x, byte_at-zero (summed x), ones_below, ones_below-zero w)
summed_is x w (suc j) counts h i l =
    let ih : (v : ℕ) → v ≤ j → byte_at (summed x) v ≡ ones_below w (8 * v) = λ v m. summed_is x w j counts (omega arith) v m in
    elim (cases_lt j i) [
      | inr le ↦ ih i le
      | inl lt ↦
          let e : i ≡ suc j = omega arith in
          let next : (v : ℕ) → v ≤ j → byte_at (summed x) v + byte_at x v ≡ ones_below w (8 * suc v) = λ v m. ap₂ (λ a b. a + b) (ih v m) (counts v (omega arith)) ∙ sym (ones_below-byte w v) in
          let room : (v : ℕ) → v ≤ j → byte_at (summed x) v + byte_at x v < 256 = λ v m. omega (arith, next v m, ones_below-le w (8 * suc v)) in
          ap (byte_at (summed x)) e ∙ byte_at_up (x * 0x0101010101010101 % 2 ^ 64) j (omega arith) ∙ ap (λ v. byte_at v j) (summed_again x)
          ∙ byte_at-low 8 (summed x + x) j (omega arith) ∙ byte_at_add (summed x) x j room ∙ next j (omega arith) ∙ ap (λ v. ones_below w (8 * v)) (sym e)
    ]

-- ---- a deposit by its bytes

-- the set bits below place t of byte j
pub ones_below-in_byte : (w j t : ℕ) → t ≤ 8 → ones_below w (8 * j + t) ≡ ones_below w (8 * j) + ones_below (byte_at w j) t
ones_below-in_byte w j zero h = omega (arith, ap (ones_below w) (add-zero (8 * j)), ones_below-zero (byte_at w j))
ones_below-in_byte w j (suc t) h = grind (arith, common_steps, ones_below w, ones_below-more w (8 * j + t), ones_below-in_byte w j t (omega arith), ones_below (byte_at w j), ones_below-more (byte_at w j) t, bit_at_byte w j t (omega arith))

pub Deposits-from_bytes : (s m r : ℕ) → ((j : ℕ) → j < 8 → byte_at r j ≡ deposit 8 (s / 2 ^ ones_below m (8 * j) % 2 ^ 8) (byte_at m j)) → Deposits s m r
Deposits-from_bytes s m r h = Deposits-from_bits s m r (λ i inside.
    let j = i / 8 in
    let t = i % 8 in
    let e : 8 * j + t ≡ i = omega arith in
    let b = byte_at m j in
    let from = ones_below m (8 * j) in
    let n = ones_below b t in
    let small : n < 8 = omega (arith, ones_below-le b t) in
    let there : bit_at (s / 2 ^ from % 2 ^ 8) n ≡ bit_at s (ones_below m i) =
    bit_at-mod (s / 2 ^ from) 8 n small ∙ ap (λ x. x % 2) (shr-shr s from n) ∙ ap (bit_at s) (sym (ones_below-in_byte m j t (omega arith)) ∙ ap (ones_below m) e) in
    ap (bit_at r) (sym e) ∙ bit_at_byte r j t (omega arith) ∙ ap (λ v. bit_at v t) (h j (omega arith)) ∙ bit_at-deposit 8 _ b t (omega arith)
    ∙ ap₂ min (sym (bit_at_byte m j t (omega arith)) ∙ ap (bit_at m) e) there)
