-- Vectors lane by lane, those of the eight bytes of a word, and how the bits of a byte close up.
use Rattle.mask_bits.proofs.Common.{◌≡◌, ℕ, ◌+◌, ◌-◌, ◌*◌, ◌/◌, ◌%◌, ◌^◌, ◌<◌, inl, inr, List, length, get_or, map, replicate, refl, ap, ◌∙◌, arith, w8, bit_and, Fits, mul_assoc, bit_at, zip2, Each1, length-zip2, get_or-zip2, Each1-get_or, Each1-from_get_or, swz_l, SwzOk, SwzOk-from_below, length-swz_l, get_or-swz_l_below, shr_split, one_shl, bit_at-lt, and_pow, and_high_mask, and_zero_r, pow-lt, cases_lt, length-map, get_or-map, closed_up, AreLanes, length-replicate, get_or-replicate, pow_pos, shr-shr}

-- ---- what an operator leaves in each lane

pub AreLanes-itself : (n : ℕ) (v : List ℕ) → length v ≡ n → AreLanes n v (λ j. get_or v j 0)
AreLanes-itself n v long = record { lanes = long; each = λ j l. refl }

pub AreLanes-map : {n : ℕ} (f : ℕ → ℕ) {a : List ℕ} {g : ℕ → ℕ} → AreLanes n a g → AreLanes n (map f a) (λ j. f (g j))
AreLanes-map f {a} {g} h = grind (arith, length-map, get_or-map)

pub AreLanes-zip2 : {n : ℕ} (f : ℕ → ℕ → ℕ) {a b : List ℕ} {g h : ℕ → ℕ} → AreLanes n a g → AreLanes n b h → AreLanes n (zip2 f a b) (λ j. f (g j) (h j))
AreLanes-zip2 f {a} {b} {g} {h} p q = grind (arith, length-zip2, get_or-zip2)

pub AreLanes-splat : (n x : ℕ) → AreLanes n (replicate n x) (λ j. x)
AreLanes-splat n x = record { lanes = length-replicate n x; each = λ j l. get_or-replicate n j x 0 l }

-- the same lanes said otherwise
pub AreLanes-same : {n : ℕ} {v : List ℕ} {f g : ℕ → ℕ} → AreLanes n v f → ((j : ℕ) → j < n → f j ≡ g j) → AreLanes n v g
AreLanes-same h e = record { lanes = h.lanes; each = λ j l. h.each j l ∙ e j l }

pub lane-fits : (v : List ℕ) (n j : ℕ) → length v ≡ n → Each1 (Fits w8) v → j < n → get_or v j 0 < 256
lane-fits v n j long fits l = (Each1-get_or (Fits w8) v j 0 (omega arith) fits).fits

-- ---- lanes by their numbers

module _ (js : List ℕ) (f : ℕ → ℕ) (h : AreLanes 16 js f) (small : (j : ℕ) → j < 16 → f j < 16) where
  pub SwzOk-lanes : SwzOk w8 16 16 0 js
  SwzOk-lanes =
      let long = h.lanes in
      SwzOk-from_below w8 16 1 16 0 js refl (omega arith) (Each1-from_get_or (λ j. j < 16) js 0 (λ i l. omega (arith, h.each i (omega arith), small i (omega arith))))

  pub AreLanes-swz_l : (v : List ℕ) → AreLanes 16 (swz_l w8 16 v 0 js) (λ j. get_or v (f j) 0)
  AreLanes-swz_l v = grind (arith, length-swz_l, w8, get_or-swz_l_below)

-- ---- a byte closes up at a place

-- half of the bits from the place on where that is clear, and nothing where it is set
abbrev pub less_half : ℕ → ℕ → ℕ → ℕ
less_half here mask bits = (bits + (2 ^ 8 - bit_and bits ((bit_and mask here + (2 ^ 8 - here)) % 2 ^ 8) / 2 ^ 1)) % 2 ^ 8

less_none : (t b : ℕ) → 0 < t → t < 256 → b < 256 → (b + (2 ^ 8 - bit_and b ((1 * t + (2 ^ 8 - t)) % 2 ^ 8) / 2 ^ 1)) % 2 ^ 8 ≡ b
less_none t b pos few small = grind (arith, and_zero_r)

pub less_half-set : (p m b : ℕ) → p < 8 → b < 256 → bit_at m p ≡ 1 → less_half (2 ^ p) m b ≡ closed_up p m b
unfolding closed_up
less_half-set p m b h small on = grind (arith, and_pow, less_none, pow_pos, pow-lt, shr_split)

pub less_half-clear : (p m b : ℕ) → p < 8 → b < 256 → bit_at m p ≡ 0 → bit_at b p ≡ 0 → less_half (2 ^ p) m b ≡ closed_up p m b
unfolding closed_up
less_half-clear p m b h small off free =
    grind (arith, and_pow, pow_pos, and_high_mask 8 p (omega arith) b small, mul_assoc 2 (b / 2 ^ p / 2) (2 ^ p), shr-shr b p 1)

pub less_half-is : (p m b : ℕ) → p < 8 → b < 256 → (bit_at m p ≡ 0 → bit_at b p ≡ 0) → less_half (1 * 2 ^ p % 2 ^ 8) m b ≡ closed_up p m b
less_half-is p m b h small free =
    ap (λ t. less_half t m b) (one_shl p 8 h)
    ∙ elim (cases_lt 0 (bit_at m p)) [
      | inl on ↦ less_half-set p m b h small (omega (arith, bit_at-lt m p))
      | inr off ↦ let clear : bit_at m p ≡ 0 = omega arith in less_half-clear p m b h small clear (free clear)
    ]
