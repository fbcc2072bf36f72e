-- The bits of a word's lowest places at the set ones of a mask: by parts, and one by one.
use Rattle.mask_bits.proofs.Common.{◌≡◌, ◌⊎◌, inl, inr, bit_and, ℕ, zero, suc, min, ◌+◌, ◌*◌, ◌-◌, ◌/◌, ◌%◌, ◌^◌, ◌<◌, ◌≤◌, Bool, false, nat_eq, List, [], ◌∷◌, length, get_or, count_ones, refl, sym, ap, ap₂, ◌∙◌, arith, pow-add, pow_mono, lt_of_lt_of_le, mod-lt, mod-eq_of_lt, subst, mul_assoc, mul_comm, add-mul, bit_at, cases_lt, get_or-map, length-map, shr_split, shr_high, ones-le, and_shr, mod-pow-add, mod-mul-add, bit_at_lowest, bit_at-suc, bit_at_above, bit_at_and, bit_at_cat_low, Extracts, gathered, closed_up, positions, count, word_bits, pow_pos, shr-shr}
use lib.Count.{ones_step}
use lib.Pow.{field, mod-mod-pow}
use Rattle.mask_bits.proofs.Lists.Places.PlaceLemmas.{positions-true, positions-false}
use Rattle.mask_bits.proofs.Lists.Words.ShiftLemmas.{bit_at-mod}
use Rattle.mask_bits.proofs.Lists.Words.WordLemmas.{word_bits_from_bits}

-- how many of a mask's lowest n places are set
abbrev pub ones_in : ℕ → ℕ → ℕ
ones_in zero mask = 0
ones_in (suc n) mask = mask % 2 + ones_in n (mask / 2)

-- ---- one place more

cases_bit : (m : ℕ) → (m % 2 ≡ 0) ⊎ (m % 2 ≡ 1)
cases_bit m = grind arith

-- of a clear place nothing comes
pub gathered-clear : (n s m : ℕ) → m % 2 ≡ 0 → gathered (suc n) s m ≡ gathered n (s / 2) (m / 2)
unfolding gathered
gathered-clear n s m off = ap (λ b. min (s % 2) b + 2 ^ b * gathered n (s / 2) (m / 2)) off ∙ omega arith

-- of a set place its bit comes, below the others
pub gathered-set : (n s m : ℕ) → m % 2 ≡ 1 → gathered (suc n) s m ≡ s % 2 + 2 * gathered n (s / 2) (m / 2)
unfolding gathered
gathered-set n s m on = ap (λ b. min (s % 2) b + 2 ^ b * gathered n (s / 2) (m / 2)) on ∙ omega arith

pub gathered-none : (s m : ℕ) → gathered 0 s m ≡ 0
unfolding gathered
gathered-none s m = refl

ones_in-bit : (n m b : ℕ) → m % 2 ≡ b → ones_in (suc n) m ≡ b + ones_in n (m / 2)
ones_in-bit n m b e = ap (λ k. k + ones_in n (m / 2)) e

ones_in-clear : (n m : ℕ) → m % 2 ≡ 0 → ones_in (suc n) m ≡ ones_in n (m / 2)
ones_in-clear n m off = ones_in-bit n m 0 off ∙ omega arith

-- ---- how many they are

pub ones_in-le : (n m : ℕ) → ones_in n m ≤ n
ones_in-le zero m = omega arith
ones_in-le (suc n) m = omega (arith, ones_in-le n (m / 2))

pub gathered-lt : (n s m : ℕ) → gathered n s m < 2 ^ ones_in n m
gathered-lt zero s m = omega (arith, gathered-none s m)
gathered-lt (suc n) s m = grind (arith, cases_bit, gathered-clear, ones_in-clear, gathered-set, ones_in-bit, pow-add, gathered-lt n (s / 2) (m / 2))

-- ---- by parts

half_more : (x a : ℕ) → x / 2 / 2 ^ a ≡ x / 2 ^ suc a
half_more x a = grind (arith, shr-shr x 1 a)

pub gathered-join : (a b s m : ℕ) → gathered (a + b) s m ≡ gathered a s m + 2 ^ ones_in a m * gathered b (s / 2 ^ a) (m / 2 ^ a)
gathered-join zero b s m = grind (arith, gathered-none)
gathered-join (suc a) b s m =
    let e : suc a + b ≡ suc (a + b) = omega arith in
    let rest : ℕ = gathered b (s / 2 ^ suc a) (m / 2 ^ suc a) in
    let t : ℕ = 2 ^ ones_in a (m / 2) in
    let more : gathered (a + b) (s / 2) (m / 2) ≡ gathered a (s / 2) (m / 2) + t * rest = gathered-join a b (s / 2) (m / 2) ∙ ap (λ x. gathered a (s / 2) (m / 2) + t * x) (ap₂ (gathered b) (half_more s a) (half_more m a)) in
    ap (λ k. gathered k s m) e ∙ elim (cases_bit m) [
      | inl off ↦
          let same : 2 ^ ones_in (suc a) m ≡ t = ap (λ k. 2 ^ k) (ones_in-clear a m off) in
          omega (arith, gathered-clear (a + b) s m off, gathered-clear a s m off, more, ap (λ x. x * rest) same)
      | inr on ↦
          let twice : 2 ^ ones_in (suc a) m ≡ 2 * t = ap (λ k. 2 ^ k) (ones_in-bit a m 1 on) ∙ pow-add 2 1 (ones_in a (m / 2)) in
          omega (arith, gathered-set (a + b) s m on, gathered-set a s m on, more, ap (λ x. x * rest) twice, mul_assoc 2 t rest)
    ]

-- ---- of a byte alone, and of the source's bits at the mask alone

half_low : (x n : ℕ) → x % 2 ^ suc n / 2 ≡ x / 2 % 2 ^ n
half_low x n = grind (arith, field x n 1)

same_lowest : (x n : ℕ) → x % 2 ^ suc n % 2 ≡ x % 2
same_lowest x n = grind (arith, mod-mod-pow x n 1)

-- only the lowest n places are looked at
pub gathered-low : (n s m : ℕ) → gathered n (s % 2 ^ n) (m % 2 ^ n) ≡ gathered n s m
gathered-low zero s m = gathered-none (s % 1) (m % 1) ∙ sym (gathered-none s m)
gathered-low (suc n) s m = grind (arith, half_low, cases_bit, gathered-clear, same_lowest, gathered-set, gathered-low n (s / 2) (m / 2))

pub gathered-and : (n s m : ℕ) → gathered n (bit_and s m) m ≡ gathered n s m
gathered-and zero s m = gathered-none (bit_and s m) m ∙ sym (gathered-none s m)
gathered-and (suc n) s m = grind (arith, and_shr s m 1, bit_at_and s m 0, gathered-clear, gathered-set, gathered-and n (s / 2) (m / 2))

-- ---- a byte that closes up, place by place

-- the places of a byte from p on have closed up
abbrev pub closed_from : ℕ → ℕ → ℕ → ℕ
closed_from p mask bits = gathered (8 - p) (bits / 2 ^ p) (mask / 2 ^ p) * 2 ^ p + bits % 2 ^ p

pub closed_from-top : (m b : ℕ) → b < 256 → (bit_at m 7 ≡ 0 → bit_at b 7 ≡ 0) → closed_from 7 m b ≡ b
closed_from-top m b small free = grind (arith, gathered-none, cases_bit, gathered-clear, gathered-set)

pub closed_from-all : (m b : ℕ) → closed_from 0 m b ≡ gathered 8 b m
closed_from-all m b = grind arith

pub closed_from-free : (p m b : ℕ) → (bit_at m p ≡ 0 → bit_at b p ≡ 0) → bit_at m p ≡ 0 → bit_at (closed_from (p + 1) m b) p ≡ 0
closed_from-free p m b free off = grind (arith, bit_at_cat_low, bit_at-mod)

module _ (p m b : ℕ) (h : p < 7) where
  abbrev upper : ℕ
  upper = gathered (8 - (p + 1)) (b / 2 ^ (p + 1)) (m / 2 ^ (p + 1))

  below_upper : gathered (8 - (p + 1)) (b / 2 ^ p / 2) (m / 2 ^ p / 2) ≡ upper
  below_upper = ap₂ (gathered (8 - (p + 1))) (shr-shr b p 1) (shr-shr m p 1)

  twice : 2 ^ (p + 1) ≡ 2 * 2 ^ p
  twice = omega (arith, pow-add 2 p 1)

  next : 8 - p ≡ suc (8 - (p + 1))
  next = omega arith

  last : b % 2 ^ (p + 1) ≡ bit_at b p * 2 ^ p + b % 2 ^ p
  last = grind (arith, mod-pow-add b 1 p)

  -- as the place's bit and those above it
  parts : closed_from (p + 1) m b ≡ (2 * upper + bit_at b p) * 2 ^ p + b % 2 ^ p
  parts = ap (λ t. upper * t + b % 2 ^ (p + 1)) twice ∙ omega (arith, last, add-mul (2 * upper) (bit_at b p) (2 ^ p), mul_assoc upper 2 (2 ^ p), mul_comm upper 2)

  closed_from-set : bit_at m p ≡ 1 → closed_up p m (closed_from (p + 1) m b) ≡ closed_from p m b
  unfolding closed_up
  closed_from-set on = grind (arith, next, gathered-set, below_upper, shr_split, parts)

  closed_from-clear : bit_at m p ≡ 0 → bit_at b p ≡ 0 → closed_up p m (closed_from (p + 1) m b) ≡ closed_from p m b
  unfolding closed_up
  closed_from-clear off free = grind (arith, next, gathered-clear, below_upper, parts, mod-mul-add, mod-lt, pow_pos, shr_high)

  pub closed_from-more : (bit_at m p ≡ 0 → bit_at b p ≡ 0) → closed_up p m (closed_from (p + 1) m b) ≡ closed_from p m b
  closed_from-more free = grind (arith, cases_bit, closed_from-clear, closed_from-set)

-- ---- the source's bits at the mask alone

pub within-free : (s m p : ℕ) → bit_at m p ≡ 0 → bit_at (bit_and s m) p ≡ 0
within-free s m p off = omega (arith, bit_at_and s m p, off)

pub gathered-byte : (s m : ℕ) → closed_from 0 m (bit_and s m) ≡ gathered 8 s m
gathered-byte s m = closed_from-all m (bit_and s m) ∙ gathered-and 8 s m

-- ---- two neighbors joined

pub ones_in-is : (n m : ℕ) → ones_in n m ≡ count_ones (m % 2 ^ n)
ones_in-is zero m = omega (arith, ones-le 0 (m % 1) (omega arith))
ones_in-is (suc n) m = omega (arith, ones_step (m % 2 ^ suc n), same_lowest m n, ap count_ones (half_low m n), ones_in-is n (m / 2))

-- of w places each, where those of the first one begin at place `at`
pub gathered-two : (w s m at lower upper n : ℕ) → lower ≡ at → upper ≡ at + w → n ≡ count_ones (m / 2 ^ at % 2 ^ w)
    → (gathered w (s / 2 ^ lower) (m / 2 ^ lower) + gathered w (s / 2 ^ upper) (m / 2 ^ upper) * 2 ^ n) % 2 ^ (w + w) ≡ gathered (w + w) (s / 2 ^ at) (m / 2 ^ at)
gathered-two w s m at lower upper n first second counted =
    grind (arith, shr-shr, lt_of_lt_of_le (gathered-lt (w + w) (s / 2 ^ at) (m / 2 ^ at)) (pow_mono (ones_in-le (w + w) (m / 2 ^ at))), gathered-lt (w + w) (s / 2 ^ at) (m / 2 ^ at), pow_mono (ones_in-le (w + w) (m / 2 ^ at)), ones_in-le (w + w) (m / 2 ^ at), ones_in-is, mul_comm, gathered-join, mod-eq_of_lt)

-- ---- an extract

-- the truth values of the lowest n places
abbrev values_in : ℕ → ℕ → List Bool
values_in zero w = []
values_in (suc n) w = nat_eq (w % 2) 1 ∷ values_in n (w / 2)

length-values_in : (n w : ℕ) → length (values_in n w) ≡ n
length-values_in zero w = refl
length-values_in (suc n) w = omega (arith, length-values_in n (w / 2))

get_or-values_in : (n w j : ℕ) → j < n → get_or (values_in n w) j false ≡ nat_eq (bit_at w j) 1
get_or-values_in zero w j h = absurd (omega arith)
get_or-values_in (suc n) w j h = grind (arith, bit_at_lowest, bit_at-suc, get_or-values_in n)

word_bits-values_in : (w : ℕ) → word_bits w ≡ values_in 64 w
word_bits-values_in w = word_bits_from_bits w (values_in 64 w) (length-values_in 64 w) (λ j h. sym (get_or-values_in 64 w j h))

count-values_in : (n m : ℕ) → count (values_in n m) ≡ ones_in n m
count-values_in zero m = refl
count-values_in (suc n) m =
    grind (arith, cases_bit, positions-false, length-map, ones_in-clear, positions-true, ones_in-bit, count-values_in n (m / 2))

-- where the first place is set, its bit is the lowest, and the others follow
at_set : (n s m k : ℕ) → m % 2 ≡ 1 → ((i : ℕ) → i < count (values_in n (m / 2)) → bit_at (gathered n (s / 2) (m / 2)) i ≡ bit_at (s / 2) (get_or (positions (values_in n (m / 2))) i 0))
    → k < count (values_in (suc n) m) → bit_at (gathered (suc n) s m) k ≡ bit_at s (get_or (positions (values_in (suc n) m)) k 0)
at_set n s m zero on rest h = grind (arith, gathered-set, bit_at_lowest, positions-true)
at_set n s m (suc k) on rest h = grind (arith, positions-true, length-map, gathered-set, bit_at-suc, get_or-map)

-- bit k is the source's bit at set place number k
gathered-at : (n s m k : ℕ) → k < count (values_in n m) → bit_at (gathered n s m) k ≡ bit_at s (get_or (positions (values_in n m)) k 0)
gathered-at zero s m k h = absurd (omega arith)
gathered-at (suc n) s m k h =
    grind (arith, cases_bit, positions-false, length-map, gathered-clear, bit_at-suc, get_or-map, at_set, gathered-at n (s / 2) (m / 2))

pub Extracts-gathered : (s m : ℕ) → Extracts s m (gathered 64 s m)
Extracts-gathered s m =
    let same = word_bits-values_in m in
    record {
      bits = λ k h. elim (cases_lt k (count (word_bits m))) [
        | inl more ↦
            let at : bit_at (gathered 64 s m) k ≡ bit_at s (get_or (positions (word_bits m)) k 0) = gathered-at 64 s m k (subst (λ v. k < count v) same more) ∙ ap (λ v. bit_at s (get_or (positions v) k 0)) (sym same) in
            (λ set. (more, sym at ∙ set), λ set. at ∙ set.1)
        | inr none ↦
            grind (arith, count-values_in 64 m, bit_at_above (gathered 64 s m) (ones_in 64 m) k (gathered-lt 64 s m) (omega (arith, ap count same, count-values_in 64 m)), gathered-lt 64 s m)
      ];
    }

-- ---- at a full mask

gathered-full : (n s : ℕ) → gathered n s (2 ^ n - 1) ≡ s % 2 ^ n
gathered-full zero s = gathered-none s 0 ∙ omega arith
gathered-full (suc n) s = grind (arith, pow_pos, gathered-set, mod-pow-add s n 1, gathered-full n (s / 2))

pub Extracts-full : (s : ℕ) → Extracts s (2 ^ 64 - 1) s
Extracts-full s =
    let cut = Extracts-gathered s (2 ^ 64 - 1) in
    record {
      bits = λ k h.
          let same : bit_at (gathered 64 s (2 ^ 64 - 1)) k ≡ bit_at s k = ap (λ x. bit_at x k) (gathered-full 64 s) ∙ bit_at-mod s 64 k h in
          (λ set. (cut.bits k h).0 (same ∙ set), λ there. sym same ∙ (cut.bits k h).1 there);
    }

pub ruleset full_mask = (Extracts-full)
