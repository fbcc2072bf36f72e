-- A source that makes room for the clear places of a mask, the lowest first.
use Rattle.vortex_mask.proofs.Common.{common_steps, ◌≡◌, ℕ, zero, suc, ◌+◌, ◌-◌, ◌*◌, ◌/◌, ◌%◌, ◌^◌, ◌<◌, ◌≤◌, ◌⊎◌, inl, inr, refl, sym, ap, ◌∙◌, arith, pow-suc, bit_and, count_ones, lt_of_le_of_lt, mul_assoc, mul_comm, div-div-eq-div-mul, pow_pos, shr_split, pow_below, and_comm, and_mask, and-not, and_le_l, ones-le, ones_step, mod-mod-pow, low_split}
use Rattle.vortex_mask.proofs.Deposits.NetworkLemmas.{deposit_alike}
use Rattle.vortex_mask.proofs.Deposits.SetPlaceLemmas.{parity, cleared, lowest, lowest-odd, lowest-even, lowest_sum}
use Rattle.vortex_mask.proofs.Deposits.DepositLemmas.{deposit, deposit-odd, deposit-even, left_of, none_left}

-- the clear places of a number of k bits
abbrev pub clear : ℕ → ℕ → ℕ
clear k m = 2 ^ k - 1 - m

ones-clear : (k m : ℕ) → m < 2 ^ k → count_ones (clear k m) + count_ones m ≡ k
ones-clear zero m fits = omega (arith, ones-le 0 m fits, ones-le 0 (clear 0 m) (omega arith))
ones-clear (suc k) m fits = grind (arith, common_steps, clear, pow-suc, ones_step, ones-clear k (m / 2) (omega (arith, pow-suc 2 k)))

-- the source with its bits from a hole on moved up by one
abbrev pub opened : ℕ → ℕ → ℕ
opened s hole = s + s / hole * hole

-- where the lowest hole is filled, a source with room there deposits the same
fill : (k s m : ℕ) → m < 2 ^ k → deposit k (opened s (lowest k (clear k m))) (m + lowest k (clear k m)) ≡ deposit k s m
unfolding deposit
fill zero s m fits = refl
fill (suc k) s m fits = grind (arith, common_steps, clear, pow-suc, pow_pos, parity, lowest, lowest-odd, opened, deposit, deposit-odd, deposit-even, lowest-even, mul_comm, div-div-eq-div-mul, mul_assoc, fill k (s / 2) (m / 2) (omega (arith, pow-suc 2 k)))

-- ---- k bits of a source

low_bits : (k s : ℕ) → s % 2 ^ suc k ≡ s / 2 % 2 ^ k * 2 + s % 2
low_bits k s = low_split 2 k s (omega arith)

-- all of them are deposited where no place is clear
pub deposit-all : (k s : ℕ) → deposit k s (2 ^ k - 1) ≡ s % 2 ^ k
unfolding deposit
deposit-all zero s = omega arith
deposit-all (suc k) s = grind (arith, common_steps, pow-suc, pow_pos, low_bits, deposit-odd, deposit, deposit-all k (s / 2))

-- ---- what the code computes

-- t is s with room at a hole, which is a place, or 0 for none
abbrev pub Opens : ℕ → ℕ → ℕ → Type 0
Opens s hole t = ((p : ℕ) → p < 64 → hole ≡ 2 ^ p → t ≡ opened s hole % 2 ^ 64) × (hole ≡ 0 → t ≡ s)

lowest_cases : (k m : ℕ) → m < 2 ^ k → (lowest k m ≡ 0) ⊎ ((p : ℕ) × (p < k) × (lowest k m ≡ 2 ^ p))
lowest_cases zero m fits = let none : m ≡ 0 = omega arith in inl (ap (lowest 0) none)
lowest_cases (suc k) m fits = elim (parity m) [
  | inl even ↦ elim (lowest_cases k (m / 2) (omega (arith, pow-suc 2 k))) [
    | inl none ↦ inl (lowest-even k m fits even ∙ ap (λ x. x * 2) none)
    | inr some ↦ inr (suc some.0, omega (arith, some.1), lowest-even k m fits even ∙ ap (λ x. x * 2) some.2 ∙ sym (pow-suc 2 some.0))
  ]
  | inr odd ↦ inr (0, omega arith, lowest-odd k m fits odd)
]

opened-is : (s m hole t : ℕ) → s < 2 ^ 64 → m < 2 ^ 64 → hole ≡ lowest 64 m → Opens s hole t → t ≡ opened s hole % 2 ^ 64
opened-is s m hole t small fits is opens = grind (arith, common_steps, lowest_cases 64 m fits)

-- the bits from p on, as the negative of place p keeps them
pub kept_from : (t p neg : ℕ) → p < 64 → t < 2 ^ 64 → neg < 2 ^ 64 → (neg + 2 ^ p) % 2 ^ 64 ≡ 0 → bit_and t neg ≡ t / 2 ^ p * 2 ^ p
kept_from t p neg inside fits small e =
    let low : 2 ^ p - 1 < 2 ^ 64 = omega (arith, pow_below p 64 inside) in
    let is : neg ≡ clear 64 (2 ^ p - 1) = omega (arith, pow_pos p, pow_below p 64 inside) in
    ap (bit_and t) is ∙ and_comm t _ ∙ omega (arith, and-not 64 (2 ^ p - 1) t low fits, and_comm (2 ^ p - 1) t, and_mask t p, shr_split t p)

pub two_holes : (s m one other t r : ℕ) → s < 2 ^ 64 → m < 2 ^ 64 → 62 ≤ count_ones m → one ≡ clear 64 m - cleared (clear 64 m) → other ≡ cleared (clear 64 m)
    → t < 2 ^ 64 → Opens s one t → Opens t other r → r ≡ deposit 64 s m
two_holes s m one other t r small fits many is_one is_other inside first second =
    let holes : ℕ = clear 64 m in
    let all : holes < 2 ^ 64 = omega arith in
    let less : cleared holes < 2 ^ 64 = lt_of_le_of_lt (and_le_l holes (holes - 1)) all in
    let none = none_left holes all (omega (arith, ones-clear 64 m fits)) in
    let lone : one ≡ lowest 64 holes = is_one ∙ left_of holes all in
    let alone : other ≡ lowest 64 (cleared holes) = omega (arith, lowest_sum 64 (cleared holes) less) in
    let rest : clear 64 (m + one) ≡ cleared holes = omega (arith, lowest_sum 64 holes all) in
    let last : lowest 64 (clear 64 (m + one)) ≡ other = ap (lowest 64) rest ∙ sym alone in
    let full : m + one + other ≡ 2 ^ 64 - 1 = omega (arith, lowest_sum 64 holes all) in
    let again : deposit 64 (opened t other) (2 ^ 64 - 1) ≡ deposit 64 t (m + one)
    = ap (deposit 64 (opened t other)) (sym full) ∙ sym (ap (λ x. deposit 64 (opened t x) (m + one + x)) last) ∙ fill 64 t (m + one) (omega (arith, lowest_sum 64 holes all)) in
    let c = count_ones (m + one) in
    let few : c ≤ 64 = ones-le 64 (m + one) (omega (arith, lowest_sum 64 holes all)) in
    let e : 64 - c + c ≡ 64 = omega arith in
    let cut : opened s one % 2 ^ 64 % 2 ^ c ≡ opened s one % 2 ^ c = ap (λ k. opened s one % 2 ^ k % 2 ^ c) (sym e) ∙ mod-mod-pow (opened s one) (64 - c) c in
    opened-is t (cleared holes) other r inside less alone second ∙ sym (deposit-all 64 (opened t other)) ∙ again
    ∙ ap (λ x. deposit 64 x (m + one)) (opened-is s holes one t small all lone first) ∙ deposit_alike 64 (opened s one % 2 ^ 64) (opened s one) (m + one) (omega (arith, lowest_sum 64 holes all)) cut
    ∙ ap (λ x. deposit 64 (opened s x) (m + x)) lone ∙ fill 64 s m fits
