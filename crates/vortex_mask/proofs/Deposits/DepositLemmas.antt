-- The deposit as a function of the two words, by their lowest bits, and that it is the one number that a deposit may give.
use Rattle.vortex_mask.proofs.Common.{common_steps, ◌≡◌, ℕ, zero, suc, ◌+◌, ◌-◌, ◌*◌, ◌/◌, ◌%◌, ◌^◌, ◌<◌, ◌≤◌, inl, inr, min, refl, sym, ap, ap₂, ◌∙◌, arith, pow-suc, bit_and, bit_or, count_ones, mul_right_comm, mul-one, mul-zero, zero-mul, lt_of_le_of_lt, rules, bit_at, pow_pos, shr-shr, and_mask, and_le_l, zero_from_ones, bit_at_lowest, bit_at-suc, bit_at-lt, bit_at_or, same_from_bits, cases_lt, Deposits, or_step, and_zero_r, or_zero_r, count_below-word_bits, count-word_bits}
use Rattle.vortex_mask.proofs.Deposits.SetPlaceLemmas.{ones_below, parity, ones_below-zero, ones_below-suc, cleared, cleared-odd, cleared-even, lowest, lowest-odd, lowest-even, lowest_sum, ones-cleared_le}

-- the low k bits of the deposit of s into m
unfoldable pub deposit : ℕ → ℕ → ℕ → ℕ
deposit zero s m = 0
deposit (suc k) s m = deposit k (s / 2 ^ (m % 2)) (m / 2) * 2 + min (m % 2) (s % 2)

pub deposit-odd : (k s m : ℕ) → m % 2 ≡ 1 → deposit (suc k) s m ≡ deposit k (s / 2) (m / 2) * 2 + s % 2
unfolding deposit
deposit-odd k s m e = grind (arith)

pub deposit-even : (k s m : ℕ) → m % 2 ≡ 0 → deposit (suc k) s m ≡ deposit k s (m / 2) * 2
unfolding deposit
deposit-even k s m e = grind (arith)

pub bit_at-deposit : (k s m i : ℕ) → i < k → bit_at (deposit k s m) i ≡ min (bit_at m i) (bit_at s (ones_below m i))
unfolding deposit
bit_at-deposit zero s m i h = absurd (omega arith)
bit_at-deposit (suc k) s m zero h = grind (arith, bit_at_lowest, ones_below, ones_below-zero, suc)
bit_at-deposit (suc k) s m (suc i) h = search (rules, deposit, ones_below, shr-shr, ones_below-suc, bit_at-suc, bit_at-deposit k (s / 2 ^ (m % 2)) (m / 2) i (omega arith))

pub Deposits-from_bits : (s m r : ℕ) → ((i : ℕ) → i < 64 → bit_at r i ≡ min (bit_at m i) (bit_at s (ones_below m i))) → Deposits s m r
Deposits-from_bits s m r h = grind (arith, count_below-word_bits, bit_at-lt)

pub Deposits-from_deposit : (s m r : ℕ) → r ≡ deposit 64 s m → Deposits s m r
Deposits-from_deposit s m r e = grind (arith, Deposits-from_bits, bit_at-deposit)

-- ---- the lowest set place takes the lowest bit of the source, and the others take the rest

pub deposit-zero : (k s : ℕ) → deposit k s 0 ≡ 0
unfolding deposit
deposit-zero zero s = refl
deposit-zero (suc k) s = omega (arith, deposit-zero k (s / 2 ^ 0))

pub deposit_no_source : (k m : ℕ) → deposit k 0 m ≡ 0
unfolding deposit
deposit_no_source zero m = refl
deposit_no_source (suc k) m = grind (arith, common_steps, pow_pos, deposit, deposit_no_source k (m / 2))

-- nothing is deposited of a source without bits
pub Deposits-none : (s m : ℕ) → s ≡ 0 → Deposits s m 0
Deposits-none s m e = Deposits-from_deposit s m 0 (sym (ap (λ x. deposit 64 x m) e ∙ deposit_no_source 64 m))

-- the lowest set place of m, where s is odd
abbrev pub first : ℕ → ℕ → ℕ → ℕ
first k s m = lowest k m * (s % 2)

or_twice : (a b : ℕ) → bit_or (a * 2) (b * 2) ≡ bit_or a b * 2
or_twice a b = grind (arith, or_step)

or_lowest : (d b : ℕ) → d < 2 → bit_or (1 * d) (b * 2) ≡ b * 2 + d
or_lowest d b h = grind (arith, or_step)

pub deposit_step : (k s m : ℕ) → m < 2 ^ k → deposit k s m ≡ bit_or (first k s m) (deposit k (s / 2) (cleared m))
unfolding deposit
deposit_step zero s m fits = grind (arith, or_zero_r, zero-mul)
deposit_step (suc k) s m fits = elim (parity m) [
  | inl even ↦
      let c : cleared m / 2 ≡ cleared (m / 2) = omega (arith, cleared-even m even) in
      let rest : deposit (suc k) (s / 2) (cleared m) ≡ deposit k (s / 2) (cleared (m / 2)) * 2 =
      deposit-even k (s / 2) (cleared m) (omega (arith, cleared-even m even)) ∙ ap (λ x. deposit k (s / 2) x * 2) c in
      let lead : first (suc k) s m ≡ first k s (m / 2) * 2 = ap (λ x. x * (s % 2)) (lowest-even k m fits even) ∙ mul_right_comm _ 2 (s % 2) in
      deposit-even k s m even ∙ ap (λ x. x * 2) (deposit_step k s (m / 2) (omega (arith, pow-suc 2 k))) ∙ sym (ap₂ bit_or lead rest ∙ or_twice _ _)
  | inr odd ↦
      let c : cleared m / 2 ≡ m / 2 = omega (arith, cleared-odd m odd) in
      let rest : deposit (suc k) (s / 2) (cleared m) ≡ deposit k (s / 2) (m / 2) * 2 =
      deposit-even k (s / 2) (cleared m) (omega (arith, cleared-odd m odd)) ∙ ap (λ x. deposit k (s / 2) x * 2) c in
      let lead : first (suc k) s m ≡ 1 * (s % 2) = ap (λ x. x * (s % 2)) (lowest-odd k m fits odd) in
      deposit-odd k s m odd ∙ sym (ap₂ bit_or lead rest ∙ or_lowest (s % 2) (deposit k (s / 2) (m / 2)) (omega arith))
]

or_assoc : (a b c : ℕ) → bit_or (bit_or a b) c ≡ bit_or a (bit_or b c)
or_assoc a b c =
    same_from_bits _ _ (λ i. omega (arith, bit_at_or (bit_or a b) c i, bit_at_or a b i, bit_at_or a (bit_or b c) i, bit_at_or b c i))

-- what the code computes for `x & -(s & 1)`, where `neg` is the negative of s's lowest bit
pub masked : (x s neg : ℕ) → x < 2 ^ 64 → neg < 2 ^ 64 → (neg + bit_and s 1) % 2 ^ 64 ≡ 0 → bit_and x neg ≡ x * (s % 2)
masked x s neg fits small e = grind (arith, common_steps, and_mask s 1, parity s, and_zero_r x, mul-zero x, and_mask x 64, mul-one x)

-- `m & (m - 1)`, where the difference wraps
pub cleared_word : (m : ℕ) → m < 2 ^ 64 → bit_and m ((m + (2 ^ 64 - 1)) % 2 ^ 64) ≡ cleared m
cleared_word m fits = grind (arith, cases_lt, cleared)

-- the lowest set place is what the others leave
pub left_of : (m : ℕ) → m < 2 ^ 64 → m - cleared m ≡ lowest 64 m
left_of m fits = omega (arith, lowest_sum 64 m fits)

-- one turn of the loop
pub turn : (r s m t : ℕ) → m < 2 ^ 64 → bit_or r (deposit 64 s m) ≡ t → bit_or (bit_or r ((m - cleared m) * (s % 2))) (deposit 64 (s / 2) (cleared m)) ≡ t
turn r s m t fits h = grind (arith, or_assoc, cleared, left_of, deposit_step)

-- of two set places none is left without the lowest and the one above it
pub none_left : (m : ℕ) → m < 2 ^ 64 → count_ones m ≤ 2 → cleared (cleared m) ≡ 0
none_left m fits few =
    let small : cleared m < 2 ^ 64 = lt_of_le_of_lt (and_le_l m (m - 1)) fits in
    zero_from_ones _ (omega (arith, ones-cleared_le 64 m fits, ones-cleared_le 64 (cleared m) small))

pub two_lowest : (s m : ℕ) → m < 2 ^ 64 → count_ones m ≤ 2 → bit_or ((m - cleared m) * (s % 2)) (cleared m * (s / 2 % 2)) ≡ deposit 64 s m
two_lowest s m fits few =
    let small : cleared m < 2 ^ 64 = lt_of_le_of_lt (and_le_l m (m - 1)) fits in
    let none : cleared (cleared m) ≡ 0 = none_left m fits few in
    let alone : cleared m ≡ lowest 64 (cleared m) = omega (arith, lowest_sum 64 (cleared m) small) in
    let last : deposit 64 (s / 2) (cleared m) ≡ first 64 (s / 2) (cleared m) =
    deposit_step 64 (s / 2) (cleared m) small ∙ ap (bit_or (first 64 (s / 2) (cleared m))) (ap (deposit 64 (s / 2 / 2)) none ∙ deposit-zero 64 (s / 2 / 2)) ∙ or_zero_r _ in
    ap₂ bit_or (ap (λ x. x * (s % 2)) (left_of m fits)) (ap (λ x. x * (s / 2 % 2)) alone ∙ sym last) ∙ sym (deposit_step 64 s m fits)

pub ruleset turn_facts = (turn, Deposits-from_deposit, or_zero_r, deposit-zero, deposit_no_source)

pub ruleset two_lowest_facts = (count-word_bits, cleared_word, Deposits-from_deposit, two_lowest)
