-- The set places of a number: how many are below a place, the lowest one, and the number without it.
use Rattle.vortex_mask.proofs.Common.{common_steps, ◌≡◌, ℕ, zero, suc, ◌+◌, ◌-◌, ◌*◌, ◌/◌, ◌%◌, ◌^◌, ◌<◌, ◌≤◌, ◌⊎◌, inl, inr, sym, ap, ◌∙◌, arith, pow-suc, bit_and, count_ones, mod-lt, pow_pos, and_comm, and-not, ones-le, cases_lt, and_step, and_self, ones_step}
use lib.Arith.{mod-mul}

-- how many of the places below i are set
abbrev pub ones_below : ℕ → ℕ → ℕ
ones_below w i = count_ones (w % 2 ^ i)

-- an even or an odd number
pub parity : (n : ℕ) → (n % 2 ≡ 0) ⊎ (n % 2 ≡ 1)
parity n = grind (arith)

-- ---- how many places below i are set

pub ones_below-zero : (w : ℕ) → ones_below w 0 ≡ 0
ones_below-zero w = omega (arith, ones-le 0 (w % 1) (omega arith))

-- the lowest place, and the others of the half
pub ones_below-suc : (w i : ℕ) → ones_below w (suc i) ≡ w % 2 + ones_below (w / 2) i
ones_below-suc w i = grind (arith, mod-mul, pow_pos, pow-suc, ones_step)

pub ones_below-le : (w i : ℕ) → ones_below w i ≤ i
ones_below-le w i = ones-le i (w % 2 ^ i) (mod-lt w (pow_pos i))

-- ---- a number without its lowest set place

abbrev pub cleared : ℕ → ℕ
cleared m = bit_and m (m - 1)

pub cleared-odd : (m : ℕ) → m % 2 ≡ 1 → cleared m ≡ m / 2 * 2
cleared-odd m e = grind (arith, and_self, and_step)

pub cleared-even : (m : ℕ) → m % 2 ≡ 0 → cleared m ≡ cleared (m / 2) * 2
cleared-even m e = grind (arith, and_step)

-- the lowest set place alone, among k places
abbrev pub lowest : ℕ → ℕ → ℕ
lowest k m = bit_and m (2 ^ k - m)

pub lowest-odd : (k m : ℕ) → m < 2 ^ suc k → m % 2 ≡ 1 → lowest (suc k) m ≡ 1
lowest-odd k m fits e = grind (arith, pow-suc, and_comm, and-not, and_self, and_step, pow-suc 2 k, and-not k (m / 2) (m / 2) (omega (arith, pow-suc 2 k)) (omega (arith, pow-suc 2 k)), and_self (m / 2), and_step m (2 ^ suc k - m))

pub lowest-even : (k m : ℕ) → m < 2 ^ suc k → m % 2 ≡ 0 → lowest (suc k) m ≡ lowest k (m / 2) * 2
lowest-even k m fits e = grind (arith, pow-suc, and_step)

-- the lowest set place and the others make the number
pub lowest_sum : (k m : ℕ) → m < 2 ^ k → cleared m + lowest k m ≡ m
lowest_sum zero m fits = let z : m ≡ 0 = omega arith in ap (λ x. cleared x + lowest 0 x) z ∙ sym z
lowest_sum (suc k) m fits = grind (arith, common_steps, parity, pow-suc, cleared-even, lowest-even, cleared-odd, lowest-odd, lowest_sum k (m / 2) (omega (arith, pow-suc 2 k)))

pub ones-cleared : (k m : ℕ) → 0 < m → m < 2 ^ k → count_ones m ≡ count_ones (cleared m) + 1
ones-cleared zero m some fits = absurd (omega arith)
ones-cleared (suc k) m some fits = elim (parity m) [
  | inl even ↦
      let c : cleared m / 2 ≡ cleared (m / 2) = omega (arith, cleared-even m even) in
      omega (arith, ones-cleared k (m / 2) (omega arith) (omega (arith, pow-suc 2 k)), ones_step m, ones_step (cleared m), ap count_ones c, cleared-even m even)
  | inr odd ↦
      let c : cleared m / 2 ≡ m / 2 = omega (arith, cleared-odd m odd) in
      omega (arith, ones_step m, ones_step (cleared m), ap count_ones c, cleared-odd m odd)
]

pub ones-cleared_le : (k m : ℕ) → m < 2 ^ k → count_ones (cleared m) ≤ count_ones m - 1
ones-cleared_le k m fits = grind (arith, common_steps, cases_lt, ones-cleared, ones-le)
