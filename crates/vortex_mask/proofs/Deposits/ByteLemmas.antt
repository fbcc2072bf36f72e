-- The bytes of a word through each operation on it.
use Rattle.vortex_mask.proofs.Common.{common_steps, ◌≡◌, ℕ, zero, suc, ◌+◌, ◌-◌, ◌*◌, ◌/◌, ◌%◌, ◌^◌, ◌<◌, ◌≤◌, sym, ap, ◌∙◌, arith, bit_at, shr-shr, byte_at, field, mod-mod-pow, low_split}

pub byte_at-lt : (w j : ℕ) → byte_at w j < 256
unfolding byte_at
byte_at-lt w j = omega arith

pub byte_at-zero : (w : ℕ) → byte_at w 0 ≡ w % 256
unfolding byte_at
byte_at-zero w = omega arith

pub byte_at-suc : (w j : ℕ) → byte_at w (suc j) ≡ byte_at (w / 256) j
unfolding byte_at
byte_at-suc w j = grind (arith, common_steps, shr-shr w 8 (8 * j))

-- ---- sums that carry nothing from byte to byte

pub byte_at_add : (a b j : ℕ) → ((i : ℕ) → i ≤ j → byte_at a i + byte_at b i < 256) → byte_at (a + b) j ≡ byte_at a j + byte_at b j
byte_at_add a b zero h = omega (arith, byte_at-zero (a + b), byte_at-zero a, byte_at-zero b, h 0 (omega arith))
byte_at_add a b (suc j) h = grind (arith, byte_at-zero a, byte_at-zero b, byte_at-suc (a + b) j, byte_at_add (a / 256) (b / 256) j (λ i l. omega (arith, h (suc i) (omega arith), byte_at-suc a i, byte_at-suc b i)), byte_at-suc, byte_at-suc a j, byte_at-suc b j)

pub byte_at-low : (k x j : ℕ) → j < k → byte_at (x % 256 ^ k) j ≡ byte_at x j
byte_at-low zero x j h = absurd (omega arith)
byte_at-low (suc k) x zero h = omega (arith, low_split 256 k x (omega arith), byte_at-zero (x % 256 ^ suc k), byte_at-zero x)
byte_at-low (suc k) x (suc j) h = grind (arith, common_steps, low_split, byte_at-suc, byte_at-low k (x / 256) j (omega arith))

-- ---- bits

pub bit_at_byte : (w j t : ℕ) → t < 8 → bit_at w (8 * j + t) ≡ bit_at (byte_at w j) t
unfolding byte_at
bit_at_byte w j t h =
    let k = 7 - t in
    let e : k + 1 + t ≡ 8 = omega arith in
    sym (ap (λ x. x % 2) (ap (λ v. w / 2 ^ (8 * j) % 2 ^ v / 2 ^ t) (sym e) ∙ field (w / 2 ^ (8 * j)) (k + 1) t) ∙ mod-mod-pow _ k 1 ∙ ap (λ x. x % 2) (shr-shr w (8 * j) t))
