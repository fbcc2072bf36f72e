-- Lanes read as one number, and as lanes of another width.
use Rattle.mask_bits.proofs.Common.{◌≡◌, ℕ, zero, suc, ◌+◌, ◌-◌, ◌*◌, ◌/◌, ◌%◌, ◌^◌, ◌<◌, List, [], ◌∷◌, length, get_or, refl, sym, ap, subst, ◌∙◌, arith, pow-suc, add_comm, bit_and, count_ones, pow-add, pow_mono, Fits, ◌≤◌, ap₂, Each1, number_l, digits_l, chunk, Each1-from_get_or, length-chunk, get_or-chunk, get_or_wider, Each1-get_or, and_mask, mod-mul-add, shr_high, ones_cat, ones-le, one-le-pow, pow-zero, add-mul-mod_self_left, digits_lt, AreLanes, shr-shr, mul_comm}
use mir.Syntax.{Width}
use mir.Val.{bits}
use lib.Arith.{mod-mul}
use lib.Count.{ones}
use Rattle.mask_bits.proofs.Lists.Words.TableLemmas.{same_below}

-- ---- a number cut into lanes

length-digits : (q n x : ℕ) → length (digits_l q n x) ≡ n
length-digits q zero x = refl
length-digits q (suc n) x = omega (arith, length-digits q n (x / q))

digit : (w n x j : ℕ) → j < n → get_or (digits_l (2 ^ w) n x) j 0 ≡ x / 2 ^ (w * j) % 2 ^ w
digit w zero x j h = absurd (omega arith)
digit w (suc n) x zero h = grind arith
digit w (suc n) x (suc j) h = grind (arith, shr-shr, digit w n (x / 2 ^ w) j (omega arith))

pub AreLanes-digits : (w n x : ℕ) → AreLanes n (digits_l (2 ^ w) n x) (λ j. x / 2 ^ (w * j) % 2 ^ w)
AreLanes-digits w n x = record { lanes = length-digits (2 ^ w) n x; each = digit w n x }

-- ---- two neighbors as one lane

pub number-two : (p : ℕ) (xs : List ℕ) → length xs ≡ 2 → number_l p xs ≡ get_or xs 0 0 + get_or xs 1 0 * p
number-two p [] h = absurd (omega arith)
number-two p (x ∷ []) h = absurd (omega arith)
number-two p (x ∷ y ∷ []) h = grind (arith, mul_comm)
number-two p (x ∷ y ∷ z ∷ zs) h = absurd (omega arith)

-- lanes that are below p
pub Each1-below : {n : ℕ} {xs : List ℕ} {f : ℕ → ℕ} (p : ℕ) → AreLanes n xs f → ((j : ℕ) → j < n → f j < p) → Each1 (λ x. x < p) xs
Each1-below {n} {xs} {f} p h small =
    let long = h.lanes in
    Each1-from_get_or (λ x. x < p) xs 0 (λ i l. subst (λ x. x < p) (sym (h.each i (omega arith))) (small i (omega arith)))

pub AreLanes-wider : {n : ℕ} {xs : List ℕ} {f : ℕ → ℕ} (p q : ℕ) → q ≡ p ^ 2 → AreLanes (2 * n) xs f → ((j : ℕ) → j < 2 * n → f j < p)
    → AreLanes n (digits_l q n (number_l p xs)) (λ j. f (2 * j) + f (2 * j + 1) * p)
AreLanes-wider {n} {xs} {f} p q square h small =
    let long = h.lanes in
    record {
      lanes = length-digits q n (number_l p xs);
      each = λ j l.
          let here : List ℕ = chunk (2 * j) 2 xs in
          let first : get_or here 0 0 ≡ f (2 * j) = get_or-chunk (2 * j) 2 xs 0 0 (omega arith) ∙ ap (λ k. get_or xs k 0) (omega arith) ∙ h.each (2 * j) (omega arith) in
          let second : get_or here 1 0 ≡ f (2 * j + 1) = get_or-chunk (2 * j) 2 xs 1 0 (omega arith) ∙ h.each (2 * j + 1) (omega arith) in
          get_or_wider p 2 q n xs j square (Each1-below p h small) l
          ∙ number-two p here (length-chunk (2 * j) 2 xs (omega arith))
          ∙ ap₂ (λ x y. x + y * p) first second;
    }

-- ---- through the bytes

-- the lowest digit of those that are kept
pub low_split : (b k x : ℕ) → 0 < b → x % b ^ suc k ≡ x / b % b ^ k * b + x % b
low_split b k x some = ap (λ y. x % y) (pow-suc b k) ∙ mod-mul x (one-le-pow k b some) some

number-digits : (q n x : ℕ) → 0 < q → number_l q (digits_l q n x) ≡ x % q ^ n
number-digits q zero x some = grind (arith, pow-zero)
number-digits q (suc n) x some = grind (arith, low_split, mul_comm, number-digits q n (x / q) some)

number-lt : (p : ℕ) (xs : List ℕ) → 0 < p → Each1 (λ x. x < p) xs → number_l p xs < p ^ length xs
number-lt p [] some fit = omega (arith, pow-zero p)
number-lt p (x ∷ xs) some fit = omega (arith, fit.0, pow-suc p (length xs), digits_lt {q = number_l p xs} {m = p ^ length xs} {r = x} {c = p} (number-lt p xs some fit.1) fit.0, mul_comm p (number_l p xs))

pub through_bytes : (p n : ℕ) (xs : List ℕ) → 0 < p → Each1 (λ x. x < p) xs → p ^ length xs ≡ 256 ^ n → number_l 256 (digits_l 256 n (number_l p xs)) ≡ number_l p xs
through_bytes p n xs some fit same = grind (arith, number-digits, number-lt)

-- ---- the neighbors in such a lane

pub wide_lane-fits : (w : Width) (n : ℕ) (xs : List ℕ) (j : ℕ) → (length xs ≡ n) × Each1 (Fits w) xs → j < n → get_or xs j 0 < 2 ^ bits w
wide_lane-fits w n xs j fits h = grind (arith, Each1-get_or)

pub lower_lane : (w x y : ℕ) → x < 2 ^ w → bit_and (x + y * 2 ^ w) (2 ^ w - 1) ≡ x
lower_lane w x y small = and_mask (x + y * 2 ^ w) w ∙ ap (λ n. n % 2 ^ w) (add_comm x (y * 2 ^ w)) ∙ mod-mul-add y (2 ^ w) x small

pub upper_lane : (w x y : ℕ) → x < 2 ^ w → (x + y * 2 ^ w) / 2 ^ w ≡ y
upper_lane w x y small = ap (λ n. n / 2 ^ w) (add_comm x (y * 2 ^ w)) ∙ shr_high y w x small

-- ---- two to the count of a nibble's set bits

abbrev pub powers : List ℕ
powers = 1 ∷ 2 ∷ 2 ∷ 4 ∷ 2 ∷ 4 ∷ 4 ∷ 8 ∷ 2 ∷ 4 ∷ 4 ∷ 8 ∷ 4 ∷ 8 ∷ 8 ∷ 16 ∷ []

pub power_at : (n : ℕ) → n < 16 → get_or powers n 0 ≡ 2 ^ count_ones n
unfolding ones
power_at = same_below 16 (λ n. get_or powers n 0) (λ n. 2 ^ count_ones n) tt

-- of a byte it is the product of its nibbles'
pub power_of_byte : (n : ℕ) → n < 256 → 2 ^ count_ones (n % 16) * 2 ^ count_ones (n / 16) % 2 ^ 16 ≡ 2 ^ count_ones n
power_of_byte n fits =
    let parts : n / 16 * 2 ^ 4 + n % 16 ≡ n = omega arith in
    let both : count_ones n ≡ count_ones (n % 16) + count_ones (n / 16) = ap count_ones (sym parts) ∙ ones_cat 4 (n / 16) (n % 16) (omega arith) ∙ add_comm _ _ in
    let few : count_ones n ≤ 8 = ones-le 8 n fits in
    let power : 2 ^ count_ones (n % 16) * 2 ^ count_ones (n / 16) ≡ 2 ^ count_ones n = sym (ap (λ k. 2 ^ k) both ∙ pow-add 2 (count_ones (n % 16)) (count_ones (n / 16))) in
    omega (arith, power, pow_mono {i = count_ones n} {j = 8} few)

-- a sum that wraps, of which one part did before
pub sum_cut : (x y m : ℕ) → (x + y % m) % m ≡ (x + y) % m
sum_cut x y m = grind (arith, add-mul-mod_self_left (x + y % m) m (y / m))
