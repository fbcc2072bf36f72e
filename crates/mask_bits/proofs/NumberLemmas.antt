-- Bytes as one number, the first byte lowest, and its bits.
use Rattle.mask_bits.proofs.Common.{◌≡◌, ℕ, zero, suc, ◌+◌, ◌*◌, ◌-◌, ◌/◌, ◌%◌, ◌^◌, ◌<◌, ◌≤◌, List, [], ◌∷◌, length, get_or, take, drop, refl, sym, ap, subst, ◌∙◌, arith, lit<, mul_assoc, bit_at, from_le_bytes, to_le_bytes, bytes_low_first, byte_at, sum_through, byte_worth, get_or-drop, get_or-take, get_or_past, bit_at-zero, bit_at_cat_low, bit_at_cat_high, number, w64, length-take, pow-suc, one-le-pow}

-- each entry is a byte
abbrev pub AreBytes : List ℕ → Type 0
AreBytes bytes = (k : ℕ) → get_or bytes k 0 < 256

-- and of the first ones too
pub bytes-take : (n : ℕ) (bytes : List ℕ) → AreBytes bytes → AreBytes (take n bytes)
bytes-take n bytes are k = grind (arith, get_or-take, get_or_past, length-take)

-- and of those past the first
pub bytes-drop : (n : ℕ) (bytes : List ℕ) → AreBytes bytes → AreBytes (drop n bytes)
bytes-drop n bytes are k = subst (λ (x : ℕ). x < 256) (sym (get_or-drop n bytes k 0)) (are (n + k))

-- the bytes of a number
byte_small : (i n : ℕ) → byte_at i n < 256
byte_small zero n = omega arith
byte_small (suc i) n = omega arith

low_bytes : (i k n : ℕ) → AreBytes (bytes_low_first i k n)
low_bytes i zero n j = lit< tt
low_bytes i (suc k) n j = grind (arith, lit<, byte_small, low_bytes (suc i) k)

pub bytes-of_word : (w : ℕ) → AreBytes (to_le_bytes w64 w)
bytes-of_word w = low_bytes 0 8 w

-- ---- the bits of a number

number-cons : (b : ℕ) (bs : List ℕ) → number (b ∷ bs) ≡ number bs * 2 ^ 8 + b
number-cons b bs = omega arith

-- bit r of byte k
bit_at-number_split : (bytes : List ℕ) (k r : ℕ) → AreBytes bytes → r < 8 → bit_at (number bytes) (8 * k + r) ≡ bit_at (get_or bytes k 0) r
bit_at-number_split [] k r are low = bit_at-zero (8 * k + r) ∙ sym (bit_at-zero r)
bit_at-number_split (b ∷ bs) zero r are low = grind (arith, bit_at_cat_low (number bs) 8 b r low)
bit_at-number_split (b ∷ bs) (suc k) r are low =
    let above : 8 ≤ 8 * suc k + r = omega arith in
    let rest : 8 * suc k + r - 8 ≡ 8 * k + r = omega arith in
    ap (λ n. bit_at n (8 * suc k + r)) (number-cons b bs) ∙ bit_at_cat_high (number bs) 8 b (8 * suc k + r) (are 0) above
    ∙ ap (bit_at (number bs)) rest ∙ bit_at-number_split bs k r (λ j. are (suc j)) low

-- bit q is bit q % 8 of byte q / 8
pub bit_at-number : (bytes : List ℕ) (q : ℕ) → AreBytes bytes → bit_at (number bytes) q ≡ bit_at (get_or bytes (q / 8) 0) (q % 8)
bit_at-number bytes q are = grind (arith, bit_at-number_split)

-- the bytes from one on, by this and those behind it
pub number-from : (k : ℕ) (bytes : List ℕ) → number (drop k bytes) ≡ get_or bytes k 0 + 256 * number (drop (suc k) bytes)
number-from zero [] = refl
number-from zero (b ∷ bs) = refl
number-from (suc k) [] = refl
number-from (suc k) (b ∷ bs) = number-from k bs

-- how large the number of some bytes is
pub number-fits : (k : ℕ) (bytes : List ℕ) → AreBytes bytes → length bytes ≤ k → number bytes < 256 ^ k
number-fits k [] are few = omega (arith, one-le-pow k 256 (lit< tt))
number-fits zero (b ∷ bs) are few = omega (arith, few)
number-fits (suc k) (b ∷ bs) are few = omega (arith, are 0, number-fits k bs (λ j. are (suc j)) (omega (arith, few)), pow-suc 256 k)

-- ---- eight bytes read as a number

number-more : (n : ℕ) (bytes : List ℕ) → number (take (suc n) bytes) ≡ number (take n bytes) + get_or bytes n 0 * 256 ^ n
number-more zero [] = omega arith
number-more (suc n) [] = omega arith
number-more zero (b ∷ bs) = omega arith
number-more (suc n) (b ∷ bs) =
    let rest = number-more n bs in
    let raised : get_or bs n 0 * 256 ^ suc n ≡ get_or bs n 0 * 256 ^ n * 256
    = ap (λ e. get_or bs n 0 * e) (pow-suc 256 n) ∙ sym (mul_assoc (get_or bs n 0) (256 ^ n) 256) in
    omega (arith, rest, raised)

number-sum : (k : ℕ) (bytes : List ℕ) → sum_through (λ i. byte_worth i (get_or bytes i 0)) k ≡ number (take (suc k) bytes)
number-sum zero bytes = omega (arith, number-more 0 bytes)
number-sum (suc k) bytes =
    ap (λ n. n + get_or bytes (suc k) 0 * 256 ^ suc k) (number-sum k bytes) ∙ sym (number-more (suc k) bytes)

pub bit_at-chunk : (chunk : List ℕ) (j : ℕ) → AreBytes chunk → j < 64 → bit_at (from_le_bytes w64 chunk) j ≡ bit_at (get_or chunk (j / 8) 0) (j % 8)
bit_at-chunk chunk j are h =
    ap (λ n. bit_at n j) (number-sum 7 chunk) ∙ bit_at-number (take 8 chunk) j (bytes-take 8 chunk are)
    ∙ ap (λ b. bit_at b (j % 8)) (get_or-take 8 chunk (j / 8) 0 (omega arith))
