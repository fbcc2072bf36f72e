-- Which values an operation makes true of two lists, by words.
use Rattle.mask_bits.proofs.Common.{◌≡◌, ◌↔◌, nat_eq, ℕ, ◌+◌, ◌*◌, ◌-◌, ◌/◌, ◌%◌, ◌^◌, ◌<◌, ◌≤◌, ◌&&◌, ◌||◌, not, Bool, false, List, ◌++◌, length, get_or, drop, refl, sym, ap, ◌∙◌, inl, inr, arith, mod-eq_of_lt, count_ones, bit_and, bit_or, bit_xor, ext_get_or, pow-lt, bit_at, cases_lt, nat_tests, and_le_l, same_from_bits, same_from_bits_below, bit_at-lt, bit_at-zero, bit_at_or, bit_at_xor, bitmap, Packed, backing_bit, values, IsNoneTrue, combined, xor_of, count, repeated, word_bits, window}
use Rattle.mask_bits.proofs.BufferLemmas.{length-values, get_or-values}
use Rattle.mask_bits.proofs.CombineLemmas.{backing_bit-drop, combined_bit, word_bits-combined}
use Rattle.mask_bits.proofs.Lists.BooleanLemmas.{combined-append, combined-take, length-combined, get_or-combined}
use Rattle.mask_bits.proofs.Lists.CountLemmas.{count-append, count-repeated_false, length-repeated, get_or-repeated}
use Rattle.mask_bits.proofs.Lists.Places.PlaceLemmas.{count-le-length}
use Rattle.mask_bits.proofs.Lists.Words.BackingBitLemmas.{bitmap-append, length-bitmap, get_or-bitmap}
use Rattle.mask_bits.proofs.Lists.Words.FrontLemmas.{window-take, window-whole}
use Rattle.mask_bits.proofs.Lists.Words.ShiftLemmas.{bit_at-low_mask, bit_at-past_mask, word_bits-low_mask, get_or-word_bits_and, get_or-word_bits_or, get_or-word_bits_not}
use Rattle.mask_bits.proofs.Lists.Words.WordLemmas.{count-word_bits, get_or-word_bits}

-- ---- words

-- an exclusive or of words, bit by bit
pub get_or-word_bits_xor : (v w j : ℕ) → j < 64 → get_or (word_bits (bit_xor v w)) j false
    ≡ (get_or (word_bits v) j false && not (get_or (word_bits w) j false) || not (get_or (word_bits v) j false) && get_or (word_bits w) j false)
get_or-word_bits_xor v w j h = grind (arith, get_or-word_bits, bit_at_xor, bit_at-lt, nat_tests)

bit_of_false : (n : ℕ) → n < 2 → nat_eq n 1 ≡ false → n ≡ 0
bit_of_false n few is = grind (arith, nat_tests)

-- a word with no set bit is 0
pub none_set : (w : ℕ) → w < 2 ^ 64 → (w ≡ 0) ↔ ((j : ℕ) → j < 64 → get_or (word_bits w) j false ≡ false)
none_set w fits = (
  λ none j h. get_or-word_bits w j false h ∙ ap (λ n. nat_eq (bit_at n j) 1) none ∙ ap (λ b. nat_eq b 1) (bit_at-zero j),
  λ all. same_from_bits_below 64 w 0 fits (omega arith) (λ j h. bit_of_false (bit_at w j) (bit_at-lt w j) (sym (get_or-word_bits w j false h) ∙ all j h) ∙ sym (bit_at-zero j)),
)

-- nor has either of two where both together have none
pub none-or : (u w : ℕ) → (bit_or u w ≡ 0) ↔ ((u ≡ 0) × (w ≡ 0))
none-or u w = (
  λ none. (
    same_from_bits u 0 (λ i. omega (arith, bit_at_or u w i, ap (λ n. bit_at n i) none, bit_at-zero i)),
    same_from_bits w 0 (λ i. omega (arith, bit_at_or u w i, ap (λ n. bit_at n i) none, bit_at-zero i)),
  ),
  λ h. rw (h.0, h.1) refl,
)

-- ---- bits

-- a combined word that is 0 has none
pub none-word : (f : Bool → Bool → Bool) (a b : List ℕ) (p q v w r : ℕ) → r < 2 ^ 64
    → word_bits v ≡ window a p → word_bits w ≡ window b q → word_bits r ≡ combined f (word_bits v) (word_bits w)
    → (r ≡ 0) ↔ IsNoneTrue f a p b q 64
none-word f a b p q v w r fits is_v is_w is_r =
    let bit : (j : ℕ) → j < 64 → get_or (word_bits r) j false ≡ f (backing_bit a (p + j)) (backing_bit b (q + j))
    = λ j h. combined_bit f a b p q j (word_bits v) (word_bits w) (word_bits r) is_v is_w is_r h in grind (arith, none_set r fits)

-- some bits, and those past them
pub none-join : (f : Bool → Bool → Bool) (a b : List ℕ) (p q m n : ℕ) → IsNoneTrue f a p b q (m + n) ↔ (IsNoneTrue f a p b q m × IsNoneTrue f a (p + m) b (q + m) n)
none-join f a b p q m n = (
  λ all. (λ i h. all i (omega arith), λ i h. grind (arith, all (m + i))),
  λ both i h. elim (cases_lt i m) [
    | inl before ↦ both.0 i before
    | inr past ↦ grind (arith, both.1 (i - m))
  ],
)

-- the first bits of a word, where the others are cleared
pub none-low : (f : Bool → Bool → Bool) (a b : List ℕ) (p q v w r mask n : ℕ) → n < 64 → r < 2 ^ 64
    → word_bits v ≡ window a p → word_bits w ≡ window b q → word_bits r ≡ combined f (word_bits v) (word_bits w) → mask ≡ 2 ^ n - 1
    → (bit_and r mask ≡ 0) ↔ IsNoneTrue f a p b q n
none-low f a b p q v w r mask n few fits is_v is_w is_r is =
    let cut : ℕ = bit_and r (2 ^ n - 1) in
    let same : bit_and r mask ≡ cut = ap (bit_and r) is in
    let bit : (j : ℕ) → j < n → nat_eq (bit_at cut j) 1 ≡ f (backing_bit a (p + j)) (backing_bit b (q + j))
    = λ j h. ap (λ x. nat_eq x 1) (bit_at-low_mask r n j h) ∙ sym (get_or-word_bits r j false (omega arith)) ∙ combined_bit f a b p q j (word_bits v) (word_bits w) (word_bits r) is_v is_w is_r (omega arith) in (
      λ none j h. sym (bit j h) ∙ ap (λ x. nat_eq (bit_at x j) 1) (sym same ∙ none) ∙ ap (λ x. nat_eq x 1) (bit_at-zero j),
      λ all. same ∙ same_from_bits_below 64 cut 0 (omega (arith, and_le_l r (2 ^ n - 1))) (omega arith) (grind (arith, bit_of_false, bit_at-lt, bit_at-zero, bit_at-past_mask)),
    )

-- the mask of the first bits
pub low_mask : (n : ℕ) → n < 64 → 1 * 2 ^ n % 2 ^ 64 - 1 ≡ 2 ^ n - 1
low_mask n few = let small : 2 ^ n < 2 ^ 64 = pow-lt few in omega (arith, mod-eq_of_lt small)

-- some whole words, and the bits past them
pub none-parts : (f : Bool → Bool → Bool) (a b : List ℕ) (p q n : ℕ)
    → IsNoneTrue f a p b q n ↔ (IsNoneTrue f a p b q (64 * (n / 64)) × IsNoneTrue f a (p + 64 * (n / 64)) b (q + 64 * (n / 64)) (n % 64))
none-parts f a b p q n = grind (arith, none-join f a b p q (64 * (n / 64)) (n % 64))

-- the same bits, seen from the byte that they begin in
pub none-drop : (f : Bool → Bool → Bool) (a b from_a from_b : List ℕ) (low_a low_b p q n : ℕ) → from_a ≡ drop (p / 8) a → low_a ≡ p % 8 → from_b ≡ drop (q / 8) b → low_b ≡ q % 8
    → IsNoneTrue f from_a low_a from_b low_b n ↔ IsNoneTrue f a p b q n
none-drop f a b from_a from_b low_a low_b p q n is_a is_low_a is_b is_low_b = grind (arith, backing_bit-drop)

-- ---- lists

-- no value of the combined list is true
pub none_from_list : (f : Bool → Bool → Bool) (a b : List ℕ) (p q n : ℕ)
    → IsNoneTrue f a p b q n ↔ (combined f (values (record { bytes = a; offset = p; len = n })) (values (record { bytes = b; offset = q; len = n })) ≡ repeated n false)
none_from_list f a b p q n =
    let va : Packed = record { bytes = a; offset = p; len = n } in
    let vb : Packed = record { bytes = b; offset = q; len = n } in
    let made : List Bool = combined f (values va) (values vb) in
    let alike : length (values va) ≡ length (values vb) = length-values va ∙ sym (length-values vb) in
    let len : length made ≡ n = length-combined f (values va) (values vb) alike ∙ length-values va in
    let value : (i : ℕ) → i < n → get_or made i false ≡ f (backing_bit a (p + i)) (backing_bit b (q + i))
    = λ i h. grind (arith, get_or-combined f (values va) (values vb) i false, length-values va, alike, get_or-values va i false, get_or-values vb i false) in (
      λ none. ext_get_or false made (repeated n false) (len ∙ sym (length-repeated n false)) (λ i h. value i (omega arith) ∙ none i (omega arith) ∙ sym (get_or-repeated n i false false (omega arith))),
      λ all i h. sym (value i h) ∙ ap (λ (m : List Bool). get_or m i false) all ∙ get_or-repeated n i false false h,
    )

-- two lists of one length are the same where no value differs
pub same_from_none_unlike : (a b : List Bool) (n : ℕ) → length a ≡ n → length b ≡ n → (xor_of a b ≡ repeated n false) ↔ (a ≡ b)
same_from_none_unlike a b n len len_b = (
  λ none. ext_get_or false a b (len ∙ sym len_b) (λ i h.
      grind (arith, get_or-combined (λ x y. x && not y || not x && y) a b i false, ap (λ (m : List Bool). get_or m i false) none, get_or-repeated n i false false)),
  λ same. ext_get_or false (xor_of a b) (repeated n false) (length-combined (λ x y. x && not y || not x && y) a b (len ∙ sym len_b) ∙ len ∙ sym (length-repeated n false)) (grind (arith, length-combined, get_or-combined, get_or-repeated)),
)

-- ---- counts

-- some values, and those past them
bitmap-combined : (f : Bool → Bool → Bool) (a b : List ℕ) (p q m n : ℕ)
    → combined f (bitmap a p m) (bitmap b q m) ++ combined f (bitmap a (p + m) n) (bitmap b (q + m) n) ≡ combined f (bitmap a p (m + n)) (bitmap b q (m + n))
bitmap-combined f a b p q m n = grind (arith, bitmap-append, combined-append, length-bitmap)

-- the true values of one more word
pub count-step : (f : Bool → Bool → Bool) (a b : List ℕ) (p q i n v w r : ℕ)
    → n ≡ count (combined f (bitmap a p (64 * i)) (bitmap b q (64 * i))) → r < 2 ^ 64
    → word_bits v ≡ window a (p + 64 * i) → word_bits w ≡ window b (q + 64 * i) → word_bits r ≡ combined f (word_bits v) (word_bits w)
    → n + count_ones r ≡ count (combined f (bitmap a p (64 * (i + 1))) (bitmap b q (64 * (i + 1))))
count-step f a b p q i n v w r before fits is_v is_w is_r =
    grind (arith, window-whole, count-word_bits, count-append, bitmap-combined f a b p q (64 * i) 64)

-- of none
pub count-none : (f : Bool → Bool → Bool) (a b : List ℕ) (p q : ℕ) → 0 ≡ count (combined f (bitmap a p 0) (bitmap b q 0))
count-none f a b p q = omega (arith, count-le-length (combined f (bitmap a p 0) (bitmap b q 0)), length-combined f (bitmap a p 0) (bitmap b q 0), length-bitmap a p 0, length-bitmap b q 0)

-- no more are true than there are
pub count-at_most : (f : Bool → Bool → Bool) (a b : List ℕ) (p q n : ℕ) → count (combined f (bitmap a p n) (bitmap b q n)) ≤ n
count-at_most f a b p q n = omega (arith, count-le-length (combined f (bitmap a p n) (bitmap b q n)), length-combined f (bitmap a p n) (bitmap b q n), length-bitmap a p n, length-bitmap b q n)

-- the first bits of a word
pub count-low : (f : Bool → Bool → Bool) (a b : List ℕ) (p q v w r mask n : ℕ) → n < 64 → bit_and r mask < 2 ^ 64
    → word_bits v ≡ window a p → word_bits w ≡ window b q → word_bits r ≡ combined f (word_bits v) (word_bits w) → mask ≡ 2 ^ n - 1
    → count_ones (bit_and r mask) ≡ count (combined f (bitmap a p n) (bitmap b q n))
count-low f a b p q v w r mask n few fits is_v is_w is_r is =
    grind (arith, combined-take, window-take, count-word_bits (bit_and r mask) fits, word_bits-low_mask, count-append, count-repeated_false)

-- the same bits, seen from the byte that they begin in
pub bitmap-byte : (bytes from : List ℕ) (low p n : ℕ) → from ≡ drop (p / 8) bytes → low ≡ p % 8 → bitmap from low n ≡ bitmap bytes p n
bitmap-byte bytes from low p n is is_low =
    ext_get_or false _ _ (grind (arith, length-bitmap, get_or-bitmap, backing_bit-drop)) (λ j h. grind (arith, length-bitmap, get_or-bitmap, backing_bit-drop))

-- whole words, and the bits past them
pub count-parts : (f : Bool → Bool → Bool) (a b : List ℕ) (p q n : ℕ)
    → count (combined f (bitmap a p (64 * (n / 64))) (bitmap b q (64 * (n / 64)))) + count (combined f (bitmap a (p + 64 * (n / 64)) (n % 64)) (bitmap b (q + 64 * (n / 64)) (n % 64)))
    ≡ count (combined f (bitmap a p n) (bitmap b q n))
count-parts f a b p q n = grind (arith, count-append, bitmap-combined f a b p q (64 * (n / 64)) (n % 64))

-- the same of lists that begin at some bit of some bytes
pub count-whole_and_rest : (f : Bool → Bool → Bool) (a b from_a from_b : List ℕ) (low_a low_b p q n x y : ℕ) → from_a ≡ drop (p / 8) a → low_a ≡ p % 8 → from_b ≡ drop (q / 8) b → low_b ≡ q % 8
    → x ≡ count (combined f (bitmap from_a low_a (64 * (n / 64))) (bitmap from_b low_b (64 * (n / 64))))
    → y ≡ count (combined f (bitmap from_a (low_a + 64 * (n / 64)) (n % 64)) (bitmap from_b (low_b + 64 * (n / 64)) (n % 64)))
    → x + y ≡ count (combined f (bitmap a p n) (bitmap b q n))
count-whole_and_rest f a b from_a from_b low_a low_b p q n x y is_a is_low_a is_b is_low_b whole rest =
    grind (arith, count-parts f from_a from_b low_a low_b n, bitmap-byte a from_a low_a p n is_a is_low_a, bitmap-byte b from_b low_b q n is_b is_low_b)

-- what an operation on words has to show
pub ruleset word_operations = (word_bits-combined, get_or-word_bits_and, get_or-word_bits_or, get_or-word_bits_xor, get_or-word_bits_not)

pub ruleset counted_in_rest = (count-low, low_mask)

pub ruleset counted = (count-none, count-parts, count-at_most, bitmap-byte)

pub ruleset none_in_rest = (none-low, low_mask, none-parts)
