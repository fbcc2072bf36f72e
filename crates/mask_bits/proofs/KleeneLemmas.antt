-- The words that the loop over two lists with nulls reads and writes.
use Rattle.mask_bits.proofs.Common.{Bor, ap₂, option_map, subst, take, ◌++◌, ◌≡◌, ℕ, zero, suc, ◌+◌, ◌*◌, ◌-◌, ◌<◌, ◌≤◌, ◌⊎◌, ◌^◌, Bool, true, false, ◌&&◌, ◌||◌, List, [], ◌∷◌, length, get_or, map, Option, None, Some, refl, sym, ap, ◌∙◌, arith, ◌/◌, ◌%◌, drop, bitmap, values, bit_and, bit_or, bit_not, w64, ext_get_or, and_of, or_of, not_of, backing_bit, word_bits, window, get_or-map}
use Rattle.std.proofs.lemmas.List.{length-map, map-append}
use Rattle.std.proofs.lemmas.Nat.Bits.{bit_at-zero, bit_at_ones}
use Rattle.std.specs.Int.{bit_at}
use Rattle.std.specs.Prelude.{nat_eq}
use Rattle.mask_bits.specs.Kleene.{is_false, nullable_bitmap, nullable_window, value_at, word_values, AreWordsOf, AreOfTable, AreWithinBytes}
use Rattle.mask_bits.specs.declared.kleene.NullableBitmap.{NullableBitmap}
use Rattle.mask_bits.specs.declared.kleene.NullableBits.{NullableBits}
use Rattle.mask_bits.specs.Nullable.{and_kleene, or_kleene, is_true, nullable, nullable_value, combined_nullable, is_true_of, is_valid_of}
use Rattle.mask_bits.proofs.BufferLemmas.{values_from_front}
use Rattle.mask_bits.proofs.CombineLemmas.{word_bits-combined, backing_bit-drop}
use Rattle.mask_bits.proofs.Lists.BooleanLemmas.{length-not_of, length-combined, get_or-combined}
use Rattle.mask_bits.proofs.Lists.NullableLemmas.{by_values_2, map_combined}
use Rattle.mask_bits.proofs.Lists.Words.BackingBitLemmas.{bitmap-append, length-bitmap, get_or-bitmap}
use Rattle.mask_bits.proofs.Lists.Words.FrontLemmas.{bits-more, length-window, get_or-window, window-take}
use Rattle.mask_bits.proofs.Lists.Words.ShiftLemmas.{get_or-word_bits_and, get_or-word_bits_or, get_or-word_bits_not}
use Rattle.mask_bits.proofs.Lists.Words.WordLemmas.{length-word_bits, get_or-word_bits}

-- ---- words as lists

word_and : (v w : ℕ) → word_bits (bit_and v w) ≡ and_of (word_bits v) (word_bits w)
word_and v w = word_bits-combined (λ x y. x && y) (bit_and v w) v w (λ j h. get_or-word_bits_and v w j h)

word_or : (v w : ℕ) → word_bits (bit_or v w) ≡ or_of (word_bits v) (word_bits w)
word_or v w = word_bits-combined (λ x y. x || y) (bit_or v w) v w (λ j h. get_or-word_bits_or v w j h)

word_not : (w : ℕ) → w < 2 ^ 64 → word_bits (bit_not w64 w) ≡ not_of (word_bits w)
word_not w fits = ext_get_or false _ _ (length-word_bits (bit_not w64 w) ∙ sym (length-not_of (word_bits w) ∙ length-word_bits w)) (λ j h. grind (arith, length-word_bits, get_or-word_bits_not, get_or-map))

-- ---- the parts of values and their validity

true_of : (m v : List Bool) → and_of v m ≡ is_true_of (nullable m (Some v))
true_of [] [] = refl
true_of [] (y ∷ v) = refl
true_of (x ∷ m) [] = refl
true_of (true ∷ m) (true ∷ v) = grind (arith, true_of m v)
true_of (true ∷ m) (false ∷ v) = grind (arith, true_of m v)
true_of (false ∷ m) (true ∷ v) = grind (arith, true_of m v)
true_of (false ∷ m) (false ∷ v) = grind (arith, true_of m v)

false_of : (m v : List Bool) → and_of v (not_of m) ≡ map is_false (nullable m (Some v))
false_of [] [] = refl
false_of [] (y ∷ v) = refl
false_of (x ∷ m) [] = refl
false_of (true ∷ m) (true ∷ v) = grind (arith, false_of m v)
false_of (true ∷ m) (false ∷ v) = grind (arith, false_of m v)
false_of (false ∷ m) (true ∷ v) = grind (arith, false_of m v)
false_of (false ∷ m) (false ∷ v) = grind (arith, false_of m v)

pub words-new : (m v : ℕ) → m < 2 ^ 64 → AreWordsOf (nullable (word_bits m) (Some (word_bits v))) (bit_and v m) (bit_and v (bit_not w64 m))
words-new m v fits = record {
  trues = word_and v m ∙ true_of (word_bits m) (word_bits v);
  falses = word_and v (bit_not w64 m) ∙ ap (and_of (word_bits v)) (word_not m fits) ∙ false_of (word_bits m) (word_bits v);
}

-- ---- the tables

true_and : (x y : Option Bool) → is_true (and_kleene x y) ≡ (is_true x && is_true y)
true_and = by_values_2 (λ x y. is_true (and_kleene x y) ≡ (is_true x && is_true y)) refl refl refl refl refl refl refl refl refl

false_and : (x y : Option Bool) → is_false (and_kleene x y) ≡ (is_false x || is_false y)
false_and = by_values_2 (λ x y. is_false (and_kleene x y) ≡ (is_false x || is_false y)) refl refl refl refl refl refl refl refl refl

true_or : (x y : Option Bool) → is_true (or_kleene x y) ≡ (is_true x || is_true y)
true_or = by_values_2 (λ x y. is_true (or_kleene x y) ≡ (is_true x || is_true y)) refl refl refl refl refl refl refl refl refl

false_or : (x y : Option Bool) → is_false (or_kleene x y) ≡ (is_false x && is_false y)
false_or = by_values_2 (λ x y. is_false (or_kleene x y) ≡ (is_false x && is_false y)) refl refl refl refl refl refl refl refl refl

pub words-and : (a b : List (Option Bool)) (s t u w : ℕ) → AreWordsOf a s t → AreWordsOf b u w → AreWordsOf (combined_nullable and_kleene a b) (bit_and s u) (bit_or t w)
words-and a b s t u w x y = record {
  trues = grind (arith, word_and s u, x.trues, y.trues, map_combined is_true and_kleene (λ x y. x && y) true_and a b);
  falses = grind (arith, word_or t w, x.falses, y.falses, map_combined is_false and_kleene (λ x y. x || y) false_and a b);
}

pub words-or : (a b : List (Option Bool)) (s t u w : ℕ) → AreWordsOf a s t → AreWordsOf b u w → AreWordsOf (combined_nullable or_kleene a b) (bit_or s u) (bit_and t w)
words-or a b s t u w x y = record {
  trues = grind (arith, word_or s u, x.trues, y.trues, map_combined is_true or_kleene (λ x y. x || y) true_or a b);
  falses = grind (arith, word_and t w, x.falses, y.falses, map_combined is_false or_kleene (λ x y. x && y) false_or a b);
}

valid-parts : (m : List (Option Bool)) → or_of (map is_true m) (map is_false m) ≡ is_valid_of m
valid-parts [] = refl
valid-parts (Some true ∷ m) = grind (arith, valid-parts m)
valid-parts (Some false ∷ m) = grind (arith, valid-parts m)
valid-parts (None ∷ m) = grind (arith, valid-parts m)

pub words-valid : (m : List (Option Bool)) (s t : ℕ) → AreWordsOf m s t → word_bits (bit_or s t) ≡ is_valid_of m
words-valid m s t x = grind (arith, word_or s t, x.trues, x.falses, valid-parts m)

-- ---- bits

length-nullable : (m v : List Bool) → length m ≡ length v → length (nullable m (Some v)) ≡ length m
length-nullable [] v len = refl
length-nullable (x ∷ m) [] len = absurd (omega arith)
length-nullable (x ∷ m) (y ∷ v) len = grind (arith, length-nullable m v)

get_or-nullable : (m v : List Bool) (i : ℕ) → i < length m → length m ≡ length v → get_or (nullable m (Some v)) i None ≡ nullable_value (get_or m i false) (get_or v i false)
get_or-nullable [] v i h len = absurd (omega arith)
get_or-nullable (x ∷ m) [] i h len = absurd (omega arith)
get_or-nullable (x ∷ m) (y ∷ v) zero h len = refl
get_or-nullable (x ∷ m) (y ∷ v) (suc i) h len = grind (arith, get_or-nullable m v i)

get_or-table : (h : Option Bool → Bool) (table : Option Bool → Option Bool → Option Bool) (a b : List (Option Bool)) (i : ℕ) → i < length a → length a ≡ length b
    → get_or (map h (combined_nullable table a b)) i false ≡ h (table (get_or a i None) (get_or b i None))
get_or-table h table [] b i below len = absurd (omega arith)
get_or-table h table (x ∷ a) [] i below len = absurd (omega arith)
get_or-table h table (x ∷ a) (y ∷ b) zero below len = refl
get_or-table h table (x ∷ a) (y ∷ b) (suc i) below len = grind (arith, get_or-table h table a b i)

length-table : (h : Option Bool → Bool) (table : Option Bool → Option Bool → Option Bool) (a b : List (Option Bool)) → length a ≡ length b → length (map h (combined_nullable table a b)) ≡ length a
length-table h table [] b len = refl
length-table h table (x ∷ a) [] len = absurd (omega arith)
length-table h table (x ∷ a) (y ∷ b) len = grind (arith, length-table h table a b)

-- value j of a word that was read
word_value : (a : NullableBits) (i j : ℕ) → j < 64 → get_or (word_values a i) j None ≡ value_at a (64 * i + j)
word_value a i j h =
    let v : List Bool = window a.validity.bytes.now (a.validity.low + 64 * i) in
    let long : length (or_of v (word_bits a.valid)) ≡ 64 = length-combined (λ x y. x || y) v (word_bits a.valid) (length-window a.validity.bytes.now (a.validity.low + 64 * i) ∙ sym (length-word_bits a.valid)) ∙ length-window a.validity.bytes.now (a.validity.low + 64 * i) in
    grind (arith, get_or-nullable (window a.values.bytes.now (a.values.low + 64 * i)) (or_of v (word_bits a.valid)) j, long, get_or-combined (λ x y. x || y) v (word_bits a.valid) j false, length-window, length-word_bits, get_or-window, get_or-word_bits)

length-word_values : (a : NullableBits) (i : ℕ) → length (word_values a i) ≡ 64
length-word_values a i =
    let v : List Bool = window a.validity.bytes.now (a.validity.low + 64 * i) in
    let long : length v ≡ 64 = length-window a.validity.bytes.now (a.validity.low + 64 * i) in
    length-nullable (window a.values.bytes.now (a.values.low + 64 * i)) (or_of v (word_bits a.valid)) (length-window a.values.bytes.now (a.values.low + 64 * i) ∙ sym (length-combined (λ x y. x || y) v (word_bits a.valid) (long ∙ sym (length-word_bits a.valid)) ∙ long))
    ∙ length-window a.values.bytes.now (a.values.low + 64 * i)

-- one more word
pub AreOfTable-step : (h : Option Bool → Bool) (table : Option Bool → Option Bool → Option Bool) (a b : NullableBits) (out new : List ℕ) (i : ℕ) (m : List Bool)
    → AreOfTable h table (value_at a) (value_at b) out (64 * i)
    → m ≡ map h (combined_nullable table (word_values a i) (word_values b i))
    → window new (64 * i) ≡ m
    → ((k : ℕ) → ((k < 64 * i) ⊎ (64 * i + 64 ≤ k)) → backing_bit new k ≡ backing_bit out k)
    → AreOfTable h table (value_at a) (value_at b) new (64 * (i + 1))
AreOfTable-step h table a b out new i m before is wrote others =
    let x : List (Option Bool) = word_values a i in
    let y : List (Option Bool) = word_values b i in
    bits-more (λ k. h (table (value_at a k) (value_at b k))) out new i before others (λ j few.
    ap (λ (xs : List Bool). get_or xs j false) (wrote ∙ is)
    ∙ get_or-table h table x y j (omega (arith, length-word_values a i)) (length-word_values a i ∙ sym (length-word_values b i))
    ∙ ap₂ (λ (s t : Option Bool). h (table s t)) (word_value a i j few) (word_value b i j few))

-- ---- lists

length-parts : (values : List ℕ) (p : ℕ) (validity : Option (Bor (List ℕ) × ℕ)) (n : ℕ) → length (nullable (bitmap values p n) (option_map (λ v. bitmap v.0.now v.1 n) validity)) ≡ n
length-parts values p None n = length-map (bitmap values p n) Some ∙ length-bitmap values p n
length-parts values p (Some v) n = length-nullable (bitmap values p n) (bitmap v.0.now v.1 n) (length-bitmap values p n ∙ sym (length-bitmap v.0.now v.1 n)) ∙ length-bitmap values p n

length-nullable_bitmap : (a : NullableBitmap) (n : ℕ) → length (nullable_bitmap a n) ≡ n
length-nullable_bitmap a n = length-parts a.values.0.now a.values.1 a.validity n

-- bits that the table gives are the list that it gives
pub table-list : (h : Option Bool → Bool) (table : Option Bool → Option Bool → Option Bool) (f g : ℕ → Option Bool) (a b : NullableBitmap) (out : List ℕ) (n len : ℕ)
    → AreOfTable h table f g out n → len ≤ n
    → ((k : ℕ) → k < len → get_or (nullable_bitmap a len) k None ≡ f k)
    → ((k : ℕ) → k < len → get_or (nullable_bitmap b len) k None ≡ g k)
    → bitmap out 0 len ≡ map h (combined_nullable table (nullable_bitmap a len) (nullable_bitmap b len))
table-list h table f g a b out n len are enough is_a is_b =
    let x : List (Option Bool) = nullable_bitmap a len in
    let y : List (Option Bool) = nullable_bitmap b len in
    let long_x : length x ≡ len = length-nullable_bitmap a len in
    let same : length x ≡ length y = long_x ∙ sym (length-nullable_bitmap b len) in
    let long_xy : length (map h (combined_nullable table x y)) ≡ len = length-table h table x y same ∙ long_x in
    values_from_front out (map h (combined_nullable table x y)) len long_xy (λ i below.
    are i (omega arith) ∙ ap₂ (λ (s t : Option Bool). h (table s t)) (sym (is_a i below)) (sym (is_b i below)) ∙ sym (get_or-table h table x y i (omega (arith, long_x)) same))

-- value k of bits from those bytes on that have the first bits
value_with : (a : NullableBits) (values : List ℕ) (p : ℕ) (valid : Bool) (k : ℕ) → a.values.bytes.now ≡ drop (p / 8) values → a.values.low ≡ p % 8
    → (backing_bit a.validity.bytes.now (a.validity.low + k) || nat_eq (bit_at a.valid (k % 64)) 1) ≡ valid
    → value_at a k ≡ nullable_value (backing_bit values (p + k)) valid
value_with a values p valid k is_values is_low is_valid = grind (arith, is_values, is_low, is_valid, backing_bit-drop values p k)

pub values_present : (a : NullableBits) (list : NullableBitmap) (v : Bor (List ℕ) × ℕ) (n k : ℕ) → list.validity ≡ Some v
    → a.values.bytes.now ≡ drop (list.values.1 / 8) list.values.0.now → a.values.low ≡ list.values.1 % 8
    → a.validity.bytes.now ≡ drop (v.1 / 8) v.0.now → a.validity.low ≡ v.1 % 8 → a.valid ≡ 0 → k < n
    → get_or (nullable_bitmap list n) k None ≡ value_at a k
values_present a list v n k is values low validity validity_low none below =
    let x : List Bool = bitmap list.values.0.now list.values.1 n in
    let y : List Bool = bitmap v.0.now v.1 n in
    let long_x : length x ≡ n = length-bitmap list.values.0.now list.values.1 n in
    let long_y : length y ≡ n = length-bitmap v.0.now v.1 n in
    let bit : (backing_bit a.validity.bytes.now (a.validity.low + k) || nat_eq (bit_at a.valid (k % 64)) 1) ≡ backing_bit v.0.now (v.1 + k)
    = grind (arith, validity, validity_low, none, bit_at-zero (k % 64), backing_bit-drop v.0.now v.1 k) in
    rw is (get_or-nullable x y k (omega (arith, long_x)) (long_x ∙ sym long_y)
    ∙ ap₂ nullable_value (get_or-bitmap list.values.0.now list.values.1 n k false below) (get_or-bitmap v.0.now v.1 n k false below)
    ∙ sym (value_with a list.values.0.now list.values.1 _ k values low bit))

pub values_absent : (a : NullableBits) (list : NullableBitmap) (n k : ℕ) → list.validity ≡ None
    → a.values.bytes.now ≡ drop (list.values.1 / 8) list.values.0.now → a.values.low ≡ list.values.1 % 8 → a.valid ≡ 2 ^ 64 - 1 → k < n
    → get_or (nullable_bitmap list n) k None ≡ value_at a k
values_absent a list n k is values low all below =
    let x : List Bool = bitmap list.values.0.now list.values.1 n in
    let long_x : length x ≡ n = length-bitmap list.values.0.now list.values.1 n in
    let bit : (backing_bit a.validity.bytes.now (a.validity.low + k) || nat_eq (bit_at a.valid (k % 64)) 1) ≡ true
    = grind (arith, all, bit_at_ones 64 (k % 64)) in
    rw is (get_or-map Some x k false None (omega (arith, long_x))
    ∙ ap Some (get_or-bitmap list.values.0.now list.values.1 n k false below)
    ∙ sym (value_with a list.values.0.now list.values.1 true k values low bit))

-- fewer are within the bytes
pub within-first : (a : NullableBits) (n m : ℕ) → AreWithinBytes a n → m ≤ n → AreWithinBytes a m
within-first a n m within few = record {
  values_within = record { covered = omega (arith, within.values_within.covered); fits = omega (arith, within.values_within.fits) };
  validity_within = record { covered = omega (arith, within.validity_within.covered); fits = omega (arith, within.validity_within.fits) };
  values_few = within.values_few;
  validity_few = within.validity_few;
}

-- ---- parts of lists

nullable-append : (m n : List Bool) (v w : List Bool) → length m ≡ length v → nullable (m ++ n) (Some (v ++ w)) ≡ nullable m (Some v) ++ nullable n (Some w)
nullable-append [] n [] w len = refl
nullable-append [] n (y ∷ v) w len = absurd (omega arith)
nullable-append (x ∷ m) n [] w len = absurd (omega arith)
nullable-append (x ∷ m) n (y ∷ v) w len = ap (λ (xs : List (Option Bool)). nullable_value x y ∷ xs) (nullable-append m n v w (omega arith))

-- the values behind some others
parts-present : (values validity : List ℕ) (p q s n : ℕ)
    → nullable (bitmap values p (s + n)) (Some (bitmap validity q (s + n))) ≡ nullable (bitmap values p s) (Some (bitmap validity q s)) ++ nullable (bitmap values (p + s) n) (Some (bitmap validity (q + s) n))
parts-present values validity p q s n =
    rw (bitmap-append values p s n, bitmap-append validity q s n) (nullable-append (bitmap values p s) (bitmap values (p + s) n) (bitmap validity q s) (bitmap validity (q + s) n) (length-bitmap values p s ∙ sym (length-bitmap validity q s)))

parts-absent : (values : List ℕ) (p s n : ℕ) → nullable (bitmap values p (s + n)) None ≡ nullable (bitmap values p s) None ++ nullable (bitmap values (p + s) n) None
parts-absent values p s n = rw (bitmap-append values p s n) (map-append Some (bitmap values p s) (bitmap values (p + s) n))

pub parts-of-present : (a : NullableBitmap) (v : Bor (List ℕ) × ℕ) (s n : ℕ) → a.validity ≡ Some v
    → nullable_bitmap a (s + n) ≡ nullable_bitmap a s ++ nullable (bitmap a.values.0.now (a.values.1 + s) n) (Some (bitmap v.0.now (v.1 + s) n))
parts-of-present a v s n is = rw is (parts-present a.values.0.now v.0.now a.values.1 v.1 s n)

pub parts-of-absent : (a : NullableBitmap) (s n : ℕ) → a.validity ≡ None
    → nullable_bitmap a (s + n) ≡ nullable_bitmap a s ++ nullable (bitmap a.values.0.now (a.values.1 + s) n) None
parts-of-absent a s n is = rw is (parts-absent a.values.0.now a.values.1 s n)

-- a word without a validity
valid-itself : (m v : List Bool) → length m ≡ length v → ((i : ℕ) → i < length v → get_or v i false ≡ true) → nullable m (Some v) ≡ nullable m None
valid-itself [] v len all = refl
valid-itself (x ∷ m) [] len all = absurd (omega arith)
valid-itself (x ∷ m) (y ∷ v) len all =
    ap₂ (λ (h : Option Bool) (t : List (Option Bool)). h ∷ t) (ap (nullable_value x) (all 0 (omega arith))) (valid-itself m v (omega arith) (λ i below. all (suc i) (omega arith)))

pub word-absent : (a : NullableBitmap) (w t f : ℕ) → a.validity ≡ None → word_bits w ≡ window a.values.0.now a.values.1
    → AreWordsOf (nullable (word_bits w) (Some (word_bits (2 ^ 64 - 1)))) t f → AreWordsOf (nullable_window a) t f
word-absent a w t f none is words =
    let all : (i : ℕ) → i < length (word_bits (2 ^ 64 - 1)) → get_or (word_bits (2 ^ 64 - 1)) i false ≡ true
    = λ i below. grind (arith, get_or-word_bits, length-word_bits, bit_at_ones 64 i) in
    rw none (subst (λ (m : List (Option Bool)). AreWordsOf m t f) (valid-itself (word_bits w) (word_bits (2 ^ 64 - 1)) (length-word_bits w ∙ sym (length-word_bits (2 ^ 64 - 1))) all ∙ ap (λ (m : List Bool). nullable m None) is) words)

-- a word that was read, valid where some bits are set too
pub word-with : (a : NullableBits) (i m v t f : ℕ) → word_bits m ≡ window a.values.bytes.now (a.values.low + 64 * i) → word_bits v ≡ window a.validity.bytes.now (a.validity.low + 64 * i)
    → AreWordsOf (nullable (word_bits m) (Some (word_bits (bit_or v a.valid)))) t f → AreWordsOf (word_values a i) t f
word-with a i m v t f is_m is_v words =
    subst (λ (x : List (Option Bool)). AreWordsOf x t f) (ap₂ (λ (x y : List Bool). nullable x (Some y)) is_m (word_or v a.valid ∙ ap (λ (x : List Bool). or_of x (word_bits a.valid)) is_v)) words

-- the first values of words are those of bits from there on
take-nullable : (k : ℕ) (m v : List Bool) → take k (nullable m (Some v)) ≡ nullable (take k m) (Some (take k v))
take-nullable zero m v = refl
take-nullable (suc k) [] v = refl
take-nullable (suc k) (x ∷ m) [] = refl
take-nullable (suc k) (x ∷ m) (y ∷ v) = ap (λ (xs : List (Option Bool)). nullable_value x y ∷ xs) (take-nullable k m v)

take-somes : (k : ℕ) (m : List Bool) → take k (nullable m None) ≡ nullable (take k m) None
take-somes zero m = refl
take-somes (suc k) [] = refl
take-somes (suc k) (x ∷ m) = ap (λ (xs : List (Option Bool)). Some x ∷ xs) (take-somes k m)

take-table : (h : Option Bool → Bool) (table : Option Bool → Option Bool → Option Bool) (k : ℕ) (a b : List (Option Bool)) → take k (map h (combined_nullable table a b)) ≡ map h (combined_nullable table (take k a) (take k b))
take-table h table zero a b = refl
take-table h table (suc k) [] b = refl
take-table h table (suc k) (x ∷ a) [] = refl
take-table h table (suc k) (x ∷ a) (y ∷ b) = ap (λ (xs : List Bool). h (table x y) ∷ xs) (take-table h table k a b)

take-parts : (values : List ℕ) (p : ℕ) (validity : Option (Bor (List ℕ) × ℕ)) (k : ℕ) → k ≤ 64
    → take k (nullable (window values p) (option_map (λ v. window v.0.now v.1) validity)) ≡ nullable (bitmap values p k) (option_map (λ v. bitmap v.0.now v.1 k) validity)
take-parts values p None k few = take-somes k (window values p) ∙ ap (λ (x : List Bool). nullable x None) (window-take values p k few)
take-parts values p (Some v) k few = take-nullable k (window values p) (window v.0.now v.1) ∙ ap₂ (λ (x y : List Bool). nullable x (Some y)) (window-take values p k few) (window-take v.0.now v.1 k few)

take-window : (a : NullableBitmap) (k : ℕ) → k ≤ 64 → take k (nullable_window a) ≡ nullable_bitmap a k
take-window a k few = take-parts a.values.0.now a.values.1 a.validity k few

pub first-values : (h : Option Bool → Bool) (table : Option Bool → Option Bool → Option Bool) (a b : NullableBitmap) (k : ℕ) (m : List Bool) → k ≤ 64 → m ≡ map h (combined_nullable table (nullable_window a) (nullable_window b))
    → take k m ≡ map h (combined_nullable table (nullable_bitmap a k) (nullable_bitmap b k))
first-values h table a b k m few is =
    ap (take k) is ∙ take-table h table k (nullable_window a) (nullable_window b) ∙ ap₂ (λ (x y : List (Option Bool)). map h (combined_nullable table x y)) (take-window a k few) (take-window b k few)

pub ruleset nullable_words = (words-new, words-and, words-or, words-valid)
