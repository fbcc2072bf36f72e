-- Lists of bitmaps: their values and parts, and the words that show them.
use Rattle.mask_bits.specs.Lists.{not_of, or_of}
use Rattle.mask_c.proofs.Common.{◌≡◌, ◌↔◌, ℕ, ◌+◌, ◌-◌, ◌<◌, ◌≤◌, ◌&&◌, ◌||◌, not, Bool, true, false, List, [], ◌∷◌, length, get_or, slice_range, slice_get, Some, refl, sym, ap, ◌∙◌, add_assoc, inl, inr, arith, IsTrue, cases_lt, false≢true, ext_get_or, length-between, get_or-between, slice_get-get_or, bitmap, backing_bit, and_not_of, combined, count, count_below, repeated, IsSubset, length-bitmap, get_or-bitmap, get_or-combined, length-combined, all_false_from_count, count-repeated_false, get_or-repeated, length-repeated, count-part_further}

-- value i is the backing bit at offset + i
pub slice_get-bitmap : (bytes : List ℕ) (offset len i : ℕ) → i < len → slice_get (bitmap bytes offset len) i ≡ Some (backing_bit bytes (offset + i))
slice_get-bitmap bytes offset len i h = grind (arith, slice_get-get_or (bitmap bytes offset len) i false, length-bitmap, get_or-bitmap)

-- a part of a bitmap is the bitmap from the part's first bit on
pub bitmap-part : (bytes : List ℕ) (offset len s e : ℕ) → s ≤ e → e ≤ len → bitmap bytes (offset + s) (e - s) ≡ slice_range (bitmap bytes offset len) s e
bitmap-part bytes offset len s e ordered within =
    let fits : e ≤ length (bitmap bytes offset len) = omega (arith, length-bitmap bytes offset len) in
    ext_get_or false (bitmap bytes (offset + s) (e - s)) (slice_range (bitmap bytes offset len) s e) (length-bitmap bytes (offset + s) (e - s) ∙ sym (length-between (bitmap bytes offset len) s e fits)) (λ i h.
    grind (arith, get_or-bitmap, get_or-between, add_assoc offset s i, length-bitmap))

-- the true values below an index, and those from there to the next one
pub count-runs_on : (bytes : List ℕ) (offset len i j n k : ℕ) → i ≤ j → j ≤ len → n ≡ count_below (bitmap bytes offset len) i
    → k ≡ count (bitmap bytes (offset + i) (j - i)) → n + k ≡ count_below (bitmap bytes offset len) j
count-runs_on bytes offset len i j n k ordered within before between = grind (arith, bitmap-part, count-part_further)

-- the first of two lists of one length
pub first_of : (a b : List Bool) → length a ≡ length b → a ≡ combined (λ x y. x) a b
first_of [] b len = refl
first_of (v ∷ a) [] len = absurd (omega arith)
first_of (v ∷ a) (w ∷ b) len = ap (λ (xs : List Bool). v ∷ xs) (first_of a b (omega arith))

-- the first of a list and itself is that list
pub first_of_itself : (a : List Bool) → combined (λ x y. x) a a ≡ a
first_of_itself a = sym (first_of a a refl)

-- true in the first or false in the second
pub or_of_not : (a b : List Bool) → combined (λ x y. x || not y) a b ≡ or_of a (not_of b)
or_of_not [] b = refl
or_of_not (v ∷ a) [] = refl
or_of_not (v ∷ a) (w ∷ b) = ap (λ (xs : List Bool). (v || not w) ∷ xs) (or_of_not a b)

-- ---- two lists

-- no value of a is true that b hasn't
pub subset_from_none : (a b : List Bool) (n : ℕ) → length a ≡ n → length b ≡ n → (and_not_of a b ≡ repeated n false) ↔ IsSubset a b
subset_from_none a b n len len_b =
    let value : (i : ℕ) → i < n → get_or (and_not_of a b) i false ≡ (get_or a i false && not (get_or b i false))
    = λ i h. get_or-combined (λ x y. x && not y) a b i false (omega arith) (len ∙ sym len_b) in (
      λ none i h holds. grind (arith, value i, ap (λ (m : List Bool). get_or m i false) none, get_or-repeated n i false false),
      λ subset. ext_get_or false (and_not_of a b) (repeated n false) (length-combined (λ x y. x && not y) a b (len ∙ sym len_b) ∙ len ∙ sym (length-repeated n false)) (λ i h.
          let few : i < n = omega (arith, length-combined (λ x y. x && not y) a b (len ∙ sym len_b)) in
          grind (arith, value i few, subset i, get_or-repeated n i false false)),
    )

-- where it isn't so that no value is true, some are
pub some_from_none : (r : Bool) (m : List Bool) (n : ℕ) → length m ≡ n → (IsTrue r ↔ (m ≡ repeated n false)) → IsTrue (not r) ↔ (0 < count m)
some_from_none true m n len none = (λ h. absurd (false≢true h), λ some. absurd (omega (arith, ap count (none.0 refl), count-repeated_false n)))
some_from_none false m n len none = (
  λ h. elim (cases_lt 0 (count m)) [
    | inl some ↦ some
    | inr few ↦ absurd (false≢true (none.1 (all_false_from_count 0 m (omega arith) ∙ ap (λ k. repeated k false) len)))
  ],
  λ some. refl,
)
