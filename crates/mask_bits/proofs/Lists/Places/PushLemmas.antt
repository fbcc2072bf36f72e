-- What a word's bits yield, put into room without a test of whether one is left.
use Rattle.mask_bits.proofs.Common.{◌≡◌, ℕ, Bool, ◌+◌, ◌-◌, ◌%◌, ◌^◌, ◌<◌, ◌≤◌, List, [], ◌∷◌, ◌++◌, Option, Some, None, suc, length, take, map, slice_get, true, nat_eq, false, refl, sym, ap, nat_lt, if◌then◌else◌, count_ones, ◌∙◌, inl, inr, arith, append-nil, append_assoc, add-zero, cons_option, filter_map, IsSome, cases_lt, nat_tests, take-append-le, All-head, All-tail, All-weaker, chosen, indices_from, positions, count, repeated, ArePushed, items_of, word_bits, get_or_from_slice_get, slice_get_cases, bit_and, All, length-take, length-take-le}
use lib.Seq.{take-append_seam}
use Rattle.mask_bits.proofs.Lists.ChooseLemmas.{chosen-all_true, chosen-of_front, chosen_at_positions}
use Rattle.mask_bits.proofs.Lists.CountLemmas.{count-repeated_true, length-repeated, slice_get-repeated}
use Rattle.mask_bits.proofs.Lists.Places.SelectLemmas.{positions-lowest, indices-of_none}
use Rattle.mask_bits.proofs.Lists.Places.PlaceLemmas.{length-indices_from-trues, positions-within, count-le-length}
use Rattle.mask_bits.proofs.Lists.Words.LowestLemmas.{low, ones-of_full, ones-set}
use Rattle.mask_bits.proofs.Lists.Words.WordLemmas.{count-word_bits, length-word_bits, word_bits_from_bits}

-- ---- what a word yields

-- the places of a word are among 64
pub places-within : (w n : ℕ) → 64 ≤ n → All (λ p. p < n) (positions (word_bits w))
places-within w n enough = All-weaker (λ p. p < length (word_bits w)) (λ p. p < n) (λ p h. omega (arith, length-word_bits w)) (positions (word_bits w)) (positions-within (word_bits w))

-- the item of its lowest bit comes first
pub items_of-lowest : {X : Type 0} (at : ℕ → Option X) (w : ℕ) (x : X) → 0 < w → w < 2 ^ 64 → at (low w) ≡ Some x → items_of at (word_bits w) ≡ x ∷ items_of at (word_bits (bit_and w (w - 1)))
items_of-lowest at w x some fits is =
    let rest : List ℕ = positions (word_bits (bit_and w (w - 1))) in
    ap (filter_map at) (positions-lowest w some fits) ∙ ap (λ o. cons_option o (filter_map at rest)) is

-- a word without bits has no places, and yields nothing
pub no_places : (w : ℕ) → w ≡ 0 → positions (word_bits w) ≡ []
no_places w none = ap (λ n. positions (word_bits n)) none ∙ indices-of_none 0

pub items_of-zero : {X : Type 0} (at : ℕ → Option X) (w : ℕ) → w ≡ 0 → items_of at (word_bits w) ≡ []
items_of-zero at w none = ap (filter_map at) (no_places w none)

length-cons_option : {X : Type 0} (o : Option X) (xs : List X) → IsSome o → length (cons_option o xs) ≡ suc (length xs)
length-cons_option (Some x) xs h = refl
length-cons_option None xs h = cc

-- one item for each place that has one
length-filter_map : {X : Type 0} (at : ℕ → Option X) (ps : List ℕ) → All (λ p. IsSome (at p)) ps → length (filter_map at ps) ≡ length ps
length-filter_map at [] each = refl
length-filter_map at (p ∷ ps) each = grind (arith, length-cons_option, All-head, All-tail, length-filter_map at ps (All-tail (λ q. IsSome (at q)) p ps each))

-- so many for a word of whose places each has one
pub length-items_of_word : {X : Type 0} (at : ℕ → Option X) (w : ℕ) → w < 2 ^ 64 → ((p : ℕ) → p ≤ 64 → IsSome (at p)) → length (items_of at (word_bits w)) ≡ count_ones w
length-items_of_word at w fits each = grind (arith, length-filter_map, All-weaker, length-word_bits, positions-within, count-word_bits)

-- ---- the lowest bit

-- a word without its lowest bit
abbrev pub cleared : ℕ → ℕ
cleared w = bit_and w ((w + (2 ^ 64 - 1)) % 2 ^ 64)

pub cleared-some : (w : ℕ) → 0 < w → w < 2 ^ 64 → cleared w ≡ bit_and w (w - 1)
cleared-some w some fits = grind arith

-- its item, and those of the other bits
pub items_of-next : {X : Type 0} (at : ℕ → Option X) (w : ℕ) (x : X) → w < 2 ^ 64 → at (low w) ≡ Some x → 0 < w → items_of at (word_bits w) ≡ x ∷ items_of at (word_bits (cleared w))
items_of-next at w x fits is some = items_of-lowest at w x some fits is ∙ ap (λ v. x ∷ items_of at (word_bits v)) (sym (cleared-some w some fits))

-- ---- the first of what is left, which is nothing where n is 0, or another item then

pub ArePushed-more : {X : Type 0} (n : ℕ) (all items rest left : List X) (x : X) → (0 < n → rest ≡ x ∷ left) → (n ≡ 0 → rest ≡ []) → (n ≡ 0 → left ≡ []) → ArePushed all items rest → ArePushed all (items ++ x ∷ []) left
ArePushed-more {X} n all items rest left x first none still so_far = elim (cases_lt 0 n) [
  | inl some ↦ record { others = so_far.others; list = append_assoc items (x ∷ []) left ∙ ap (λ (xs : List X). items ++ xs) (sym (first some)) ∙ so_far.list }
  | inr zero ↦
      let over : items ≡ all ++ so_far.others = sym (append-nil items) ∙ ap (λ (xs : List X). items ++ xs) (sym (none (omega arith))) ∙ so_far.list in record {
        others = so_far.others ++ x ∷ [];
        list = ap (λ (xs : List X). (items ++ x ∷ []) ++ xs) (still (omega arith)) ∙ append-nil (items ++ x ∷ []) ∙ ap (λ (xs : List X). xs ++ x ∷ []) over ∙ append_assoc all so_far.others (x ∷ []);
      }
]

-- none is yet
pub ArePushed-none : {X : Type 0} (items rest : List X) → ArePushed (items ++ rest) items rest
ArePushed-none items rest = record { others = []; list = sym (append-nil (items ++ rest)) }

-- as many of the items as all are
pub ArePushed-all : {X : Type 0} (all items rest : List X) → length all ≤ length items → ArePushed all items rest → take (length all) items ≡ all
ArePushed-all all items rest enough so_far = sym (take-append-le (length all) items rest enough) ∙ ap (take (length all)) so_far.list ∙ take-append_seam all so_far.others

-- ---- indices

-- as many indices as true values
pub length-indices : (n : ℕ) (m : List Bool) → length (indices_from n m) ≡ count m
length-indices n m = length-indices_from-trues n m ∙ sym (length-indices_from-trues 0 m)

pub length-indices_of_word : (base w : ℕ) → w < 2 ^ 64 → length (indices_from base (word_bits w)) ≡ count_ones w
length-indices_of_word base w fits = length-indices base (word_bits w) ∙ count-word_bits w fits

-- the index of a place
abbrev index_at : {X : Type 0} → (ℕ → X) → ℕ → ℕ → Option X
index_at of base p = if nat_lt (base + p) (2 ^ 64) then Some (of (base + p)) else None

index-some : {X : Type 0} (of : ℕ → X) (base p : ℕ) → base + p < 2 ^ 64 → IsSome (index_at of base p)
index-some of base p fits = grind (arith, nat_tests)

pub indices-some : {X : Type 0} (of : ℕ → X) (base w : ℕ) → base + 63 < 2 ^ 64 → All (λ p. IsSome (index_at of base p)) (positions (word_bits w))
indices-some of base w fits = All-weaker (λ p. p < 64) (λ p. IsSome (index_at of base p)) (λ p h. index-some of base p (omega arith)) (positions (word_bits w)) (places-within w 64 (omega arith))

indices_of : {X : Type 0} (of : ℕ → X) (base n : ℕ) (m : List Bool) → base + n + length m ≤ 2 ^ 64 → filter_map (index_at of base) (indices_from n m) ≡ map of (indices_from (base + n) m)
indices_of of base n [] fits = refl
indices_of of base n (v ∷ m) fits = grind (arith, nat_tests, indices_of of base (n + 1) m)

pub items_of-indices : {X : Type 0} (of : ℕ → X) (base w : ℕ) → base + 63 < 2 ^ 64 → items_of (index_at of base) (word_bits w) ≡ map of (indices_from base (word_bits w))
items_of-indices of base w fits = indices_of of base 0 (word_bits w) (omega (arith, length-word_bits w)) ∙ ap (λ n. map of (indices_from n (word_bits w))) (add-zero base)

-- ---- rows

-- all bits of a full word are set
pub full_word : (w : ℕ) → w < 2 ^ 64 → w ≡ 2 ^ 64 - 1 → word_bits w ≡ repeated 64 true
full_word w fits full =
    word_bits_from_bits w (repeated 64 true) (length-repeated 64 true) (λ j h.
    ap (λ b. nat_eq b 1) (ones-set w j fits (omega (arith, ones-of_full w full)))
    ∙ sym (get_or_from_slice_get (repeated 64 true) j true false (slice_get-repeated 64 true j (omega (arith, length-repeated 64 true)))))

count_of_full : (w : ℕ) → w < 2 ^ 64 → w ≡ 2 ^ 64 - 1 → count (word_bits w) ≡ 64
count_of_full w fits full = ap count (full_word w fits full) ∙ count-repeated_true 64

-- so that all of its rows are chosen
pub chosen_by_full : {X : Type 0} (rows : List X) (w : ℕ) → 64 ≤ length rows → w < 2 ^ 64 → w ≡ 2 ^ 64 - 1 → chosen rows (word_bits w) ≡ take 64 rows
chosen_by_full rows w enough fits full =
    sym (chosen-of_front rows (word_bits w) 64 (omega (arith, length-word_bits w))) ∙ ap (chosen (take 64 rows)) (full_word w fits full) ∙ chosen-all_true (take 64 rows) 64 (length-take-le 64 rows enough)

-- which are as many as it has bits
pub rows_of_full : {X : Type 0} (rows : List X) (w : ℕ) → 64 ≤ length rows → w < 2 ^ 64 → w ≡ 2 ^ 64 - 1 → length (take 64 rows) ≡ count (word_bits w)
rows_of_full rows w enough fits full = length-take-le 64 rows enough ∙ sym (count_of_full w fits full)

-- where each place yields its row
pub row-some : {X : Type 0} (rows : List X) (p : ℕ) → p < length rows → IsSome (slice_get rows p)
row-some rows p inside = grind (arith, slice_get_cases)

pub items_of-rows : {X : Type 0} (rows : List X) (w : ℕ) → items_of (λ p. slice_get rows p) (word_bits w) ≡ chosen rows (word_bits w)
items_of-rows rows w = sym (chosen_at_positions rows (word_bits w))

pub ruleset rows_of_words = (rows_of_full, places-within, row-some, chosen_by_full, count-le-length, length-word_bits)

pub ruleset items_of_words = (items_of-zero, append-nil, length-take)
