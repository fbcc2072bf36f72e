-- The place of set bit number n of a word, sought in one half after another.
use Rattle.mask_bits.proofs.Common.{◌≡◌, ℕ, ◌+◌, ◌*◌, ◌-◌, ◌/◌, ◌%◌, ◌^◌, ◌<◌, ◌≤◌, Bool, true, false, List, ◌∷◌, ◌++◌, length, get_or, take, drop, Some, slice_get, refl, sym, ap, ◌∙◌, arith, add-zero, bit_and, bit_at, count_ones, nat_tests, take-append-drop, drop_more, get_or_from_slice_get, slice_get_within, length-take, and_mask, mod-lt, mod-pow-add, one_shl, ones_cat, pow_pos, indices_from, positions, count_below, word_bits, IsPlaceOf}
use Rattle.mask_bits.specs.Laws.Indices.{PositionOfCountBelow}
use Rattle.std.proofs.Math.Pow.{mod-mod-pow}
use Rattle.mask_bits.proofs.Lists.Places.SelectLemmas.{indices_from-append, slice_get-right}
use Rattle.mask_bits.proofs.Lists.Words.ShiftLemmas.{bit_at-shr, bit_at-mod}
use Rattle.mask_bits.proofs.Lists.Words.WordLemmas.{count_below-word_bits, get_or-word_bits, length-word_bits}

-- a true value has as its number how many are true before it
pub place-number : (m : List Bool) (p : ℕ) → p < length m → get_or m p false ≡ true → slice_get (positions m) (count_below m p) ≡ Some p
place-number m p within holds =
    let front : List ℕ = positions (take p m) in
    let rest : List ℕ = indices_from (p + 1) (drop (p + 1) m) in
    let all : positions m ≡ front ++ p ∷ rest
    = grind (arith, take-append-drop p m, drop_more m p false within, length-take p m, indices_from-append 0 (take p m) (drop p m)) in
    ap (λ (ps : List ℕ). slice_get ps (length front)) all ∙ slice_get-right front (p ∷ rest) (length front) 0 (sym (add-zero (length front)))

pub position_of_count_below : PositionOfCountBelow
position_of_count_below m i is = place-number m i (slice_get_within m i true is) (get_or_from_slice_get m i true false is)

pub index_of_place : (w n p : ℕ) → p < 64 → IsPlaceOf w n p → slice_get (positions (word_bits w)) n ≡ Some p
index_of_place w n p few is =
    let holds : get_or (word_bits w) p false ≡ true = grind (arith, get_or-word_bits w p false few, is.set, nat_tests) in
    ap (λ k. slice_get (positions (word_bits w)) k) (sym is.number) ∙ place-number (word_bits w) p (omega (arith, length-word_bits w)) holds

-- how many of the lowest bits are set, and of those and some more
pub count_below-masked : (w h : ℕ) → h < 64 → count_ones (bit_and w (1 * 2 ^ h % 2 ^ 64 - 1)) ≡ count_below (word_bits w) h
count_below-masked w h few = ap (λ mask. count_ones (bit_and w (mask - 1))) (one_shl h 64 few) ∙ ap count_ones (and_mask w h) ∙ sym (count_below-word_bits w h (omega arith))

pub count_below-shifted : (w h p n : ℕ) → n ≡ h + p → n ≤ 64 → count_below (word_bits w) n ≡ count_below (word_bits w) h + count_below (word_bits (w / 2 ^ h)) p
count_below-shifted w h p n sum few =
    grind (arith, count_below-word_bits, mod-pow-add w p h, ones_cat h (w / 2 ^ h % 2 ^ p) (w % 2 ^ h), mod-lt w (pow_pos h))

-- a place among the lowest bits
pub place_in_lowest : (w n p : ℕ) → p < 8 → bit_at (bit_and w 255) p ≡ 1 → count_below (word_bits (bit_and w 255)) p ≡ n → IsPlaceOf w n p
place_in_lowest w n p few holds number =
    let cut : bit_and w 255 ≡ w % 2 ^ 8 = and_mask w 8 in
    let rest : 8 ≡ (8 - p) + p = omega arith in
    let shorter : w % 2 ^ 8 % 2 ^ p ≡ w % 2 ^ p = ap (λ k. w % 2 ^ k % 2 ^ p) rest ∙ mod-mod-pow w (8 - p) p in
    record {
      set = sym (bit_at-mod w 8 p few) ∙ sym (ap (λ v. bit_at v p) cut) ∙ holds;
      number = count_below-word_bits w p (omega arith) ∙ ap count_ones (sym shorter) ∙ ap (λ v. count_ones (v % 2 ^ p)) (sym cut) ∙ sym (count_below-word_bits (bit_and w 255) p (omega arith)) ∙ number;
    }

-- a place in the upper half
pub place_in_upper : (w n h p : ℕ) → h + p ≤ 64 → IsPlaceOf (w / 2 ^ h) (n - count_below (word_bits w) h) p → count_below (word_bits w) h ≤ n → IsPlaceOf w n (h + p)
place_in_upper w n h p few is past = record {
  set = sym (bit_at-shr w h p) ∙ is.set;
  number = omega (arith, count_below-shifted w h p (h + p) refl few, is.number);
}
