-- Where true value number n of a list stands, found by the counts of its started words; and its last true value.
use Rattle.mask_bits.proofs.Common.{◌≡◌, ℕ, suc, ◌+◌, ◌*◌, ◌-◌, ◌^◌, ◌<◌, ◌≤◌, Bool, true, false, List, [], ◌∷◌, ◌++◌, length, get_or, take, drop, map, Some, None, slice_get, slice_range, refl, sym, ap, ◌∙◌, arith, append-nil, add-zero, drop-drop, option_map, bit_and, take-add, bit_at, leading_zeros, take-append-drop, drop_more, length-append, length-map, get_or-drop, get_or-take, get_or_past, cases_lt, leading_top, ones-le, bit_at_above, bit_at-zero, slice_get-get_or, slice_get_past, slice_get-map, indices_from, positions, count, repeated, word_bits, padded_part, w64, take_all, length-drop, length-take}
use Rattle.mask_bits.proofs.Lists.CountLemmas.{count-append, count-repeated_false, indices_from-repeated_false, length-repeated, get_or-padded}
use Rattle.mask_bits.proofs.Lists.Words.LowestLemmas.{low, low-within, low-set, low-first, bit_at-lowest_cleared, bit_at-lowest_others}
use Rattle.mask_bits.proofs.Lists.Words.PaddedLemmas.{padded_part_from_values}
use Rattle.mask_bits.proofs.Lists.Words.WalkLemmas.{places-step, bit-padded}
use Rattle.mask_bits.proofs.Lists.Words.WordLemmas.{length-word_bits, get_or-word_bits, count-word_bits}

-- ---- places of lists one after the other

pub indices_from-append : (n : ℕ) (a b : List Bool) → indices_from n (a ++ b) ≡ indices_from n a ++ indices_from (n + length a) b
indices_from-append n [] b = ap (λ k. indices_from k b) (sym (add-zero n))
indices_from-append n (v ∷ a) b = grind (arith, indices_from-append (n + 1) a)

-- the places of a list that stands k further on
pub indices_from-moved : (k n : ℕ) (m : List Bool) → indices_from (k + n) m ≡ map (λ p. k + p) (indices_from n m)
indices_from-moved k n [] = refl
indices_from-moved k n (v ∷ m) = grind (arith, indices_from-moved k (n + 1) m)

-- an entry of the first list, and of the second
slice_get-left : (xs ys : List ℕ) (i : ℕ) → i < length xs → slice_get (xs ++ ys) i ≡ slice_get xs i
slice_get-left [] ys i h = absurd (omega arith)
slice_get-left (v ∷ xs) ys i h = grind (arith, slice_get-left xs)

pub slice_get-right : (xs ys : List ℕ) (i j : ℕ) → i ≡ length xs + j → slice_get (xs ++ ys) i ≡ slice_get ys j
slice_get-right [] ys i j e = let same : i ≡ j = omega arith in ap (slice_get ys) same
slice_get-right (v ∷ xs) ys i j e = grind (arith, slice_get-right xs)

-- ---- started words

-- a started part is the values that it has, and false ones
part-split : (m : List Bool) (i : ℕ) → take 64 (drop (64 * i) m) ++ repeated (64 - length (drop (64 * i) m)) false ≡ padded_part m i
part-split m i =
    let front : List Bool = take 64 (drop (64 * i) m) in
    let n : ℕ = 64 - length (drop (64 * i) m) in
    padded_part_from_values m (front ++ repeated n false) i (omega (arith, length-take 64 (drop (64 * i) m), length-append front (repeated n false), length-repeated n false)) (λ j h.
    get_or-padded front n j ∙ get_or-take 64 (drop (64 * i) m) j false h ∙ get_or-drop (64 * i) m j false)

-- the true values of one more started word
pub count-word_more : (m : List Bool) (i : ℕ) → count (take (64 * (i + 1)) m) ≡ count (take (64 * i) m) + count (padded_part m i)
count-word_more m i = grind (arith, take-add (64 * i) 64 m, count-append (take (64 * i) m) (take 64 (drop (64 * i) m)), part-split, count-append, count-repeated_false)

-- the false values of the last word hold no index
indices-part : (m : List Bool) (n i : ℕ) → indices_from n (padded_part m i) ≡ indices_from n (take 64 (drop (64 * i) m))
indices-part m n i = grind (arith, part-split, indices_from-append, indices_from-repeated_false, append-nil)

-- the places of one more started word
pub places-word_more : (m : List Bool) (i : ℕ) → 64 * i ≤ length m → positions (take (64 * (i + 1)) m) ≡ positions (take (64 * i) m) ++ indices_from (64 * i) (padded_part m i)
places-word_more m i within = grind (arith, length-take, take-add (64 * i) 64 m, indices_from-append, indices-part m (64 * i) i)

-- true value number n of a list is number n less those passed of the word where it stands
pub place_in_word : (m : List Bool) (i n r p : ℕ) → 64 * i ≤ length m → n ≡ count (take (64 * i) m) + r → r < count (padded_part m i) → slice_get (positions (padded_part m i)) r ≡ Some p
    → slice_get (positions m) n ≡ Some (64 * i + p)
place_in_word m i n r p within number inside at =
    let front : List Bool = take (64 * i) m in
    let rest : List Bool = drop (64 * i) m in
    let here : List ℕ = indices_from (64 * i) (take 64 rest) in
    let after : List ℕ = indices_from (64 * i + length (take 64 rest)) (drop 64 rest) in
    let len : 0 + length front ≡ 64 * i = omega (arith, length-take (64 * i) m) in
    let split : positions m ≡ positions front ++ (here ++ after)
    = grind (arith, take-append-drop (64 * i) m, take-append-drop 64 rest, indices_from-append 0 front rest, indices_from-append) in
    let padded : here ≡ map (λ k. 64 * i + k) (positions (padded_part m i))
    = grind (arith, indices-part m (64 * i) i, add-zero (64 * i), indices_from-moved (64 * i) 0 (padded_part m i)) in
    let many : r < length here = omega (arith, ap length padded, length-map (positions (padded_part m i)) (λ k. 64 * i + k)) in
    grind (arith, slice_get-right (positions front) (here ++ after) n r number, slice_get-left here after r many, slice_get-map, option_map)

-- past the last word there is none
pub place_none : (m : List Bool) (i n r : ℕ) → length m ≤ 64 * i → n ≡ count (take (64 * i) m) + r → slice_get (positions m) n ≡ None
place_none m i n r past number = grind (arith, slice_get_past, take_all)

-- ---- in one word

pub positions-lowest : (w : ℕ) → 0 < w → w < 2 ^ 64 → positions (word_bits w) ≡ low w ∷ positions (word_bits (bit_and w (w - 1)))
positions-lowest w some fits =
    grind (arith, low-within, places-step, length-word_bits, get_or-word_bits, get_or-word_bits w (low w) false, low-first, low-set, bit_at-lowest_cleared, bit_at-lowest_others, get_or_past)

-- the places of a word that stands n further on
pub places-lowest : (n w : ℕ) → 0 < w → w < 2 ^ 64 → indices_from n (word_bits w) ≡ (n + low w) ∷ indices_from n (word_bits (bit_and w (w - 1)))
places-lowest n w some fits = grind (arith, add-zero n, indices_from-moved, positions-lowest)

-- a word of which some places are left is not 0
pub some_left : (w k : ℕ) (ps : List ℕ) → w < 2 ^ 64 → positions (word_bits w) ≡ drop k ps → k < length ps → 0 < w
some_left w k ps fits left h = grind (arith, ap length left, length-drop k ps, count-word_bits w fits, ones-le 0 w)

-- the places past the first k, one by one
pub left-more : (w k : ℕ) (ps : List ℕ) → w < 2 ^ 64 → positions (word_bits w) ≡ drop k ps → k < length ps → positions (word_bits (bit_and w (w - 1))) ≡ drop (k + 1) ps
left-more w k ps fits left h = ap (drop 1) (sym (positions-lowest w (some_left w k ps fits left h) fits) ∙ left) ∙ drop-drop 1 k ps

pub left-first : (w k : ℕ) (ps : List ℕ) → w < 2 ^ 64 → positions (word_bits w) ≡ drop k ps → k < length ps → slice_get ps k ≡ Some (low w)
left-first w k ps fits left h =
    grind (arith, positions-lowest w (some_left w k ps fits left h) fits, slice_get-get_or ps k 0 h, add-zero k, get_or-drop)

-- ---- the last true value

-- a list with no true value has no place
pub no_index : (m : List Bool) (n : ℕ) → ((i : ℕ) → get_or m i false ≡ false) → indices_from n m ≡ []
no_index [] n none = refl
no_index (v ∷ m) n none = grind (arith, none 0, no_index m (n + 1) (λ i. none (suc i)))

-- none in a word without bits
pub indices-of_none : (n : ℕ) → indices_from n (word_bits 0) ≡ []
indices-of_none n = grind (arith, no_index, cases_lt, get_or-word_bits, bit_at-zero, get_or_past, length-word_bits)

pub last_place : (m : List Bool) (p : ℕ) → p < length m → get_or m p false ≡ true → ((i : ℕ) → p < i → get_or m i false ≡ false) → slice_get (positions m) (count m - 1) ≡ Some p
last_place m p within holds past =
    let front : List ℕ = positions (take p m) in
    let none : indices_from (p + 1) (drop (p + 1) m) ≡ [] = no_index (drop (p + 1) m) (p + 1) (λ i. get_or-drop (p + 1) m i false ∙ past (p + 1 + i) (omega arith)) in
    let all : positions m ≡ front ++ p ∷ []
    = grind (arith, take-append-drop p m, drop_more m p false within, none, length-take p m, indices_from-append 0 (take p m) (drop p m)) in
    ap (λ (ps : List ℕ). slice_get ps (length ps - 1)) all
    ∙ slice_get-right front (p ∷ []) (length (front ++ p ∷ []) - 1) 0 (omega (arith, length-append front (p ∷ [])))

pub last_none : (m : List Bool) (n : ℕ) → ((i : ℕ) → get_or m i false ≡ false) → slice_get (positions m) n ≡ None
last_none m n none = ap (λ (ps : List ℕ). slice_get ps n) (no_index m 0 none)

-- the highest set bit of a word that is not 0
pub high : (w : ℕ) → 0 < w → w < 2 ^ 64 → (leading_zeros w64 w < 64) × (bit_at w (63 - leading_zeros w64 w) ≡ 1) × ((i : ℕ) → 63 - leading_zeros w64 w < i → bit_at w i ≡ 0)
high w some fits = grind (arith, leading_top 64 w some fits, bit_at_above)

-- the last true value of a list, in the last started word that has one
pub last_in_word : (m : List Bool) (i w : ℕ) → 0 < w → w < 2 ^ 64 → word_bits w ≡ padded_part m i → ((p : ℕ) → 64 * (i + 1) ≤ p → get_or m p false ≡ false)
    → slice_get (positions m) (count m - 1) ≡ Some (64 * i + (63 - leading_zeros w64 w))
last_in_word m i w some fits read none =
    let top = high w some fits in
    let j : ℕ = 63 - leading_zeros w64 w in
    let holds : get_or m (64 * i + j) false ≡ true = grind (arith, bit-padded m i w j read, top.1) in
    last_place m (64 * i + j) (grind (arith, holds, get_or_past m (64 * i + j) false)) holds (λ p h.
    grind (arith, none p, bit-padded m i w (p - 64 * i) read, top.2 (p - 64 * i)))

-- an empty word more
pub none_more : (m : List Bool) (i : ℕ) → word_bits 0 ≡ padded_part m i → ((p : ℕ) → 64 * (i + 1) ≤ p → get_or m p false ≡ false) → (p : ℕ) → 64 * i ≤ p → get_or m p false ≡ false
none_more m i read none p from = grind (arith, none p, bit-padded m i 0 (p - 64 * i) read, bit_at-zero (p - 64 * i))

-- the true values up to a place, and those of the part from there
pub count-part_further : (m : List Bool) (s n : ℕ) → count (take (s + n) m) ≡ count (take s m) + count (slice_range m s (s + n))
count-part_further m s n = grind (arith, take-add, count-append)

pub ruleset places_of_words = (places-word_more, count-word_more, positions-lowest)
