-- Walks over a list by its started words: what is left of it after each step.
use Rattle.mask_bits.proofs.Common.{◌≡◌, ℕ, zero, suc, ◌+◌, ◌*◌, ◌-◌, ◌^◌, ◌<◌, ◌≤◌, Bool, true, false, nat_eq, List, [], ◌∷◌, length, get_or, drop, refl, sym, ap, ◌∙◌, arith, lit<, bit_at, length-append, get_or_append_left, get_or-append_right, get_or-drop, get_or-take, get_or_past, get_or-replicate, length-replicate, and_le_l, bit_at-lt, bit_at-zero, indices_from, positions, repeated, IsFirstFrom, runs_from, left_of, IsLeft, word_bits, padded_part, started_words, bit_and, ext_get_or, length-drop, length-take}
use Rattle.mask_bits.proofs.Lists.Words.LowestLemmas.{low, low-within, low-set, low-first, bit_at-lowest_cleared, bit_at-lowest_others}
use Rattle.mask_bits.proofs.Lists.Words.PaddedLemmas.{get_or-padded_part}
use Rattle.mask_bits.proofs.Lists.Places.ScanLemmas.{skip, indices_from-first}
use Rattle.mask_bits.proofs.Lists.Words.WordLemmas.{length-word_bits, get_or-word_bits}
use Rattle.mask_bits.proofs.Lists.CountLemmas.{positions-all_false}

-- ---- one step over lists

-- two lists that agree from a place on have one rest from there
pub drop-same : (m n : List Bool) (k : ℕ) → length n ≡ length m → ((i : ℕ) → k ≤ i → get_or n i false ≡ get_or m i false) → drop k n ≡ drop k m
drop-same m n k len same =
    ext_get_or false (drop k n) (drop k m) (omega (arith, length-drop k m, length-drop k n)) (λ i h.
    get_or-drop k n i false ∙ same (k + i) (omega arith) ∙ sym (get_or-drop k m i false))

-- what passes over false values passes over those in front of a place
pub skip-front : {X : Type 0} (F : ℕ → List Bool → X) → ((i : ℕ) (xs : List Bool) → F i (false ∷ xs) ≡ F (i + 1) xs) → (n : List Bool) (k : ℕ) → k ≤ length n → ((i : ℕ) → i < k → get_or n i false ≡ false) → F 0 n ≡ F k (drop k n)
skip-front F pass n k within clear =
    let place : 0 + k ≡ k = omega arith in
    skip F pass n 0 k (omega arith) (λ i _ h. clear i (omega arith)) ∙ ap (λ i. F i (drop i n)) place

-- the first true place, and the places of the list without it
pub places-step : (m n : List Bool) (place : ℕ) → place < length m → length n ≡ length m
    → ((i : ℕ) → i < place → get_or m i false ≡ false) → get_or m place false ≡ true
    → ((i : ℕ) → i ≤ place → get_or n i false ≡ false) → ((i : ℕ) → place < i → get_or n i false ≡ get_or m i false)
    → positions m ≡ place ∷ positions n
places-step m n place within len passed holds cleared same =
    let first : IsFirstFrom m 0 true place = record { not_before = omega arith; within = omega arith; passed = λ i _ h. passed i h; holds = λ _. holds } in
    indices_from-first m 0 place first within
    ∙ ap (λ (xs : List Bool). place ∷ indices_from (place + 1) xs) (sym (drop-same m n (place + 1) len (λ i h. same i (omega arith))))
    ∙ ap (λ (ps : List ℕ). place ∷ ps) (sym (skip-front indices_from (λ _ _. refl) n (place + 1) (omega arith) (λ i h. cleared i (omega arith))))

-- ---- what is left

pub length-left_of : (m : List Bool) (i w : ℕ) → 64 * i ≤ length m → length (left_of m i w) ≡ length m
unfolding left_of repeated
length-left_of m i w within = grind (arith, length-take, length-append, length-word_bits, length-drop, length-replicate)

-- of the words before, nothing
pub left_of-before : (m : List Bool) (i w p : ℕ) → 64 * i ≤ length m → p < 64 * i → get_or (left_of m i w) p false ≡ false
unfolding left_of repeated
left_of-before m i w p within h = grind (arith, get_or-take, get_or_append_left, length-replicate, get_or-replicate)

-- of word i, the bits of w
pub left_of-here : (m : List Bool) (i w p : ℕ) → 64 * i ≤ p → p < 64 * i + 64 → p < length m → get_or (left_of m i w) p false ≡ nat_eq (bit_at w (p - 64 * i)) 1
unfolding left_of repeated
left_of-here m i w p from to within = grind (arith, get_or-take, get_or-append_right, length-replicate, get_or_append_left, length-word_bits, get_or-word_bits)

-- past it, all
pub left_of-past : (m : List Bool) (i w p : ℕ) → 64 * i ≤ length m → 64 * i + 64 ≤ p → get_or (left_of m i w) p false ≡ get_or m p false
unfolding left_of repeated
left_of-past m i w p within h = grind (arith, get_or-take, get_or-append_right, length-replicate, length-word_bits, get_or-drop, get_or_past, length-left_of)

-- nothing is past the end
left_of-outside : (m : List Bool) (i w p : ℕ) → 64 * i ≤ length m → length m ≤ p → get_or (left_of m i w) p false ≡ false
left_of-outside m i w p within h = get_or_past (left_of m i w) p false (omega (arith, length-left_of m i w within))

-- where w is 0 there too, as in an empty word
pub left_of-clear : (m : List Bool) (i w p : ℕ) → 64 * i ≤ length m → 64 * i ≤ p → p < 64 * i + 64 → bit_at w (p - 64 * i) ≡ 0 → get_or (left_of m i w) p false ≡ false
left_of-clear m i w p within from to clear = grind (arith, left_of-here, left_of-outside)

-- ---- words that are read

-- bit j of started word i
pub bit-padded : (m : List Bool) (i w j : ℕ) → word_bits w ≡ padded_part m i → j < 64 → nat_eq (bit_at w j) 1 ≡ get_or m (64 * i + j) false
bit-padded m i w j read h = grind (arith, get_or-word_bits, get_or-padded_part)

pub IsLeft-read : (m : List Bool) (i w : ℕ) → w < 2 ^ 64 → word_bits w ≡ padded_part m i → 64 * i ≤ length m → IsLeft m i w
IsLeft-read m i w fits read within =
    record { word = fits; within = within; ends = λ j few past. grind (arith, bit_at-lt w j, bit-padded m i w j read few, get_or_past) }

-- where word i is read, nothing of it is passed
pub left_of-read : (m : List Bool) (i w p : ℕ) → word_bits w ≡ padded_part m i → 64 * i ≤ length m → 64 * i ≤ p → get_or (left_of m i w) p false ≡ get_or m p false
left_of-read m i w p read within from = grind (arith, left_of-past, left_of-outside, left_of-here, bit-padded m i w (p - 64 * i) read, get_or_past)

-- the first word, and no word of the empty list
pub left_of-first : (m : List Bool) (w : ℕ) → word_bits w ≡ padded_part m 0 → 0 < length m → left_of m 0 w ≡ m
left_of-first m w read some =
    ext_get_or false (left_of m 0 w) m (length-left_of m 0 w (omega arith)) (λ p h. left_of-read m 0 w p read (omega arith) (omega arith))

pub left_of-none : (m : List Bool) (w : ℕ) → length m ≡ 0 → left_of m 0 w ≡ m
left_of-none m w none =
    let len = length-left_of m 0 w (omega arith) in
    ext_get_or false (left_of m 0 w) m len (λ p h. absurd (omega (arith, len)))

pub IsLeft-none : (m : List Bool) → length m ≡ 0 → IsLeft m 0 0
IsLeft-none m none = record { word = lit< tt; within = omega arith; ends = λ j _ _. bit_at-zero j }

-- past a word of which nothing is left comes the next
pub left_of-next : (m : List Bool) (i w : ℕ) → i + 1 < started_words (length m) → word_bits w ≡ padded_part m (i + 1) → left_of m (i + 1) w ≡ left_of m i 0
left_of-next m i w more read =
    ext_get_or false (left_of m (i + 1) w) (left_of m i 0) (grind (arith, length-left_of)) (λ p h.
    grind (arith, left_of-before, left_of-clear m i 0 p, left_of-read m (i + 1) w p read, left_of-past, bit_at-zero (p - 64 * i)))

-- and past the last one nothing
pub left_of-last : (m : List Bool) (i : ℕ) → 64 * i ≤ length m → started_words (length m) ≤ i + 1 → left_of m i 0 ≡ repeated (length m) false
unfolding repeated
left_of-last m i within last =
    ext_get_or false (left_of m i 0) (repeated (length m) false) (grind (arith, length-left_of, length-replicate)) (λ p h.
    grind (arith, length-left_of, left_of-before, left_of-clear m i 0 p, bit_at-zero (p - 64 * i), get_or-replicate))

-- ---- the lowest true value of a word

pub low-inside : (m : List Bool) (i w : ℕ) → 0 < w → w < 2 ^ 64 → IsLeft m i w → 64 * i + low w < length m
low-inside m i w some fits left = grind (arith, low-set w some fits, left.ends (low w), low-within w some fits)

-- before it nothing is left
pub left_of-below_low : (m : List Bool) (i w p : ℕ) → 0 < w → w < 2 ^ 64 → 64 * i ≤ length m → p < 64 * i + low w → get_or (left_of m i w) p false ≡ false
left_of-below_low m i w p some fits within h = grind (arith, left_of-before, left_of-clear, low-within, low-first)

-- it is true
pub left_of-at : (m : List Bool) (i w p j : ℕ) → p ≡ 64 * i + j → j < 64 → p < length m → bit_at w j ≡ 1 → get_or (left_of m i w) p false ≡ true
left_of-at m i w p j place few inside set = grind (arith, left_of-here)

-- two words that have the same bits there
pub left_of-same : (m : List Bool) (i w v p : ℕ) → 64 * i ≤ length m → 64 * i ≤ p → ((j : ℕ) → j < 64 → p ≡ 64 * i + j → bit_at v j ≡ bit_at w j) → get_or (left_of m i v) p false ≡ get_or (left_of m i w) p false
left_of-same m i w v p within from same = grind (arith, left_of-past, left_of-outside, left_of-here)

pub IsLeft-cleared : (m : List Bool) (i w : ℕ) → 0 < w → w < 2 ^ 64 → IsLeft m i w → IsLeft m i (bit_and w (w - 1))
IsLeft-cleared m i w some fits left = record {
  word = omega (arith, and_le_l w (w - 1));
  within = left.within;
  ends = λ j few past. grind (arith, bit_at-lowest_others w j some fits, low-inside m i w some fits left, left.ends j few past);
}

pub places-lowest : (m : List Bool) (i w : ℕ) → 0 < w → w < 2 ^ 64 → IsLeft m i w → positions (left_of m i w) ≡ (64 * i + low w) ∷ positions (left_of m i (bit_and w (w - 1)))
places-lowest m i w some fits left =
    let v : ℕ = bit_and w (w - 1) in
    let inside = low-inside m i w some fits left in
    let few = low-within w some fits in
    places-step (left_of m i w) (left_of m i v) (64 * i + low w) (grind (arith, length-left_of)) (grind (arith, length-left_of))
    (λ p h. left_of-below_low m i w p some fits left.within h)
    (left_of-at m i w (64 * i + low w) (low w) refl few inside (low-set w some fits))
    (λ p h. grind (arith, left_of-before, left_of-clear m i v p, bit_at-lowest_cleared w (p - 64 * i) some fits))
    (λ p h. left_of-same m i w v p left.within (omega arith) (λ j _ place. bit_at-lowest_others w j some fits (omega arith)))

-- an all-false list has no run
pub runs_from-repeated_false : (n k : ℕ) → runs_from n (repeated k false) ≡ []
unfolding repeated
runs_from-repeated_false n zero = refl
runs_from-repeated_false n (suc k) = runs_from-repeated_false (n + 1) k

pub ruleset left_in_words = (left_of-first, left_of-none, left_of-next, left_of-last, IsLeft-none, IsLeft-read)

pub ruleset places_left = (places-lowest, low-inside, positions-all_false)
