-- The indices of true values from an index on, one started word after another, as many as there is room for.
use Rattle.mask_c.proofs.Common.{◌≡◌, ℕ, ◌+◌, ◌-◌, ◌*◌, ◌^◌, ◌<◌, ◌≤◌, Bool, List, ◌++◌, length, take, drop, map, min, slice_range, refl, sym, ap, ◌∙◌, add-zero, add_assoc, arith, All, cases_lt, length-drop, length-map, length-take, map-append, take-append-drop, take-append-le, take_all, take_at, All-weaker, map-map, bitmap, count, indices_from, positions, padded_part, word_bits, length-bitmap, count-word_more, indices_from-append, indices_from-moved, block-more}
use Rattle.std.proofs.lemmas.List.{take-map}
use Rattle.mask_c.proofs.BitmapLemmas.{bitmap-part}
use Rattle.mask_c.proofs.ChooseLemmas.{part-within, positions-word_more}

-- the values from an index on
pub bitmap-rest : (bytes : List ℕ) (offset len from : ℕ) → from ≤ len → bitmap bytes (offset + from) (len - from) ≡ drop from (bitmap bytes offset len)
bitmap-rest bytes offset len from within =
    let rest : List Bool = drop from (bitmap bytes offset len) in
    bitmap-part bytes offset len from len within (omega arith) ∙ take_all (len - from) rest (omega (arith, length-drop from (bitmap bytes offset len), length-bitmap bytes offset len))

-- ---- room

-- what more comes behind what fits
pub more_room : {X : Type 0} (n : ℕ) (xs ys : List X) → take n (take n xs ++ ys) ≡ take n (xs ++ ys)
more_room n xs ys = grind (arith, cases_lt, take_at, length-take, take-append-le, take_all)

-- ---- words

map-moved : (from k : ℕ) (ps : List ℕ) → map (λ p. from + p) (map (λ p. k + p) ps) ≡ map (λ p. from + k + p) ps
map-moved from k ps = map-map (λ p. from + p) (λ p. k + p) ps ∙ sym (simp add_assoc)

-- the indices of one more started word
pub indices-word_more : (m : List Bool) (from i : ℕ) → 64 * i ≤ length m
    → map (λ p. from + p) (positions (take (64 * (i + 1)) m))
    ≡ map (λ p. from + p) (positions (take (64 * i) m)) ++ map (λ p. from + 64 * i + p) (positions (padded_part m i))
indices-word_more m from i within =
    let front : List ℕ = positions (take (64 * i) m) in
    let here : List ℕ = positions (padded_part m i) in
    ap (map (λ p. from + p)) (positions-word_more m i within)
    ∙ map-append (λ p. from + p) front (map (λ p. 64 * i + p) here)
    ∙ ap (λ (xs : List ℕ). map (λ p. from + p) front ++ xs) (map-moved from (64 * i) here)

-- what is made of numbers behind an index
behind : {X : Type 0} (of : ℕ → X) (from : ℕ) (ps : List ℕ) → map (λ p. of (from + p)) ps ≡ map of (map (λ p. from + p) ps)
behind of from ps = sym (map-map of (λ p. from + p) ps)

made-word_more : {X : Type 0} (of : ℕ → X) (m : List Bool) (from i : ℕ) → 64 * i ≤ length m
    → map (λ p. of (from + p)) (positions (take (64 * (i + 1)) m))
    ≡ map (λ p. of (from + p)) (positions (take (64 * i) m)) ++ map (λ p. of (from + 64 * i + p)) (positions (padded_part m i))
made-word_more {X} of m from i within =
    let front : List ℕ = positions (take (64 * i) m) in
    let here : List ℕ = positions (padded_part m i) in
    behind of from (positions (take (64 * (i + 1)) m))
    ∙ ap (map of) (indices-word_more m from i within)
    ∙ map-append of (map (λ p. from + p) front) (map (λ p. from + 64 * i + p) here)
    ∙ ap (λ (xs : List X). xs ++ map of (map (λ p. from + 64 * i + p) here)) (sym (behind of from front))
    ∙ ap (λ (xs : List X). map (λ p. of (from + p)) front ++ xs) (sym (behind of (from + 64 * i) here))

-- they are indices of the list
pub indices-within : (m : List Bool) (first i w : ℕ) → word_bits w ≡ padded_part m i → 64 * i ≤ length m → first + (length m - 64 * i) < 2 ^ 64 → All (λ p. first + p < 2 ^ 64) (positions (word_bits w))
indices-within m first i w shows within fits =
    All-weaker (λ p. p < length (drop (64 * i) m)) (λ p. first + p < 2 ^ 64) (λ p h. omega (arith, length-drop (64 * i) m)) (positions (word_bits w)) (part-within m (drop (64 * i) m) m i w refl refl shows)

-- all words have all indices
all_places : (m : List Bool) (from : ℕ) → map (λ p. from + p) (positions m) ≡ indices_from from m
all_places m from = sym (indices_from-moved from 0 m) ∙ ap (λ n. indices_from n m) (add-zero from)

pub all_indices : {X : Type 0} (of : ℕ → X) (m : List Bool) (from k : ℕ) → length m ≤ k → map (λ p. of (from + p)) (positions (take k m)) ≡ map of (indices_from from m)
all_indices of m from k past = behind of from (positions (take k m)) ∙ ap (λ (xs : List Bool). map of (map (λ p. from + p) (positions xs))) (take_all k m past) ∙ ap (map of) (all_places m from)

-- the first words have the first indices
first_numbers : (m : List Bool) (from n k : ℕ) → n ≤ count (take k m) → take n (map (λ p. from + p) (positions (take k m))) ≡ take n (indices_from from m)
first_numbers m from n k many =
    let front : List Bool = take k m in
    let after : List ℕ = indices_from (0 + length front) (drop k m) in
    let split : positions m ≡ positions front ++ after
    = sym (ap positions (take-append-drop k m)) ∙ indices_from-append 0 front (drop k m) in
    let len : length (map (λ p. from + p) (positions front)) ≡ count front = length-map (positions front) (λ p. from + p) in
    sym (take-append-le n (map (λ p. from + p) (positions front)) (map (λ p. from + p) after) (omega arith))
    ∙ ap (take n) (sym (map-append (λ p. from + p) (positions front) after) ∙ ap (map (λ p. from + p)) (sym split) ∙ all_places m from)

pub first_indices : {X : Type 0} (of : ℕ → X) (m : List Bool) (from n k : ℕ) → n ≤ count (take k m) → take n (map (λ p. of (from + p)) (positions (take k m))) ≡ take n (map of (indices_from from m))
first_indices {X} of m from n k many =
    let ps : List ℕ = positions (take k m) in
    ap (λ (xs : List X). take n xs) (behind of from ps)
    ∙ take-map of n (map (λ p. from + p) ps)
    ∙ ap (map of) (first_numbers m from n k many)
    ∙ sym (take-map of n (indices_from from m))

-- ---- one more word

pub word_done : {X : Type 0} (of : ℕ → X) (m : List Bool) (from i at next w n : ℕ) (out new : List X) → 64 * i ≤ length m → word_bits w ≡ padded_part m i
    → take at out ≡ take n (map (λ p. of (from + p)) (positions (take (64 * i) m)))
    → take next new ≡ take n (take at out ++ map (λ p. of (from + 64 * i + p)) (positions (word_bits w)))
    → take next new ≡ take n (map (λ p. of (from + p)) (positions (take (64 * (i + 1)) m)))
word_done {X} of m from i at next w n out new within read before after =
    let here : List X = map (λ p. of (from + 64 * i + p)) (positions (padded_part m i)) in
    after
    ∙ ap (λ (xs : List Bool). take n (take at out ++ map (λ p. of (from + 64 * i + p)) (positions xs))) read
    ∙ ap (λ (xs : List X). take n (xs ++ here)) before
    ∙ more_room n (map (λ p. of (from + p)) (positions (take (64 * i) m))) here
    ∙ ap (λ (xs : List X). take n xs) (sym (made-word_more of m from i within))

pub word_counted : (m : List Bool) (i at next w n : ℕ) → word_bits w ≡ padded_part m i → at ≡ min n (count (take (64 * i) m))
    → next ≡ min n (at + count (word_bits w)) → next ≡ min n (count (take (64 * (i + 1)) m))
word_counted m i at next w n read before after = omega (arith, ap count read, count-word_more m i)

-- ---- one more block

pub block_done : {X : Type 0} (of : ℕ → X) (m bits : List Bool) (from i : ℕ) (old new : List X) → 256 * i + 256 ≤ length m → bits ≡ slice_range m (256 * i) (256 * i + 256)
    → old ≡ map (λ p. of (from + p)) (positions (take (256 * i) m)) → new ≡ old ++ map of (indices_from (from + 256 * i) bits)
    → new ≡ map (λ p. of (from + p)) (positions (take (256 * (i + 1)) m))
block_done {X} of m bits from i old new within is before after =
    let front : List ℕ = positions (take (256 * i) m) in
    let here : List ℕ = indices_from (from + 256 * i) bits in
    let numbers : map (λ p. from + p) front ++ here ≡ map (λ p. from + p) (positions (take (256 * (i + 1)) m)) =
    ap (λ (xs : List ℕ). map (λ p. from + p) front ++ xs) (indices_from-moved from (256 * i) bits)
    ∙ sym (map-append (λ p. from + p) front (indices_from (256 * i) bits))
    ∙ ap (map (λ p. from + p)) (sym (block-more m bits i within is)) in
    after
    ∙ ap (λ (xs : List X). xs ++ map of here) (before ∙ behind of from front)
    ∙ sym (map-append of (map (λ p. from + p) front) here)
    ∙ ap (map of) numbers
    ∙ sym (behind of from (positions (take (256 * (i + 1)) m)))
