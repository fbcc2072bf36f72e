-- The places of started words, and rows at one more index.
use Rattle.mask_c.proofs.Common.{◌≡◌, ℕ, ◌+◌, ◌*◌, ◌<◌, ◌≤◌, Bool, List, [], ◌∷◌, ◌++◌, length, get_or, set, take, drop, map, Option, Some, cons_option, filter_map-append, sym, subst, ap, ◌∙◌, add-zero, arith, All, length-drop, length-take, drop-drop, drop-set-lt, take_all, take_more, take_more_set, All-weaker, indices_from, positions, padded_part, word_bits, length-padded_part, positions-within, indices_from-moved, places-word_more, part-same, places-same}
use Rattle.std.specs.List.{filter_map}

-- a started part has the places of its values
indices-part : (m : List Bool) (i n : ℕ) → indices_from n (take 64 (drop (64 * i) m)) ≡ indices_from n (padded_part m i)
indices-part m i n =
    places-same n (take 64 (drop (64 * i) m)) (take 64 (padded_part m i)) (λ k. part-same m i 64 k (omega arith))
    ∙ ap (indices_from n) (take_all 64 (padded_part m i) (omega (arith, length-padded_part m i)))

-- the places of one more started word
pub positions-word_more : (m : List Bool) (i : ℕ) → 64 * i ≤ length m
    → positions (take (64 * (i + 1)) m) ≡ positions (take (64 * i) m) ++ map (λ p. 64 * i + p) (positions (padded_part m i))
positions-word_more m i within =
    places-word_more m i within
    ∙ ap (λ (ps : List ℕ). positions (take (64 * i) m) ++ ps) (ap (λ n. indices_from n (padded_part m i)) (sym (add-zero (64 * i))) ∙ indices_from-moved (64 * i) 0 (padded_part m i))

-- the places of a word that shows a started part are those of rows
pub part-within : {X : Type 0} (rows part : List X) (m : List Bool) (i w : ℕ) → length rows ≡ length m → part ≡ drop (64 * i) rows → word_bits w ≡ padded_part m i
    → All (λ p. p < length part) (positions (word_bits w))
part-within rows part m i w len is shows =
    let here : List Bool = take 64 (drop (64 * i) m) in
    let few : length here ≤ length part = omega (arith, ap length is, length-take 64 (drop (64 * i) m), length-drop (64 * i) m, length-drop (64 * i) rows) in
    subst (All (λ p. p < length part)) (indices-part m i 0 ∙ sym (ap positions shows))
    (All-weaker (λ p. p < length here) (λ p. p < length part) (λ p h. omega arith) (positions here) (positions-within here))

-- what is made of one more index
pub rows_at-more : {N X : Type 0} (f : N → Option X) (ps : List N) (out : List X) (k : ℕ) (p : N) (row : X) → k < length ps → get_or ps k p ≡ p → k < length out
    → take k out ≡ filter_map f (take k ps) → f p ≡ Some row → take (k + 1) (set out k row) ≡ filter_map f (take (k + 1) ps)
rows_at-more {N} {X} f ps out k p row few here room so_far read =
    take_more_set out k row room
    ∙ ap (λ (xs : List X). xs ++ row ∷ []) so_far
    ∙ sym (ap (filter_map f) (take_more ps k p few ∙ ap (λ (x : N). take k ps ++ x ∷ []) here)
    ∙ filter_map-append f (take k ps) (p ∷ [])
    ∙ ap (λ o. filter_map f (take k ps) ++ cons_option o []) read)

-- and what is behind it stays as it was
pub behind-more : {X : Type 0} (xs old : List X) (k n : ℕ) (x : X) → n ≡ k + 1 → drop k xs ≡ drop k old → drop n (set xs k x) ≡ drop n old
behind-more xs old k n x next same = grind (arith, drop-set-lt n xs k x (omega arith), drop-drop 1 k xs, ap (drop 1) same, drop-drop 1 k old)
