-- The indices of a list's true values, block by block of four words.
use Rattle.mask_bits.proofs.Common.{◌≡◌, ℕ, ◌+◌, ◌-◌, ◌*◌, ◌/◌, ◌<◌, ◌≤◌, Bool, false, not, nat_eq, List, [], ◌∷◌, ◌++◌, length, get_or, take, drop, slice_range, refl, sym, ap, ◌∙◌, arith, append_assoc, append-nil, bit_or, take-add, drop_all, drop_more, length-append, map, map-id, nil_from_length, take-append-drop, take_at, drop_split, indices_from, positions, count, bits_of_words, word_bits, word_part, padded_part, padded_remainder, length-take, take_all}
use Rattle.mask_bits.proofs.CompareLemmas.{none-or}
use Rattle.mask_bits.proofs.Lists.CountLemmas.{count-append}
use Rattle.mask_bits.proofs.Lists.Places.SelectLemmas.{count-part_further, indices_from-append, indices-of_none, places-word_more}
use Rattle.mask_bits.proofs.Lists.Words.PaddedLemmas.{padded_part-remainder}
use Rattle.mask_bits.proofs.Lists.Words.WordLemmas.{length-word_bits, count-word_bits}
use Rattle.mask_bits.proofs.Lists.Places.PushLemmas.{length-indices}
use Rattle.mask_bits.proofs.Lists.Places.PlaceLemmas.{count-le-length}

-- a list of 8-byte indices
pub indices_themselves : (xs : List ℕ) → map (λ n. n) xs ≡ xs
indices_themselves xs = map-id xs

-- ---- the words of a block

pub length-bits_of_words : (ws : List ℕ) → length (bits_of_words ws) ≡ 64 * length ws
length-bits_of_words [] = refl
length-bits_of_words (w ∷ ws) = omega (arith, length-append (word_bits w) (bits_of_words ws), length-word_bits w, length-bits_of_words ws)

-- one word, and what is left
pub bits_of_words-more : (ws : List ℕ) (j : ℕ) → j < length ws → bits_of_words (drop j ws) ≡ word_bits (get_or ws j 0) ++ bits_of_words (drop (j + 1) ws)
bits_of_words-more ws j h = ap bits_of_words (drop_more ws j 0 h)

pub count-bits_more : (ws : List ℕ) (j : ℕ) → j < length ws → count (bits_of_words (drop j ws)) ≡ count (word_bits (get_or ws j 0)) + count (bits_of_words (drop (j + 1) ws))
count-bits_more ws j h = ap count (bits_of_words-more ws j h) ∙ count-append (word_bits (get_or ws j 0)) (bits_of_words (drop (j + 1) ws))

pub indices-bits_more : (ws : List ℕ) (base next j : ℕ) → j < length ws → next ≡ base + 64
    → indices_from base (bits_of_words (drop j ws)) ≡ indices_from base (word_bits (get_or ws j 0)) ++ indices_from next (bits_of_words (drop (j + 1) ws))
indices-bits_more ws base next j h is = grind (arith, length-word_bits, bits_of_words-more, indices_from-append)

-- words that show a list from word k on up to value n
words-shown : (m : List Bool) (k j n w : ℕ) (ws : List ℕ) → j ≡ k + 1 → word_bits w ≡ word_part m k → bits_of_words ws ++ drop n m ≡ drop (64 * j) m → bits_of_words (w ∷ ws) ++ drop n m ≡ drop (64 * k) m
words-shown m k j n w ws next shows rest =
    let end : 64 * j ≡ 64 * k + 64 = omega (arith, next) in
    grind (arith, append_assoc, drop_split)

-- the four words of block i
pub block-shown : (m : List Bool) (i a b c d : ℕ) → 256 * i + 256 ≤ length m
    → word_bits a ≡ word_part m (4 * i) → word_bits b ≡ word_part m (4 * i + 1) → word_bits c ≡ word_part m (4 * i + 2) → word_bits d ≡ word_part m (4 * i + 3)
    → bits_of_words (a ∷ b ∷ c ∷ d ∷ []) ≡ slice_range m (256 * i) (256 * i + 256)
block-shown m i a b c d within is_a is_b is_c is_d =
    let n : ℕ = 256 * i + 256 in
    let ws : List ℕ = a ∷ b ∷ c ∷ d ∷ [] in
    let start : 64 * (4 * i) ≡ 256 * i = omega arith in
    let end : n ≡ 64 * (4 * i + 4) = omega arith in
    let size : n - 256 * i ≡ 256 = omega arith in
    let all : bits_of_words ws ++ drop n m ≡ drop (64 * (4 * i)) m
    = words-shown m (4 * i) (4 * i + 1) n a (b ∷ c ∷ d ∷ []) (omega arith) is_a
    (words-shown m (4 * i + 1) (4 * i + 2) n b (c ∷ d ∷ []) (omega arith) is_b
    (words-shown m (4 * i + 2) (4 * i + 3) n c (d ∷ []) (omega arith) is_c
    (words-shown m (4 * i + 3) (4 * i + 4) n d [] (omega arith) is_d (ap (λ k. drop k m) end)))) in
    grind (arith, take_at (bits_of_words ws) (drop n m) 256 (length-bits_of_words ws), length-bits_of_words ws)

-- ---- the indices up to a block

-- those of one block more
pub block-more : (m bits : List Bool) (i : ℕ) → 256 * i + 256 ≤ length m → bits ≡ slice_range m (256 * i) (256 * i + 256)
    → positions (take (256 * (i + 1)) m) ≡ positions (take (256 * i) m) ++ indices_from (256 * i) bits
block-more m bits i within is =
    let n : ℕ = 256 * i in
    let next : 256 * (i + 1) ≡ n + 256 = omega arith in
    let size : 256 ≡ n + 256 - n = omega arith in
    let start : 0 + length (take n m) ≡ n = omega (arith, length-take n m) in
    grind (arith, take-add, indices_from-append)

pub indices-none : (n : ℕ) (bits : List Bool) → count bits ≡ 0 → indices_from n bits ≡ []
indices-none n bits none = nil_from_length (indices_from n bits) (length-indices n bits ∙ none)

-- a block without true values adds none
pub block-none : (m bits : List Bool) (i : ℕ) → 256 * i + 256 ≤ length m → bits ≡ slice_range m (256 * i) (256 * i + 256) → count bits ≡ 0
    → positions (take (256 * (i + 1)) m) ≡ positions (take (256 * i) m)
block-none m bits i within is none = grind (arith, block-more m bits i within is, indices-none, append-nil)

-- the true values of a part are among all
pub count-part_le : (m : List Bool) (s n : ℕ) → count (take s m) + count (slice_range m s (s + n)) ≤ count m
count-part_le m s n = grind (arith, count-part_further, count-append (take (s + n) m) (drop (s + n) m), take-append-drop)

no_bits : (w : ℕ) → w ≡ 0 → count (word_bits w) ≡ 0
no_bits w none = ap (λ v. count (word_bits v)) none ∙ ap length (indices-of_none 0)

-- no bit is set in four words that together have none
pub none-in_block : (ws : List ℕ) → length ws ≡ 4 → not (nat_eq (bit_or (bit_or (bit_or (get_or ws 0 0) (get_or ws 1 0)) (get_or ws 2 0)) (get_or ws 3 0)) 0) ≡ false → count (bits_of_words ws) ≡ 0
none-in_block ws len is =
    grind (arith, none-or, count-bits_more ws 0 (omega (arith, len)), count-bits_more ws 1 (omega (arith, len)), count-bits_more ws 2 (omega (arith, len)), count-bits_more ws 3 (omega (arith, len)), drop_all 4 ws (omega (arith, len)), no_bits)

-- those past the whole words are the last
pub rest-more : (m bits : List Bool) (items : List ℕ) (i : ℕ) → i ≡ length m / 64 → items ≡ positions (take (64 * (length m / 64)) m) → bits ≡ padded_remainder m
    → items ++ indices_from (64 * i) bits ≡ positions m
rest-more m bits items i is so_far rest =
    ap (λ (xs : List ℕ). xs ++ indices_from (64 * i) bits) (so_far ∙ ap (λ k. positions (take (64 * k) m)) (sym is))
    ∙ ap (λ (xs : List Bool). positions (take (64 * i) m) ++ indices_from (64 * i) xs) (rest ∙ padded_part-remainder m ∙ ap (padded_part m) (sym is))
    ∙ sym (places-word_more m i (omega (arith, is)))
    ∙ ap positions (take_all (64 * (i + 1)) m (omega (arith, is)))

-- and there is room for them
pub rest-room : (m bits : List Bool) (items : List ℕ) (i : ℕ) → i ≡ length m / 64 → items ≡ positions (take (64 * (length m / 64)) m) → bits ≡ padded_remainder m
    → length items + count bits ≡ count m
rest-room m bits items i is so_far rest =
    omega (arith, ap length (rest-more m bits items i is so_far rest), length-append items (indices_from (64 * i) bits), length-indices (64 * i) bits)

pub ruleset block_facts = (block-shown, none-in_block, block-none, block-more, count-part_le, rest-room, rest-more)

pub ruleset bits_of_words_more = (count-bits_more, indices-bits_more, length-indices, count-word_bits, count-le-length, length-word_bits, append-nil, append_assoc, length-append, drop_all)
