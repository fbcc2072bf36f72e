-- A list in started words: the last one has false values up to a whole word.
use Rattle.mask_bits.proofs.Common.{◌≡◌, ℕ, ◌+◌, ◌*◌, ◌-◌, ◌/◌, ◌%◌, ◌^◌, ◌<◌, ◌≤◌, Bool, false, List, [], ◌∷◌, ◌++◌, length, get_or, drop, sym, ◌∙◌, arith, bit_and, drop_more, drop_all, length-append, get_or-drop, get_or-take, get_or_past, length-between, get_or-between, length-map-range_with_len, get_or-map-range_with_len, bitmap, Packed, values, repeated, word_bits, window, word_part, padded_remainder, started_words, padded_part, padded_parts, ext_get_or, length-drop, length-take}
use Rattle.mask_bits.proofs.BufferLemmas.{length-values, get_or-values}
use Rattle.mask_bits.proofs.Lists.Words.BackingBitLemmas.{length-bitmap, get_or-bitmap, word_bits-low}
use Rattle.mask_bits.proofs.Lists.Words.WordLemmas.{length-word_bits, get_or-word_bits}
use Rattle.mask_bits.proofs.Lists.CountLemmas.{length-repeated, get_or-padded}

pub length-padded_part : (m : List Bool) (i : ℕ) → length (padded_part m i) ≡ 64
length-padded_part m i = omega (arith, length-take 64 (drop (64 * i) m ++ repeated 64 false), length-append (drop (64 * i) m) (repeated 64 false), length-repeated 64 false)

-- value j is value 64 * i + j of the list, and false past its end
pub get_or-padded_part : (m : List Bool) (i j : ℕ) → j < 64 → get_or (padded_part m i) j false ≡ get_or m (64 * i + j) false
get_or-padded_part m i j h = get_or-take 64 (drop (64 * i) m ++ repeated 64 false) j false h ∙ get_or-padded (drop (64 * i) m) 64 j ∙ get_or-drop (64 * i) m j false

-- a list of 64 values that are those is the part
pub padded_part_from_values : (m xs : List Bool) (i : ℕ) → length xs ≡ 64 → ((j : ℕ) → j < 64 → get_or xs j false ≡ get_or m (64 * i + j) false) → xs ≡ padded_part m i
padded_part_from_values m xs i len same =
    ext_get_or false xs (padded_part m i) (len ∙ sym (length-padded_part m i)) (λ j h. same j (omega arith) ∙ sym (get_or-padded_part m i j (omega arith)))

-- a whole part has no false value added
pub padded_part-whole : (m : List Bool) (i : ℕ) → 64 * i + 64 ≤ length m → word_part m i ≡ padded_part m i
padded_part-whole m i within =
    grind (arith, padded_part_from_values m (word_part m i) i (length-between m (64 * i) (64 * i + 64) within ∙ omega arith), get_or-between)

-- what is past the whole parts is the part after them
pub padded_part-remainder : (m : List Bool) → padded_remainder m ≡ padded_part m (length m / 64)
padded_part-remainder m =
    grind (arith, padded_part_from_values, length-drop, length-append (drop (64 * (length m / 64)) m) (repeated (64 - length m % 64) false), length-repeated, get_or-padded, get_or-drop)

-- where no value is past the whole parts, the remainder is false values alone
pub word_bits-no_remainder : (m : List Bool) → length m % 64 ≡ 0 → word_bits 0 ≡ padded_remainder m
word_bits-no_remainder m none = grind (arith, padded_part_from_values, length-word_bits 0, get_or-word_bits, get_or_past, padded_part-remainder)

-- ---- the words that bytes show

-- and of the last one, cut to the values that are left
pub padded_part-low : (b : Packed) (i w : ℕ) → b.len - 64 * i ≤ 64 → word_bits w ≡ window b.bytes (b.offset + 64 * i) → word_bits (bit_and w (2 ^ (b.len - 64 * i) - 1)) ≡ padded_part (values b) i
padded_part-low b i w few shows =
    let n : ℕ = b.len - 64 * i in
    let p : ℕ = b.offset + 64 * i in
    let front : List Bool = bitmap b.bytes p n in
    word_bits-low b.bytes p n w few shows
    ∙ padded_part_from_values (values b) (front ++ repeated (64 - n) false) i (omega (arith, length-bitmap b.bytes p n, length-append front (repeated (64 - n) false), length-repeated (64 - n) false)) (grind (arith, get_or-padded, get_or-bitmap, get_or_past, length-bitmap, get_or-values, length-values))

-- ---- the parts of a list

pub length-padded_parts : (m : List Bool) → length (padded_parts m) ≡ started_words (length m)
unfolding padded_parts
length-padded_parts m = length-map-range_with_len (padded_part m) 0 (started_words (length m))

get_or-padded_parts : (m : List Bool) (i : ℕ) (d : List Bool) → i < started_words (length m) → get_or (padded_parts m) i d ≡ padded_part m i
unfolding padded_parts
get_or-padded_parts m i d h = get_or-map-range_with_len (padded_part m) 0 (started_words (length m)) i i d h (omega arith)

pub drop-padded_parts : (m : List Bool) (i : ℕ) → i < started_words (length m) → drop i (padded_parts m) ≡ padded_part m i ∷ drop (i + 1) (padded_parts m)
drop-padded_parts m i h = grind (arith, drop_more (padded_parts m) i [], length-padded_parts m, get_or-padded_parts m i [] h)

pub drop-padded_parts_all : (m : List Bool) (i : ℕ) → started_words (length m) ≤ i → drop i (padded_parts m) ≡ []
drop-padded_parts_all m i h = drop_all i (padded_parts m) (omega (arith, length-padded_parts m))

pub ruleset padded_words = (length-padded_parts, drop-padded_parts, drop-padded_parts_all, length-drop)

pub ruleset no_remainder = (word_bits-no_remainder)

pub ruleset padded_facts = (padded_part-whole, padded_part-remainder)
