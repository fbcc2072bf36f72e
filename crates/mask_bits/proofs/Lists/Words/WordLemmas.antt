-- Words of 64 bits as lists of truth values.
use Rattle.mask_bits.proofs.Common.{common_steps, ◌≡◌, ℕ, ◌+◌, ◌/◌, ◌<◌, ◌≤◌, Bool, false, nat_eq, List, [], ◌∷◌, length, get_or, drop, sym, arith, ◌%◌, zero, suc, ◌^◌, take, count_ones, mod-lt, mod-eq_of_lt, bit_at, drop_more, drop_all, take_more, length-map-range_with_len, get_or-map-range_with_len, fill_by_all, word_bits, word_part, word_parts, count, count_below, ones-le, ones_cat, mod-pow-add, bit_at-lt, take_all, length-drop, pow_pos}
use Rattle.mask_bits.proofs.Lists.CountLemmas.{count-push}
use lib.Count.{ones_step}

pub length-word_bits : (w : ℕ) → length (word_bits w) ≡ 64
unfolding word_bits
length-word_bits w = length-map-range_with_len (λ i. nat_eq (bit_at w i) 1) 0 64

pub get_or-word_bits : (w j : ℕ) (d : Bool) → j < 64 → get_or (word_bits w) j d ≡ nat_eq (bit_at w j) 1
unfolding word_bits
get_or-word_bits w j d h = get_or-map-range_with_len (λ i. nat_eq (bit_at w i) 1) 0 64 j j d h (omega arith)

-- a list of 64 values that are a word's bits is the word's list
pub word_bits_from_bits : (w : ℕ) (m : List Bool) → length m ≡ 64 → ((j : ℕ) → j < 64 → nat_eq (bit_at w j) 1 ≡ get_or m j false) → word_bits w ≡ m
unfolding word_bits
word_bits_from_bits w m len same = sym (fill_by_all (λ i. nat_eq (bit_at w i) 1) m 64 false len (λ j h. sym (same j h)))

-- ---- how many bits of a word are set

ones_of_bit : (n : ℕ) → n < 2 → count_ones n ≡ n
ones_of_bit n h = grind (arith, common_steps, ones_step)

-- one more place
pub ones_below-more : (w i : ℕ) → count_ones (w % 2 ^ (i + 1)) ≡ count_ones (w % 2 ^ i) + bit_at w i
ones_below-more w i =
    grind (arith, mod-pow-add w 1 i, ones_cat, mod-lt w (pow_pos i), pow_pos i, ones_of_bit (bit_at w i) (bit_at-lt w i), bit_at-lt w i)

-- the true values among a word's first i are its set bits below i
pub count_below-word_bits : (w i : ℕ) → i ≤ 64 → count_below (word_bits w) i ≡ count_ones (w % 2 ^ i)
count_below-word_bits w zero h = omega (arith, ones-le 0 (w % 1) (omega arith))
count_below-word_bits w (suc i) h =
    grind (arith, count-push (take i (word_bits w)) (get_or (word_bits w) i false), take_more, length-word_bits, get_or-word_bits, ones_below-more, count_below-word_bits w i (omega arith))

-- as many values of a word are true as bits of it are set
pub count-word_bits : (w : ℕ) → w < 2 ^ 64 → count (word_bits w) ≡ count_ones w
count-word_bits w fits = grind (arith, take_all 64 (word_bits w), length-word_bits w, count_below-word_bits w 64, mod-eq_of_lt fits)

-- ---- the parts of a list

pub length-word_parts : (m : List Bool) → length (word_parts m) ≡ length m / 64
unfolding word_parts
length-word_parts m = length-map-range_with_len (word_part m) 0 (length m / 64)

get_or-word_parts : (m : List Bool) (i : ℕ) (d : List Bool) → i < length m / 64 → get_or (word_parts m) i d ≡ word_part m i
unfolding word_parts
get_or-word_parts m i d h = get_or-map-range_with_len (word_part m) 0 (length m / 64) i i d h (omega arith)

-- the parts from one on, and past the last
pub drop-word_parts : (m : List Bool) (i : ℕ) → i < length m / 64 → drop i (word_parts m) ≡ word_part m i ∷ drop (i + 1) (word_parts m)
drop-word_parts m i h = grind (arith, drop_more (word_parts m) i [], length-word_parts m, get_or-word_parts m i [] h)

pub drop-word_parts_all : (m : List Bool) (i : ℕ) → length m / 64 ≤ i → drop i (word_parts m) ≡ []
drop-word_parts_all m i h = drop_all i (word_parts m) (omega (arith, length-word_parts m))

-- ---- counts

pub ruleset words_of_list = (length-word_parts, drop-word_parts, drop-word_parts_all, length-drop)

pub ruleset ones_of_word = (count-word_bits)
