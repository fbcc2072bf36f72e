-- The bits of some bytes from any position on: parts of them, the words that show them, and their counts.
use Rattle.mask_bits.proofs.Common.{◌≡◌, ℕ, ◌+◌, ◌*◌, ◌-◌, ◌%◌, ◌/◌, ◌^◌, ◌<◌, ◌≤◌, Bool, false, nat_eq, List, [], ◌++◌, length, get_or, drop, sym, arith, count_ones, bit_and, ◌↔◌, bit_at, get_or-drop, nil_from_length, bitmap, backing_bit, Packed, values, same_values, count, repeated, word_bits, window, slice_eq-Decides, IsTrue}
use Rattle.mask_bits.proofs.BufferLemmas.{length-values, get_or-values, values_from_front}
use Rattle.mask_bits.proofs.Lists.CountLemmas.{count-append, count-repeated_false}
use Rattle.mask_bits.proofs.Lists.Words.FrontLemmas.{get_or-window, values-join, window-take, front-same}
use Rattle.mask_bits.proofs.Lists.Words.WordLemmas.{get_or-word_bits, count-word_bits}
use Rattle.mask_bits.proofs.Lists.Places.PlaceLemmas.{count-le-length}
use Rattle.mask_bits.proofs.Lists.Words.ShiftLemmas.{word_bits-low_mask}

pub length-bitmap : (bytes : List ℕ) (p n : ℕ) → length (bitmap bytes p n) ≡ n
length-bitmap bytes p n = length-values (record { bytes = bytes; offset = p; len = n })

pub get_or-bitmap : (bytes : List ℕ) (p n j : ℕ) (d : Bool) → j < n → get_or (bitmap bytes p n) j d ≡ backing_bit bytes (p + j)
get_or-bitmap bytes p n j d h = get_or-values (record { bytes = bytes; offset = p; len = n }) j d h

-- some bits, and those past them
pub bitmap-append : (bytes : List ℕ) (p a b : ℕ) → bitmap bytes p (a + b) ≡ bitmap bytes p a ++ bitmap bytes (p + a) b
bitmap-append bytes p a b = sym (values-join bytes p a b)

pub ruleset lengths = (length-values, length-bitmap)

-- the test of two buffers' lists is true exactly where they are one list
pub same_values_are_one_list : (a b : Packed) → IsTrue (same_values a b) ↔ (values a ≡ values b)
same_values_are_one_list a b = grind (arith, slice_eq-Decides)

-- the bits of bytes whose first k are left out
pub backing_bit-drop : (bytes : List ℕ) (k p : ℕ) → backing_bit (drop k bytes) p ≡ backing_bit bytes (8 * k + p)
backing_bit-drop bytes k p = grind (arith, get_or-drop)

pub bitmap-drop : (bytes : List ℕ) (k n : ℕ) → bitmap (drop k bytes) 0 n ≡ bitmap bytes (8 * k) n
bitmap-drop bytes k n = grind (arith, values_from_front, length-bitmap bytes (8 * k) n, backing_bit-drop, get_or-bitmap)

-- a word cut to its low bits shows those bits alone
pub word_bits-low : (bytes : List ℕ) (p n w : ℕ) → n ≤ 64 → word_bits w ≡ window bytes p → word_bits (bit_and w (2 ^ n - 1)) ≡ bitmap bytes p n ++ repeated (64 - n) false
word_bits-low bytes p n w few shows = grind (arith, word_bits-low_mask, window-take)

-- and has as many ones as they have true values
pub count-low : (bytes : List ℕ) (p n w : ℕ) → n ≤ 64 → bit_and w (2 ^ n - 1) < 2 ^ 64 → word_bits w ≡ window bytes p → count_ones (bit_and w (2 ^ n - 1)) ≡ count (bitmap bytes p n)
count-low bytes p n w few fits shows =
    grind (arith, count-word_bits (bit_and w (2 ^ n - 1)) fits, word_bits-low bytes p n w few shows, count-append (bitmap bytes p n) (repeated (64 - n) false), count-repeated_false (64 - n))

-- h bits up to a whole byte, w bits from there, and t past them are all of them
pub count-split : (bytes part : List ℕ) (p q h w t n : ℕ) → 8 * q ≡ p + h → part ≡ drop q bytes → n ≡ h + w + t
    → count (bitmap bytes p h) + count (bitmap part 0 w) + count (bitmap bytes (p + (h + w)) t) ≡ count (bitmap bytes p n)
count-split bytes part p q h w t n byte is len = grind (arith, bitmap-drop, bitmap-append, count-append)

-- no more of some bits are true than there are
pub count-bitmap-le : (bytes : List ℕ) (p n : ℕ) → count (bitmap bytes p n) ≤ n
count-bitmap-le bytes p n = omega (arith, count-le-length (bitmap bytes p n), length-bitmap bytes p n)

-- bit j of a word that shows the bits from p on
pub bit-window : (bytes : List ℕ) (p w j : ℕ) → word_bits w ≡ window bytes p → j < 64 → nat_eq (bit_at w j) 1 ≡ backing_bit bytes (p + j)
bit-window bytes p w j shows h = grind (arith, get_or-word_bits w j false h, get_or-window bytes p j false h)

-- ---- a list that is written word by word

pub ruleset low_counts = (count-low, count-bitmap-le)

-- none of them
pub no_values : (bytes : List ℕ) (p : ℕ) → bitmap bytes p 0 ≡ []
no_values bytes p = nil_from_length (bitmap bytes p 0) (length-bitmap bytes p 0)

-- the values of whole words, and those past them
pub bitmap-split : (bytes : List ℕ) (offset len : ℕ)
    → bitmap bytes offset len ≡ bitmap bytes offset (64 * (len / 64)) ++ bitmap bytes (offset + 64 * (len / 64)) (len % 64)
bitmap-split bytes offset len = grind (arith, bitmap-append)

pub front-split : (bytes : List ℕ) (len : ℕ) → bitmap bytes 0 len ≡ bitmap bytes 0 (64 * (len / 64)) ++ bitmap bytes (64 * (len / 64)) (len % 64)
front-split bytes len = grind (arith, bitmap-split)

pub ruleset front_and_last = (front-split, front-same, window-take)
