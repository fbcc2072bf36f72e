-- The words that a buffer's bytes show.
use Rattle.mask_bits.proofs.Common.{◌≡◌, ℕ, ◌+◌, ◌*◌, ◌-◌, ◌/◌, ◌%◌, ◌^◌, ◌<◌, ◌≤◌, inl, inr, cases_lt, nat_eq, Bool, List, false, length, get_or, sym, ap, ◌∙◌, arith, ext_get_or, get_or_past, bit_and, bit_at, bit_at-zero, backing_bit, Packed, values, word_bits, window, word_part, padded_remainder, number}
use Rattle.mask_bits.proofs.BufferLemmas.{length-values, values-part}
use Rattle.mask_bits.proofs.Lists.Words.WordLemmas.{length-word_bits, word_bits_from_bits}
use Rattle.mask_bits.proofs.Lists.Words.ShiftLemmas.{get_or-word_bits_shr}
use Rattle.mask_bits.proofs.NumberLemmas.{AreBytes, bit_at-number}
use Rattle.mask_bits.proofs.Lists.Words.FrontLemmas.{length-window, get_or-window, window-whole}
use Rattle.mask_bits.proofs.Lists.Words.PaddedLemmas.{padded_part-low, padded_part-remainder}

-- the number of all bytes shows them from the first bit on
pub word_bits-number : (bytes : List ℕ) → AreBytes bytes → word_bits (number bytes) ≡ window bytes 0
word_bits-number bytes are = grind (arith, word_bits_from_bits, length-window bytes 0, bit_at-number, get_or-window)

-- past them no bit is set
bit-past : (bytes : List ℕ) (q : ℕ) → length bytes ≤ q / 8 → backing_bit bytes q ≡ false
bit-past bytes q past = ap (λ b. nat_eq (bit_at b (q % 8)) 1) (get_or_past bytes (q / 8) 0 past) ∙ ap (λ b. nat_eq b 1) (bit_at-zero (q % 8))

pub window-past : (bytes : List ℕ) (p : ℕ) → length bytes ≤ p / 8 → word_bits 0 ≡ window bytes p
window-past bytes p past = grind (arith, word_bits_from_bits, bit_at-zero, get_or-window, length-window bytes p, bit-past)

-- the last eight bytes, shifted, show what is there from one of their bits on
pub word_bits-last : (bytes : List ℕ) (first low p w : ℕ) → w < 2 ^ 64 → word_bits w ≡ window bytes (8 * first) → length bytes ≤ first + 8 → p ≡ 8 * first + low → word_bits (w / 2 ^ low) ≡ window bytes p
word_bits-last bytes first low p w fits shows near place =
    let m : List Bool = word_bits (w / 2 ^ low) in
    ext_get_or false m (window bytes p) (length-word_bits (w / 2 ^ low) ∙ sym (length-window bytes p)) (λ j h.
    let inside : j < 64 = omega (arith, h, length-word_bits (w / 2 ^ low)) in
    get_or-word_bits_shr w low j fits inside ∙ elim (cases_lt (low + j) 64) [
      | inl here ↦ ap (λ (l : List Bool). get_or l (low + j) false) shows ∙ get_or-window bytes (8 * first) (low + j) false here ∙ ap (backing_bit bytes) (omega (arith, place)) ∙ sym (get_or-window bytes p j false inside)
      | inr past ↦ get_or_past (word_bits w) (low + j) false (omega (arith, past, length-word_bits w)) ∙ sym (get_or-window bytes p j false inside ∙ bit-past bytes (p + j) (omega (arith, near, place, past)))
    ])

-- whole word i of a buffer is the window at its first bit
pub window-word_part : (b : Packed) (i : ℕ) → i < b.len / 64 → window b.bytes (b.offset + 64 * i) ≡ word_part (values b) i
window-word_part b i h = grind (arith, window-whole b.bytes (b.offset + 64 * i), values-part b (64 * i) (64 * i + 64))

-- the window past the whole words, cut to the values that are left
pub word_bits-remainder : (b : Packed) (w : ℕ) → word_bits w ≡ window b.bytes (b.offset + (b.len - b.len % 64)) → word_bits (bit_and w (2 ^ (b.len % 64) - 1)) ≡ padded_remainder (values b)
word_bits-remainder b w shows =
    let i : ℕ = b.len / 64 in
    let from : b.len - b.len % 64 ≡ 64 * i = omega arith in
    let few : b.len - 64 * i ≡ b.len % 64 = omega arith in
    grind (arith, padded_part-low, length-values, padded_part-remainder)

pub ruleset window_words = (window-past)
