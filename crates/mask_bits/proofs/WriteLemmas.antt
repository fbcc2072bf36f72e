-- Bits written behind the first bits of some bytes.
use Rattle.mask_bits.proofs.Common.{◌≡◌, ℕ, ◌+◌, ◌*◌, ◌-◌, ◌/◌, ◌%◌, ◌^◌, ◌<◌, ◌≤◌, Bool, true, false, ◌||◌, nat_eq, List, ◌++◌, length, get_or, take, drop, replicate, ap, ◌∙◌, inl, inr, ◌⊎◌, arith, bit_or, bit_at, or-false, cases_lt, length-append, length-replicate, get_or-replicate, get_or_append_left, get_or-append_right, get_or_past, get_or-take, replicate-append-replicate, bit_at_ones, bitmap, backing_bit, values, IsWrittenBehind, AreClearFrom, repeated, word_bits, window, length-take, ext_get_or, put_mid}
use Rattle.mask_bits.proofs.BufferLemmas.{length-values, values_from_front}
use Rattle.mask_bits.proofs.CompareLemmas.{bitmap-byte}
use Rattle.mask_bits.proofs.Lists.Words.FrontLemmas.{get_or-window, get_or-front, get_or-put_mid_below, get_or-put_mid_above, get_or-put_mid_inside, values-join, window-take}
use Rattle.mask_bits.proofs.Lists.Words.ShiftLemmas.{get_or-word_bits_or, get_or-word_bits_shl_low, get_or-word_bits_shl_high, get_or-word_bits_shr}
use Rattle.mask_bits.proofs.Lists.Words.WordLemmas.{length-word_bits, get_or-word_bits}
use Rattle.mask_bits.proofs.Lists.CountLemmas.{get_or-padded, length-repeated}

-- ---- what is written joins what was

-- one list written behind another
pub written-join : (a b c : List ℕ) (at n : ℕ) (m k : List Bool) → n ≡ at + length m → IsWrittenBehind a b at m → IsWrittenBehind b c n k → IsWrittenBehind a c at (m ++ k)
written-join a b c at n m k place first second = grind (arith, get_or_append_left, get_or-append_right)

-- what comes is known by another name
pub written-is : (a b : List ℕ) (at : ℕ) (m k : List Bool) → m ≡ k → IsWrittenBehind a b at m → IsWrittenBehind a b at k
written-is a b at m k same w = grind arith

-- the front that was, and what was written
pub written-front : (a b : List ℕ) (at n : ℕ) (m : List Bool) → n ≡ at + length m → IsWrittenBehind a b at m
    → values (record { bytes = b; offset = 0; len = n }) ≡ values (record { bytes = a; offset = 0; len = at }) ++ m
written-front a b at n m place w =
    let front : List Bool = values (record { bytes = a; offset = 0; len = at }) in
    let len : length front ≡ at = length-values (record { bytes = a; offset = 0; len = at }) in
    grind (arith, values_from_front, length-append front m, get_or_append_left, get_or-front, get_or-append_right)

-- past what was written all is clear
pub written-clear : (a b : List ℕ) (at n : ℕ) (m : List Bool) → n ≡ at + length m → IsWrittenBehind a b at m → AreClearFrom n b
written-clear a b at n m place w = λ p h. grind (arith, w.comes (p - at), get_or_past m (p - at) false)

-- ---- a word

-- the bits of the word in which the list begins
word_begins : (old new : List ℕ) (i low w word j : ℕ) → low < 64 → j < 64
    → word_bits w ≡ window old (64 * i) → window new (64 * i) ≡ word_bits (bit_or w (word * 2 ^ low % 2 ^ 64))
    → backing_bit new (64 * i + j) ≡ (backing_bit old (64 * i + j) || get_or (word_bits (word * 2 ^ low % 2 ^ 64)) j false)
word_begins old new i low w word j few h was here =
    grind (arith, get_or-window new (64 * i) j false h, get_or-word_bits_or w (word * 2 ^ low % 2 ^ 64) j h, get_or-window old (64 * i) j false h)

-- one word is written, and it holds the list up to its end
pub written-first_word : (old new : List ℕ) (at w word : ℕ)
    → AreClearFrom at old → word_bits w ≡ window old (64 * (at / 64))
    → window new (64 * (at / 64)) ≡ word_bits (bit_or w (word * 2 ^ (at % 64) % 2 ^ 64))
    → ((p : ℕ) → ((p < 64 * (at / 64)) ⊎ (64 * (at / 64) + 64 ≤ p)) → backing_bit new p ≡ backing_bit old p)
    → IsWrittenBehind old new at (take (64 - at % 64) (word_bits word))
written-first_word old new at w word clear was here others =
    let i : ℕ = at / 64 in
    let low : ℕ = at % 64 in
    let begins = λ (j : ℕ) (h : j < 64). word_begins old new i low w word j (omega arith) h was here in
    record {
      stays = λ p h. elim (cases_lt p (64 * i)) [
        | inl before ↦ others p (inl before)
        | inr past ↦ grind (arith, begins (p - 64 * i), get_or-word_bits_shl_low word low (p - 64 * i), or-false)
      ];
      comes = λ k. grind (arith, get_or-word_bits_shl_high word low (low + k), get_or-take, get_or_past (take (64 - low) (word_bits word)) k false, length-take (64 - low) (word_bits word));
    }

-- a whole word is written where all is clear
pub written-word : (old new : List ℕ) (i : ℕ) (m : List Bool) → length m ≡ 64 → AreClearFrom (64 * i) old
    → window new (64 * i) ≡ m
    → ((p : ℕ) → ((p < 64 * i) ⊎ (64 * i + 64 ≤ p)) → backing_bit new p ≡ backing_bit old p)
    → IsWrittenBehind old new (64 * i) m
written-word old new i m len clear here others = grind (arith, get_or-window, get_or_past)

-- ---- the lowest bits of a word

written-same : (a b : List ℕ) (at : ℕ) (m k : List Bool) → ((i : ℕ) → get_or m i false ≡ get_or k i false) → IsWrittenBehind a b at m → IsWrittenBehind a b at k
written-same a b at m k same w = record { stays = w.stays; comes = λ i. w.comes i ∙ same i }

-- within one word
pub written-one : (old new : List ℕ) (at count word : ℕ) (m : List Bool)
    → at % 64 + count ≤ 64 → length m ≡ count → word_bits word ≡ m ++ repeated (64 - count) false
    → IsWrittenBehind old new at (take (64 - at % 64) (word_bits word)) → IsWrittenBehind old new at m
written-one old new at count word m within len padded w = grind (arith, get_or-take, get_or-padded, get_or_past, length-take)

-- over the end of a word
pub written-two : (old mid new : List ℕ) (at count word : ℕ) (m : List Bool)
    → 64 < at % 64 + count → count ≤ 64 → word < 2 ^ 64 → word_bits word ≡ m ++ repeated (64 - count) false
    → IsWrittenBehind old mid at (take (64 - at % 64) (word_bits word))
    → window new (64 * (at / 64 + 1)) ≡ word_bits (word / 2 ^ (64 - at % 64))
    → ((p : ℕ) → ((p < 64 * (at / 64 + 1)) ⊎ (64 * (at / 64 + 1) + 64 ≤ p)) → backing_bit new p ≡ backing_bit mid p)
    → IsWrittenBehind old new at m
written-two old mid new at count word m over few fits padded first here others =
    let cut : ℕ = 64 - at % 64 in
    let next : ℕ = at / 64 + 1 in
    let begun : List Bool = take cut (word_bits word) in
    let rest : List Bool = word_bits (word / 2 ^ cut) in
    let begun_len : length begun ≡ cut = omega (arith, length-take cut (word_bits word), length-word_bits word) in
    let place : 64 * next ≡ at + length begun = omega arith in
    let second = written-word mid new next rest (length-word_bits (word / 2 ^ cut)) (written-clear old mid at (64 * next) begun place first) here others in
    written-same old new at (begun ++ rest) m (grind (arith, get_or_append_left, get_or-take, get_or-padded, get_or-append_right, get_or-word_bits_shr, get_or_past, length-word_bits))
    (written-join old mid new at (64 * next) begun rest place first second)

-- ---- one value, many times

-- the lowest bits of a word of ones
take-ones : (n : ℕ) → n ≤ 64 → take n (word_bits 18446744073709551615) ≡ repeated n true
unfolding repeated
take-ones n few =
    let ones : List Bool = word_bits 18446744073709551615 in
    ext_get_or false (take n ones) (replicate n true) (omega (arith, length-replicate n true, length-take n ones, length-word_bits 18446744073709551615)) (λ i h.
    grind (arith, length-take n ones, get_or-replicate n i true false (omega (arith, length-take n ones)), get_or-take n ones i false (omega (arith, length-take n ones)), get_or-word_bits 18446744073709551615 i false, bit_at_ones 64 i))

-- a word of ones writes ones
pub written-ones : (a b : List ℕ) (at n : ℕ) → n ≤ 64 → IsWrittenBehind a b at (take n (word_bits 18446744073709551615)) → IsWrittenBehind a b at (repeated n true)
written-ones a b at n few w = written-is a b at (take n (word_bits 18446744073709551615)) (repeated n true) (take-ones n few) w

-- ones behind ones
pub written-more_ones : (a b c : List ℕ) (at n k next : ℕ) → next ≡ at + n → IsWrittenBehind a b at (repeated n true) → IsWrittenBehind b c next (repeated k true) → IsWrittenBehind a c at (repeated (n + k) true)
unfolding repeated
written-more_ones a b c at n k next place first second =
    grind (arith, written-is a c at (replicate n true ++ replicate k true) (replicate (n + k) true) (replicate-append-replicate n k true), written-join a b c at next (replicate n true) (replicate k true) (omega (arith, length-replicate n true)) first second)

pub written-ones_clear : (a b : List ℕ) (at n next : ℕ) → next ≡ at + n → IsWrittenBehind a b at (repeated n true) → AreClearFrom next b
written-ones_clear a b at n next place w = written-clear a b at next (repeated n true) (omega (arith, length-repeated n true)) w

-- false values are there
pub written-false : (a : List ℕ) (at n : ℕ) → AreClearFrom at a → IsWrittenBehind a a at (repeated n false)
unfolding repeated
written-false a at n clear = grind (arith, get_or-replicate, get_or_past, length-replicate)

-- whole bytes of ones
pub written-full : (old ys : List ℕ) (i k e : ℕ) → e ≡ 8 * (i + k) → e ≤ length old → AreClearFrom (64 * i) old → ys ≡ replicate (8 * k) 255
    → IsWrittenBehind old (put_mid (8 * i) (e - 8 * i) old ys) (64 * i) (repeated (64 * k) true)
unfolding repeated
written-full old ys i k e is_end within clear ones =
    let len : length ys ≡ e - 8 * i = ap length ones ∙ length-replicate (8 * k) 255 ∙ omega arith in
    record {
      stays = λ p h. ap (λ b. nat_eq (bit_at b (p % 8)) 1) (get_or-put_mid_below (8 * i) (e - 8 * i) old ys (p / 8) (omega arith) (omega arith));
      comes = λ j.
          grind (arith, get_or-put_mid_inside (8 * i) e old ys (j / 8), get_or-replicate {A = ℕ} (8 * k) (j / 8) 255 0, get_or-replicate, bit_at_ones 8 ((64 * i + j) % 8), get_or-put_mid_above (8 * i) (e - 8 * i) old ys ((64 * i + j) / 8), get_or_past (replicate (64 * k) true) j false, length-replicate (64 * k) true);
    }

-- ---- the bits of other bytes

-- none of them
pub written-no_bits : (a from : List ℕ) (at offset : ℕ) → AreClearFrom at a → IsWrittenBehind a a at (values (record { bytes = from; offset = offset; len = 0 }))
written-no_bits a from at offset clear = grind (arith, length-values, get_or_past)

-- more of them
pub written-more : (a b c from : List ℕ) (at offset n k next : ℕ) (m : List Bool) → next ≡ at + n → m ≡ values (record { bytes = from; offset = offset + n; len = k })
    → IsWrittenBehind a b at (values (record { bytes = from; offset = offset; len = n })) → IsWrittenBehind b c next m
    → IsWrittenBehind a c at (values (record { bytes = from; offset = offset; len = n + k }))
written-more a b c from at offset n k next m place is first second = grind (arith, values-join from offset n k, written-join, length-values)

pub written-bits_clear : (a b from : List ℕ) (at offset n next : ℕ) → next ≡ at + n → IsWrittenBehind a b at (values (record { bytes = from; offset = offset; len = n })) → AreClearFrom next b
written-bits_clear a b from at offset n next place w =
    written-clear a b at next (values (record { bytes = from; offset = offset; len = n })) (omega (arith, length-values (record { bytes = from; offset = offset; len = n }))) w

-- the bits of a part of the bytes that begins in the byte of their first
pub written-from_byte : (a b bytes from : List ℕ) (at low offset n : ℕ) → from ≡ drop (offset / 8) bytes → low ≡ offset % 8
    → IsWrittenBehind a b at (bitmap from low n) → IsWrittenBehind a b at (bitmap bytes offset n)
written-from_byte a b bytes from at low offset n is is_low = written-is a b at _ _ (bitmap-byte bytes from low offset n is is_low)

pub ruleset false_values = (written-false)

pub ruleset from_byte = (written-from_byte)

pub ruleset bits_of_bytes = (written-no_bits, written-more, window-take)
