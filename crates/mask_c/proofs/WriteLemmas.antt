-- Bits that are written over others.
use Rattle.mask_c.proofs.Common.{bit_at-low_mask, set, cases_eq, get_or-set_at, get_or-set_other, ◌≡◌, ℕ, nat_eq, ◌^◌, ◌+◌, ◌-◌, ◌*◌, ◌/◌, ◌%◌, ◌<◌, ◌≤◌, ◌⊎◌, Bool, false, List, length, get_or, refl, sym, ap, ap₂, ◌∙◌, inl, inr, arith, bit_at, bit_and, bit_or, bit_not, w64, cases_lt, bit_at-lt, bit_at_and, bit_at_or, bit_at_not, bit_at_ones, bit_at_ones_above, one_shl, bitmap, backing_bit, window, word_bits, ext_get_or, IsWritten, bit-window, bit_at-mod, bit_at-shl_low, bit_at-shl_high, length-bitmap, get_or-bitmap, get_or-put_mid_below, get_or-put_mid_above, get_or-put_mid_inside}
use borrow.Rule.Slice.PartMut.{put_mid}

-- ---- a word of which some bits are those of another

-- `count` bits from bit `low` on, as the code computes them
abbrev pub there : ℕ → ℕ → ℕ
there low count = (1 * 2 ^ count % 2 ^ 64 - 1) * 2 ^ low % 2 ^ 64

there-is : (low count j : ℕ) → low + count < 64 → j < 64 → bit_at (there low count) j ≡ bit_at ((2 ^ count - 1) * 2 ^ low) j
there-is low count j few h = bit_at-mod ((1 * 2 ^ count % 2 ^ 64 - 1) * 2 ^ low) 64 j h ∙ ap (λ n. bit_at ((n - 1) * 2 ^ low) j) (one_shl count 64 (omega arith))

there-inside : (low count j : ℕ) → low + count < 64 → low ≤ j → j < low + count → bit_at (there low count) j ≡ 1
there-inside low count j few from to = there-is low count j few (omega arith) ∙ bit_at-shl_high (2 ^ count - 1) low j from ∙ bit_at_ones count (j - low) (omega arith)

there-outside : (low count j : ℕ) → low + count < 64 → j < 64 → ((j < low) ⊎ (low + count ≤ j)) → bit_at (there low count) j ≡ 0
there-outside low count j few h apart = there-is low count j few h ∙ elim apart [
  | inl below ↦ bit_at-shl_low (2 ^ count - 1) low j below
  | inr above ↦ bit_at-shl_high (2 ^ count - 1) low j (omega arith) ∙ bit_at_ones_above count (j - low) (omega arith)
]

there-fits : (low count : ℕ) → there low count < 2 ^ 64
there-fits low count = omega arith

-- the word, as the code computes it
abbrev pub blended : ℕ → ℕ → ℕ → ℕ → ℕ
blended word more low count = bit_or (bit_and word (bit_not w64 (there low count))) (bit_and (more * 2 ^ low % 2 ^ 64) (there low count))

pub blended-put : (word more low count j : ℕ) → low + count < 64 → j < count → bit_at (blended word more low count) (low + j) ≡ bit_at more j
blended-put word more low count j few h =
    let t : ℕ = there low count in
    let shifted : ℕ = more * 2 ^ low % 2 ^ 64 in
    let place : low + j - low ≡ j = omega arith in
    omega (
      arith,
      bit_at_or (bit_and word (bit_not w64 t)) (bit_and shifted t) (low + j),
      bit_at_and word (bit_not w64 t) (low + j),
      bit_at_and shifted t (low + j),
      bit_at_not w64 t (low + j) (there-fits low count) (omega arith),
      there-inside low count (low + j) few (omega arith) (omega arith),
      bit_at-mod (more * 2 ^ low) 64 (low + j) (omega arith),
      bit_at-shl_high more low (low + j) (omega arith),
      ap (bit_at more) place,
      bit_at-lt more j,
      bit_at-lt word (low + j),
    )

pub blended-kept : (word more low count j : ℕ) → low + count < 64 → j < 64 → ((j < low) ⊎ (low + count ≤ j)) → bit_at (blended word more low count) j ≡ bit_at word j
blended-kept word more low count j few h apart =
    let t : ℕ = there low count in
    let shifted : ℕ = more * 2 ^ low % 2 ^ 64 in
    omega (
      arith,
      bit_at_or (bit_and word (bit_not w64 t)) (bit_and shifted t) j,
      bit_at_and word (bit_not w64 t) j,
      bit_at_and shifted t j,
      bit_at_not w64 t j (there-fits low count) h,
      there-outside low count j few h apart,
      bit_at-lt word j,
      bit_at-lt shifted j,
    )

-- ---- bytes of which some are others

-- bytes ys stand in the place of those of xs from a to e
pub record ArePart (xs ys : List ℕ) (a e : ℕ) : Type 0 where
  pub ordered : a ≤ e
  pub within : e ≤ length xs
  pub len : length ys ≡ e - a

part-bit : (xs ys : List ℕ) (a e k : ℕ) → ArePart xs ys a e → k < 8 * (e - a) → backing_bit (put_mid a (e - a) xs ys) (8 * a + k) ≡ backing_bit ys k
part-bit xs ys a e k part h =
    let byte : (8 * a + k) / 8 ≡ a + k / 8 = omega arith in
    let bit : (8 * a + k) % 8 ≡ k % 8 = omega arith in
    ap₂ (λ i j. nat_eq (bit_at (get_or (put_mid a (e - a) xs ys) i 0) j) 1) byte bit
    ∙ ap (λ x. nat_eq (bit_at x (k % 8)) 1) (get_or-put_mid_inside a e xs ys (k / 8) (omega (arith, part.ordered, part.within)) part.len (omega arith))

part-outside : (xs ys : List ℕ) (a e p : ℕ) → ArePart xs ys a e → ((p < 8 * a) ⊎ (8 * e ≤ p)) → backing_bit (put_mid a (e - a) xs ys) p ≡ backing_bit xs p
part-outside xs ys a e p part apart = elim apart [
  | inl below ↦ ap (λ x. nat_eq (bit_at x (p % 8)) 1) (get_or-put_mid_below a (e - a) xs ys (p / 8) (omega (arith, part.ordered, part.within)) (omega arith))
  | inr above ↦ ap (λ x. nat_eq (bit_at x (p % 8)) 1) (get_or-put_mid_above a (e - a) xs ys (p / 8) (omega (arith, part.ordered, part.within)) part.len (omega (arith, part.ordered)))
]

-- whole bytes
pub written-bytes : (xs ys more : List ℕ) (a c offset : ℕ) → ArePart xs ys a (a + c) → bitmap ys 0 (8 * c) ≡ bitmap more offset (8 * c)
    → IsWritten xs (put_mid a (a + c - a) xs ys) (8 * a) more offset (8 * c)
written-bytes xs ys more a c offset part shows = record {
  inside = λ i h.
      let first : i ≡ 0 + i = omega arith in
      part-bit xs ys a (a + c) i part (omega arith) ∙ ap (backing_bit ys) first
      ∙ sym (get_or-bitmap ys 0 (8 * c) i false h) ∙ ap (λ (m : List Bool). get_or m i false) shows ∙ get_or-bitmap more offset (8 * c) i false h;
  outside = λ p apart. part-outside xs ys a (a + c) p part (elim apart [
    | inl below ↦ inl below
    | inr above ↦ inr (omega arith)
  ]);
}

-- ---- values in one byte

-- the byte, as the code computes it
abbrev pub blended_byte : ℕ → ℕ → ℕ → ℕ → ℕ
blended_byte byte word low count = bit_and (blended byte word low count) 255

pub byte-put : (byte word low count j : ℕ) → low + count ≤ 8 → j < count → bit_at (blended_byte byte word low count) (low + j) ≡ bit_at word j
byte-put byte word low count j few h = bit_at-low_mask (blended byte word low count) 8 (low + j) (omega arith) ∙ blended-put byte word low count j (omega arith) h

pub byte-kept : (byte word low count j : ℕ) → low + count ≤ 8 → j < 8 → ((j < low) ⊎ (low + count ≤ j)) → bit_at (blended_byte byte word low count) j ≡ bit_at byte j
byte-kept byte word low count j few h apart = bit_at-low_mask (blended byte word low count) 8 j h ∙ blended-kept byte word low count j (omega arith) (omega arith) apart

-- the byte of bit `start` has n bits of `more` from there on
pub written-in_byte : (old more : List ℕ) (start n x : ℕ) (offset word : ℕ) → start % 8 + n ≤ 8 → 0 < n → start + n ≤ 8 * length old → word_bits word ≡ window more offset
    → ((j : ℕ) → j < n → bit_at x (start % 8 + j) ≡ bit_at word j)
    → ((j : ℕ) → j < 8 → ((j < start % 8) ⊎ (start % 8 + n ≤ j)) → bit_at x j ≡ bit_at (get_or old (start / 8) 0) j)
    → IsWritten old (set old (start / 8) x) start more offset n
written-in_byte old more start n x offset word one some within shows put kept =
    let a : ℕ = start / 8 in
    let inside : a < length old = omega arith in
    record {
      inside = λ i h.
          let byte : (start + i) / 8 ≡ a = omega arith in
          let bit : (start + i) % 8 ≡ start % 8 + i = omega arith in
          ap₂ (λ z k. nat_eq (bit_at z k) 1) (get_or-set_at old a ((start + i) / 8) x 0 byte inside) bit
          ∙ ap (λ z. nat_eq z 1) (put i h) ∙ bit-window more offset word i shows (omega arith);
      outside = λ p apart. elim (cases_eq (p / 8) a) [
        | inl same ↦
            ap (λ z. nat_eq (bit_at z (p % 8)) 1) (get_or-set_at old a (p / 8) x 0 same inside)
            ∙ ap (λ z. nat_eq z 1) (kept (p % 8) (omega arith) (elim apart [
              | inl before ↦ inl (omega arith)
              | inr after ↦ inr (omega arith)
            ]))
            ∙ ap (λ k. nat_eq (bit_at (get_or old k 0) (p % 8)) 1) (sym same)
        | inr other ↦ ap (λ z. nat_eq (bit_at z (p % 8)) 1) (get_or-set_other old a (p / 8) x 0 other)
      ];
    }

-- ---- no values

pub written-none : (old more : List ℕ) (start offset : ℕ) → IsWritten old old start more offset 0
written-none old more start offset = record {
  inside = λ i h. absurd (omega arith);
  outside = λ p apart. refl;
}

-- ---- some values, and those behind them

pub written-join : (a b c more : List ℕ) (start offset k n : ℕ) → IsWritten a b start more offset k → IsWritten b c (start + k) more (offset + k) n → IsWritten a c start more offset (k + n)
written-join a b c more start offset k n first second = record {
  inside = λ i h. elim (cases_lt i k) [
    | inl early ↦ second.outside (start + i) (inl (omega arith)) ∙ first.inside i early
    | inr late ↦
        let there : start + i ≡ start + k + (i - k) = omega arith in
        let from : offset + k + (i - k) ≡ offset + i = omega arith in
        ap (backing_bit c) there ∙ second.inside (i - k) (omega arith) ∙ ap (backing_bit more) from
  ];
  outside = λ p apart. elim apart [
    | inl below ↦ second.outside p (inl (omega arith)) ∙ first.outside p (inl below)
    | inr above ↦ second.outside p (inr (omega arith)) ∙ first.outside p (inr (omega arith))
  ];
}

-- the values that were written
pub written-values : (old new more : List ℕ) (start offset n : ℕ) → IsWritten old new start more offset n → bitmap new start n ≡ bitmap more offset n
written-values old new more start offset n written =
    ext_get_or false (bitmap new start n) (bitmap more offset n) (length-bitmap new start n ∙ sym (length-bitmap more offset n)) (λ i h.
    let small : i < n = omega (arith, length-bitmap new start n) in
    get_or-bitmap new start n i false small ∙ written.inside i small ∙ sym (get_or-bitmap more offset n i false small))
