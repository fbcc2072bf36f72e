-- Words and first bits of some bytes: what a window shows, and a front that grows by a word.
use Rattle.mask_bits.proofs.Common.{◌≡◌, ℕ, ◌+◌, ◌*◌, ◌-◌, ◌/◌, ◌%◌, ◌<◌, ◌≤◌, ◌⊎◌, inl, inr, Bool, false, List, ◌++◌, length, get_or, take, drop, slice_range, bit_at, nat_eq, refl, sym, ap, ◌∙◌, arith, cases_lt, from_le_bytes, length-append, get_or_append_left, get_or-append_right, get_or_past, get_or-drop, get_or-take, length-between, get_or-between, length-map-range_with_len, get_or-map-range_with_len, fill_by_all, take-put_mid_below, drop-put_mid, between-put_mid, bitmap, Packed, backing_bit, values, word_bits, window, w64, drop-drop, length-take, put_mid}
use Rattle.mask_bits.proofs.BufferLemmas.{length-values, get_or-values, values_from_bits, values_from_front}
use Rattle.mask_bits.proofs.Lists.Words.WordLemmas.{word_bits_from_bits}
use Rattle.mask_bits.proofs.NumberLemmas.{AreBytes, bit_at-chunk}

-- ---- windows

pub length-window : (bytes : List ℕ) (p : ℕ) → length (window bytes p) ≡ 64
unfolding window
length-window bytes p = length-map-range_with_len (λ j. backing_bit bytes (p + j)) 0 64

pub get_or-window : (bytes : List ℕ) (p j : ℕ) (d : Bool) → j < 64 → get_or (window bytes p) j d ≡ backing_bit bytes (p + j)
unfolding window
get_or-window bytes p j d h = get_or-map-range_with_len (λ j. backing_bit bytes (p + j)) 0 64 j j d h (omega arith)

-- a list of 64 values that are the bits from p on is the window
pub window_from_bits : (bytes : List ℕ) (p : ℕ) (m : List Bool) → length m ≡ 64 → ((j : ℕ) → j < 64 → get_or m j false ≡ backing_bit bytes (p + j)) → window bytes p ≡ m
unfolding window
window_from_bits bytes p m len same = sym (fill_by_all (λ j. backing_bit bytes (p + j)) m 64 false len same)

-- two windows one after the other show the windows between them
pub window-between : (bytes : List ℕ) (p low : ℕ) → low ≤ 64 → slice_range (window bytes p ++ window bytes (p + 64)) low (low + 64) ≡ window bytes (p + low)
window-between bytes p low h =
    let a : List Bool = window bytes p in
    let b : List Bool = window bytes (p + 64) in
    let within : low + 64 ≤ length (a ++ b) = omega (arith, length-append a b, length-window bytes p, length-window bytes (p + 64)) in
    sym (window_from_bits bytes (p + low) (slice_range (a ++ b) low (low + 64)) (length-between (a ++ b) low (low + 64) within ∙ omega arith) (grind (arith, get_or-between, get_or_append_left, length-window, get_or-window, get_or-append_right)))

-- ---- eight bytes as a word

-- eight bytes that stand at byte 8 * i are word i
pub word_bits-chunk : (bytes chunk : List ℕ) (i : ℕ) → AreBytes chunk → ((k : ℕ) → k < 8 → get_or chunk k 0 ≡ get_or bytes (8 * i + k) 0) → word_bits (from_le_bytes w64 chunk) ≡ window bytes (64 * i)
word_bits-chunk bytes chunk i are same =
    word_bits_from_bits (from_le_bytes w64 chunk) (window bytes (64 * i)) (length-window bytes (64 * i)) (grind (arith, bit_at-chunk, get_or-window))

-- and so are the first eight of the part of the bytes that begins there
pub word_bits-first_chunk : (bytes chunk : List ℕ) (i : ℕ) → AreBytes bytes → 8 * i + 8 ≤ length bytes → chunk ≡ take 8 (slice_range bytes (8 * i) (8 * i + 8)) → word_bits (from_le_bytes w64 chunk) ≡ window bytes (64 * i)
word_bits-first_chunk bytes chunk i are within first =
    let part : List ℕ = slice_range bytes (8 * i) (8 * i + 8) in
    let read : (k : ℕ) → k < 8 → get_or chunk k 0 ≡ get_or bytes (8 * i + k) 0
    = λ k h. ap (λ (xs : List ℕ). get_or xs k 0) first ∙ get_or-take 8 part k 0 h ∙ get_or-between bytes (8 * i) (8 * i + 8) k 0 (omega arith) in
    word_bits-chunk bytes chunk i (λ k. grind (arith, read k, are (8 * i + k), get_or_past chunk k 0, ap length first, length-take 8 part)) read

-- a part of some bytes that was written: what is before it, and past it
pub get_or-put_mid_below : (a k : ℕ) (xs ys : List ℕ) (m : ℕ) → a ≤ length xs → m < a → get_or (put_mid a k xs ys) m 0 ≡ get_or xs m 0
get_or-put_mid_below a k xs ys m within below = grind (arith, get_or-take a (put_mid a k xs ys) m 0 below, take-put_mid_below a k xs ys a, get_or-take a xs m 0 below)

pub get_or-put_mid_above : (a k : ℕ) (xs ys : List ℕ) (m : ℕ) → a ≤ length xs → length ys ≡ k → a + k ≤ m → get_or (put_mid a k xs ys) m 0 ≡ get_or xs m 0
get_or-put_mid_above a k xs ys m within len above = grind (arith, get_or-drop m (put_mid a k xs ys) 0 0, drop-put_mid a k xs ys m above within len, get_or-drop m xs 0 0)

pub get_or-put_mid_inside : (a e : ℕ) (xs ys : List ℕ) (m : ℕ) → a ≤ length xs → length ys ≡ e - a → m < e - a → get_or (put_mid a (e - a) xs ys) (a + m) 0 ≡ get_or ys m 0
get_or-put_mid_inside a e xs ys m within len inside = grind (arith, get_or-between (put_mid a (e - a) xs ys) a e m 0, between-put_mid a (e - a) xs ys e within len)

-- ---- one word behind another

-- bits that are the first values of f, and 64 more that are those that follow
pub bits-more : (f : ℕ → Bool) (old new : List ℕ) (i : ℕ) → ((p : ℕ) → p < 64 * i → backing_bit old p ≡ f p)
    → ((p : ℕ) → ((p < 64 * i) ⊎ (64 * i + 64 ≤ p)) → backing_bit new p ≡ backing_bit old p)
    → ((j : ℕ) → j < 64 → get_or (window new (64 * i)) j false ≡ f (64 * i + j))
    → (p : ℕ) → p < 64 * (i + 1) → backing_bit new p ≡ f p
bits-more f old new i before others here p h =
    elim (cases_lt p (64 * i)) [
      | inl earlier ↦ others p (inl earlier) ∙ before p earlier
      | inr behind ↦
          let j : ℕ = p - 64 * i in
          let few : j < 64 = omega arith in
          let at : 64 * i + j ≡ p = omega arith in
          ap (backing_bit new) (sym at) ∙ sym (get_or-window new (64 * i) j false few) ∙ here j few ∙ ap f at
    ]

-- words that hold the first values of a list, and one more that holds those that follow
pub words-more : (old new : List ℕ) (m part : List Bool) (i w : ℕ) → ((p : ℕ) → p < 64 * i → backing_bit old p ≡ get_or m p false)
    → window new (64 * i) ≡ word_bits w → ((p : ℕ) → ((p < 64 * i) ⊎ (64 * i + 64 ≤ p)) → backing_bit new p ≡ backing_bit old p)
    → ((j : ℕ) → j < 64 → get_or (word_bits w) j false ≡ get_or part j false) → ((j : ℕ) → j < 64 → get_or part j false ≡ get_or m (64 * i + j) false)
    → (p : ℕ) → p < 64 * (i + 1) → backing_bit new p ≡ get_or m p false
words-more old new m part i w before wrote others is_word is_part =
    bits-more (λ p. get_or m p false) old new i before others (λ j few. ap (λ (xs : List Bool). get_or xs j false) wrote ∙ is_word j few ∙ is_part j few)

-- ---- the first bits

-- value p of a front is bit p
pub get_or-front : (bytes : List ℕ) (n p : ℕ) (d : Bool) → p < n → get_or (values (record { bytes = bytes; offset = 0; len = n })) p d ≡ backing_bit bytes p
get_or-front bytes n p d h = grind (arith, get_or-values)

-- bytes that agree on their first bits have one front
pub front-same : (old new : List ℕ) (n : ℕ) → ((p : ℕ) → p < n → backing_bit new p ≡ backing_bit old p)
    → values (record { bytes = new; offset = 0; len = n }) ≡ values (record { bytes = old; offset = 0; len = n })
front-same old new n same = grind (arith, values_from_front, length-values (record { bytes = old; offset = 0; len = n }), get_or-front)

-- bytes that are left out have no part in a front
pub front-taken : (xs : List ℕ) (k n : ℕ) → n ≤ 8 * k → bitmap (take k xs) 0 n ≡ bitmap xs 0 n
front-taken xs k n few =
    front-same xs (take k xs) n (λ p h. ap (λ x. nat_eq (bit_at x (p % 8)) 1) (get_or-take k xs (p / 8) 0 (omega arith)))

-- the front of one more whole word
pub front-more_word : (bytes : List ℕ) (i : ℕ) → values (record { bytes = bytes; offset = 0; len = 64 * (i + 1) }) ≡ values (record { bytes = bytes; offset = 0; len = 64 * i }) ++ window bytes (64 * i)
front-more_word bytes i =
    let front : List Bool = values (record { bytes = bytes; offset = 0; len = 64 * i }) in
    let word : List Bool = window bytes (64 * i) in
    let len : length front ≡ 64 * i = length-values (record { bytes = bytes; offset = 0; len = 64 * i }) in
    grind (arith, values_from_front, length-append front word, length-window bytes (64 * i), get_or_append_left, get_or-front, get_or-append_right, get_or-window)

-- ---- parts of a front

-- the bits of one part and of the part that follows are those of both
pub values-join : (bytes : List ℕ) (o n k : ℕ) → values (record { bytes = bytes; offset = o; len = n }) ++ values (record { bytes = bytes; offset = o + n; len = k }) ≡ values (record { bytes = bytes; offset = o; len = n + k })
values-join bytes o n k =
    let a : Packed = record { bytes = bytes; offset = o; len = n } in
    let b : Packed = record { bytes = bytes; offset = o + n; len = k } in
    let len : length (values a) ≡ n = length-values a in
    grind (arith, values_from_bits, length-append (values a) (values b), length-values b, get_or_append_left, get_or-values, get_or-append_right)

-- the first values of a window
pub window-take : (bytes : List ℕ) (p n : ℕ) → n ≤ 64 → take n (window bytes p) ≡ values (record { bytes = bytes; offset = p; len = n })
window-take bytes p n few = grind (arith, values_from_bits, length-take n (window bytes p), length-window, get_or-take, get_or-window)

-- all of it
pub window-whole : (bytes : List ℕ) (p : ℕ) → window bytes p ≡ values (record { bytes = bytes; offset = p; len = 64 })
unfolding window values
window-whole bytes p = refl

-- a window past the first bytes
pub window-drop : (bytes : List ℕ) (k p q : ℕ) → 8 * k + p ≡ q → window (drop k bytes) p ≡ window bytes q
window-drop bytes k p q place = grind (arith, window_from_bits, length-window bytes q, get_or-window, get_or-drop)

pub ruleset whole_words = (word_bits-first_chunk)

-- ---- bytes that are written in the middle

-- the values before them stay
pub put-before : (old ys : List ℕ) (w k : ℕ) → 8 * w ≤ length old → bitmap (put_mid (8 * w) k old ys) 0 (64 * w) ≡ bitmap old 0 (64 * w)
put-before old ys w k begins = grind (arith, front-same, get_or-put_mid_below)

-- what is behind a later place is as it was, where it is behind this one
pub behind-further : (xs old : List ℕ) (at k : ℕ) → drop at xs ≡ drop at old → drop (at + k) xs ≡ drop (at + k) old
behind-further xs old at k same = sym (drop-drop k at xs) ∙ ap (drop k) same ∙ drop-drop k at old

pub behind-later : (xs old : List ℕ) (at later : ℕ) → at ≤ later → drop at xs ≡ drop at old → drop later xs ≡ drop later old
behind-later xs old at later after same = grind (arith, behind-further xs old at (later - at) same)
