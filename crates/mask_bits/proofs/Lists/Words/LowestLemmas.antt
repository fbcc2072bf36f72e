-- The lowest set bit of a word, and its lowest run of set bits: cleared, and filled up from below.
use Rattle.mask_bits.proofs.Common.{◌≡◌, ◌≢◌, ℕ, zero, suc, ◌+◌, ◌-◌, ◌/◌, ◌%◌, ◌^◌, ◌<◌, ◌≤◌, sym, ap, ◌∙◌, inl, inr, arith, bit_at, trailing_zeros, trailing_ones, bit_not, trailing_of_zero, trailing_le, cases_eq, bit_at_lowest, bit_at-suc, bit_at_and, bit_at_or, bit_at_ones, bit_at-trailing_zeros, bit_at-trailing_ones, w64, bit_and, bit_or, bit_at-lt}

-- ---- one less, and one more

half_less : (n : ℕ) → 0 < n → n % 2 ≡ 0 → (n - 1) / 2 ≡ n / 2 - 1
half_less n some even = omega arith

half_less_odd : (n : ℕ) → n % 2 ≡ 1 → (n - 1) / 2 ≡ n / 2
half_less_odd n odd = omega arith

-- a number less one: the bits below the lowest set one turn to 1, that one to 0, and the others stay
less_below : (z n i : ℕ) → 0 < n → bit_at n z ≡ 1 → ((j : ℕ) → j < z → bit_at n j ≡ 0) → i < z → bit_at (n - 1) i ≡ 1
less_below zero n i some set clear h = absurd (omega arith)
less_below (suc z) n zero some set clear h = omega (arith, bit_at_lowest (n - 1), bit_at_lowest n, clear 0 (omega arith))
less_below (suc z) n (suc i) some set clear h =
    let even : n % 2 ≡ 0 = omega (arith, bit_at_lowest n, clear 0 (omega arith)) in
    let rest = less_below z (n / 2) i (omega arith) (sym (bit_at-suc n z) ∙ set) (λ j l. sym (bit_at-suc n j) ∙ clear (suc j) (omega arith)) (omega arith) in
    grind (arith, bit_at-suc (n - 1) i, half_less n some even, rest)

less_at : (z n : ℕ) → 0 < n → bit_at n z ≡ 1 → ((j : ℕ) → j < z → bit_at n j ≡ 0) → bit_at (n - 1) z ≡ 0
less_at zero n some set clear = omega (arith, bit_at_lowest (n - 1), bit_at_lowest n)
less_at (suc z) n some set clear =
    let even : n % 2 ≡ 0 = omega (arith, bit_at_lowest n, clear 0 (omega arith)) in
    let rest = less_at z (n / 2) (omega arith) (sym (bit_at-suc n z) ∙ set) (λ j l. sym (bit_at-suc n j) ∙ clear (suc j) (omega arith)) in
    grind (arith, bit_at-suc (n - 1) z, half_less n some even, rest)

less_above : (z n i : ℕ) → 0 < n → bit_at n z ≡ 1 → ((j : ℕ) → j < z → bit_at n j ≡ 0) → z < i → bit_at (n - 1) i ≡ bit_at n i
less_above z n zero some set clear h = absurd (omega arith)
less_above zero n (suc i) some set clear h = grind (arith, bit_at_lowest n, bit_at-suc (n - 1) i, half_less_odd n, bit_at-suc n i)
less_above (suc z) n (suc i) some set clear h =
    let even : n % 2 ≡ 0 = omega (arith, bit_at_lowest n, clear 0 (omega arith)) in
    let rest = less_above z (n / 2) i (omega arith) (sym (bit_at-suc n z) ∙ set) (λ j l. sym (bit_at-suc n j) ∙ clear (suc j) (omega arith)) (omega arith) in
    grind (arith, bit_at-suc (n - 1) i, half_less n some even, rest, bit_at-suc n i)

half_more_odd : (n : ℕ) → n % 2 ≡ 1 → (n + 1) / 2 ≡ n / 2 + 1
half_more_odd n odd = omega arith

-- a number and one: the bits below the lowest clear one turn to 0, and those above it stay
more_below : (z n i : ℕ) → ((j : ℕ) → j < z → bit_at n j ≡ 1) → i < z → bit_at (n + 1) i ≡ 0
more_below zero n i set h = absurd (omega arith)
more_below (suc z) n zero set h = omega (arith, bit_at_lowest (n + 1), bit_at_lowest n, set 0 (omega arith))
more_below (suc z) n (suc i) set h =
    let rest = more_below z (n / 2) i (λ j l. sym (bit_at-suc n j) ∙ set (suc j) (omega arith)) (omega arith) in
    grind (arith, bit_at_lowest n, set 0, bit_at-suc (n + 1) i, half_more_odd n, rest)

more_above : (z n i : ℕ) → bit_at n z ≡ 0 → ((j : ℕ) → j < z → bit_at n j ≡ 1) → z < i → bit_at (n + 1) i ≡ bit_at n i
more_above z n zero clear set h = absurd (omega arith)
more_above zero n (suc i) clear set h = grind (arith, bit_at-suc)
more_above (suc z) n (suc i) clear set h =
    grind (arith, more_above z (n / 2) i (sym (bit_at-suc n z) ∙ clear) (λ j l. sym (bit_at-suc n j) ∙ set (suc j) (omega arith)) (omega arith), bit_at-suc)

-- ---- the lowest set bit of a word

-- the lowest set bit of a word that is not 0
abbrev pub low : ℕ → ℕ
low w = trailing_zeros w64 w

pub low-within : (w : ℕ) → 0 < w → w < 2 ^ 64 → low w < 64
low-within w some fits = (bit_at-trailing_zeros w64 w some fits).0

pub low-set : (w : ℕ) → 0 < w → w < 2 ^ 64 → bit_at w (low w) ≡ 1
low-set w some fits = (bit_at-trailing_zeros w64 w some fits).1

pub low-first : (w i : ℕ) → 0 < w → w < 2 ^ 64 → i < low w → bit_at w i ≡ 0
low-first w i some fits h = (bit_at-trailing_zeros w64 w some fits).2 i h

-- cleared: the bits up to it are 0, and those above it stay
pub bit_at-lowest_cleared : (w i : ℕ) → 0 < w → w < 2 ^ 64 → i ≤ low w → bit_at (bit_and w (w - 1)) i ≡ 0
bit_at-lowest_cleared w i some fits h = grind (arith, low-first, bit_at_and, less_at)

pub bit_at-lowest_others : (w i : ℕ) → 0 < w → w < 2 ^ 64 → low w < i → bit_at (bit_and w (w - 1)) i ≡ bit_at w i
bit_at-lowest_others w i some fits h =
    omega (arith, bit_at_and w (w - 1) i, less_above (low w) w i some (low-set w some fits) (λ j l. low-first w j some fits l) h)

-- filled up from below: the bits up to it are 1, and those from it on stay
pub bit_at-filled : (w i : ℕ) → 0 < w → w < 2 ^ 64 → i ≤ low w → bit_at (bit_or w (w - 1)) i ≡ 1
bit_at-filled w i some fits h =
    let before : (j : ℕ) → j < low w → bit_at w j ≡ 0 = λ j l. low-first w j some fits l in
    grind (arith, bit_at_or w (w - 1) i, before i, less_below (low w) w i some (low-set w some fits) before, low-set w some fits, bit_at-lt (w - 1) i)

pub bit_at-filled_others : (w i : ℕ) → 0 < w → w < 2 ^ 64 → low w ≤ i → bit_at (bit_or w (w - 1)) i ≡ bit_at w i
bit_at-filled_others w i some fits h =
    let set = low-set w some fits in
    grind (arith, bit_at_or w (w - 1) i, less_above (low w) w i some set (λ j l. low-first w j some fits l), set, bit_at-lt (w - 1) i)

-- ---- the ones at the low end of a word

-- how many there are
abbrev pub ones : ℕ → ℕ
ones w = trailing_ones w64 w

pub ones-of_full : (w : ℕ) → w ≡ 2 ^ 64 - 1 → ones w ≡ 64
ones-of_full w full = ap ones full ∙ trailing_of_zero 64

pub ones-within : (w : ℕ) → w < 2 ^ 64 → ones w ≤ 64
ones-within w fits = trailing_le 64 (bit_not w64 w)

pub ones-few : (w : ℕ) → w < 2 ^ 64 → w ≢ 2 ^ 64 - 1 → ones w < 64
ones-few w fits some = (bit_at-trailing_ones w64 w (omega arith)).0

pub ones-set : (w i : ℕ) → w < 2 ^ 64 → i < ones w → bit_at w i ≡ 1
ones-set w i fits h = elim (cases_eq w (2 ^ 64 - 1)) [
  | inl full ↦ grind (arith, bit_at_ones 64 i, ones-of_full w full)
  | inr some ↦ (bit_at-trailing_ones w64 w (omega arith)).2 i h
]

-- the bit past them is clear, where there is one
pub ones-end : (w : ℕ) → w < 2 ^ 64 → ones w < 64 → bit_at w (ones w) ≡ 0
ones-end w fits h = elim (cases_eq w (2 ^ 64 - 1)) [
  | inl full ↦ absurd (omega (arith, ones-of_full w full))
  | inr some ↦ (bit_at-trailing_ones w64 w (omega arith)).1
]

-- cleared: the bits below their end are 0, and the others stay
pub bit_at-ones_cleared : (w i : ℕ) → w < 2 ^ 64 → i < ones w → bit_at (bit_and w (w + 1)) i ≡ 0
bit_at-ones_cleared w i fits h = grind (arith, bit_at_and w (w + 1) i, more_below (ones w) w i (λ j l. ones-set w j fits l) h)

pub bit_at-ones_others : (w i : ℕ) → w < 2 ^ 64 → i < 64 → ones w ≤ i → bit_at (bit_and w (w + 1)) i ≡ bit_at w i
bit_at-ones_others w i fits few low_enough =
    let clear : bit_at w (ones w) ≡ 0 = ones-end w fits (omega arith) in
    grind (arith, bit_at_and w (w + 1) i, more_above (ones w) w i clear (λ j l. ones-set w j fits l), clear)

-- ---- zeros at the low end of a word, 64 where there is nothing else

pub zeros-within : (w : ℕ) → w < 2 ^ 64 → low w ≤ 64
zeros-within w fits = trailing_le 64 w

pub zeros-clear : (w i : ℕ) → w < 2 ^ 64 → i < low w → bit_at w i ≡ 0
zeros-clear w i fits h = grind (arith, low-first)

pub zeros-end : (w : ℕ) → w < 2 ^ 64 → low w < 64 → bit_at w (low w) ≡ 1
zeros-end w fits h = elim (cases_eq w 0) [
  | inl none ↦ absurd (omega (arith, ap low none, trailing_of_zero 64))
  | inr some ↦ low-set w (omega arith) fits
]
