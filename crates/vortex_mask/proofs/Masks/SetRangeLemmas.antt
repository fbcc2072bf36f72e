-- Bits that are set in bytes, a range at a time.
use Rattle.vortex_mask.proofs.Common.{common_steps, ◌≡◌, ℕ, ◌+◌, ◌-◌, ◌*◌, ◌/◌, ◌%◌, ◌^◌, ◌<◌, ◌≤◌, ◌||◌, ◌&&◌, ◌⊎◌, Bool, true, false, nat_eq, nat_le, List, length, get_or, replicate, sym, ap, ap₂, ◌∙◌, arith, inl, inr, bit_at, or_comm, cases_lt, nat_tests, length-replicate, get_or-replicate, get_or_past, length-between, bit_at_ones, backing_bit, is_inside, word_bits, window, AreSet, get_or-window, get_or-put_mid_below, get_or-put_mid_above, get_or-put_mid_inside, get_or-word_bits_and, get_or-word_bits_or, get_or-word_bits_shl_low, get_or-word_bits_shl_high, get_or-word_bits_shr, get_or-word_bits, length-word_bits, bit_and, bit_or}
use borrow.Rule.Slice.PartMut.{put_mid}

-- ---- of a word

full_bit : (j : ℕ) → j < 64 → get_or (word_bits 18446744073709551615) j false ≡ true
full_bit j h = get_or-word_bits 18446744073709551615 j false h ∙ ap (λ x. nat_eq x 1) (bit_at_ones 64 j h)

-- a word of ones shifted up, and one shifted down
shifted_up : (low j : ℕ) → j < 64 → get_or (word_bits (18446744073709551615 * 2 ^ low % 2 ^ 64)) j false ≡ nat_le low j
shifted_up low j h = grind (arith, common_steps, cases_lt, get_or-word_bits_shl_low, nat_tests, get_or-word_bits_shl_high, full_bit)

shifted_down : (high j : ℕ) → high < 64 → j < 64 → get_or (word_bits (18446744073709551615 / 2 ^ (63 - high))) j false ≡ nat_le j high
shifted_down high j few h = grind (arith, common_steps, get_or-word_bits_shr, cases_lt, get_or_past, length-word_bits, nat_tests, full_bit)

place_in_word : (i low high p : ℕ) → 64 * i ≤ p → (nat_le low (p - 64 * i) && nat_le (p - 64 * i) high) ≡ is_inside p (64 * i + low, 64 * i + high + 1)
place_in_word i low high p from = grind (arith, nat_tests)

pub set-in_word : (old new : List ℕ) (i low high w : ℕ) → low < 64 → high < 64 → word_bits w ≡ window old (64 * i)
    → window new (64 * i) ≡ word_bits (bit_or w (bit_and (18446744073709551615 * 2 ^ low % 2 ^ 64) (18446744073709551615 / 2 ^ (63 - high))))
    → ((p : ℕ) → ((p < 64 * i) ⊎ (64 * i + 64 ≤ p)) → backing_bit new p ≡ backing_bit old p)
    → AreSet old new (64 * i + low) (64 * i + high + 1)
set-in_word old new i low high w few_low few_high was here others p =
    let up : ℕ = 18446744073709551615 * 2 ^ low % 2 ^ 64 in
    let down : ℕ = 18446744073709551615 / 2 ^ (63 - high) in
    elim (cases_lt p (64 * i)) [
      | inl before ↦ others p (inl before) ∙ grind (arith, nat_tests)
      | inr from ↦ elim (cases_lt p (64 * i + 64)) [
        | inl inside ↦
            let j : ℕ = p - 64 * i in
            let few : j < 64 = omega arith in
            let place : 64 * i + j ≡ p = omega arith in
            let shown : backing_bit new p ≡ get_or (word_bits (bit_or w (bit_and up down))) j false
            = ap (backing_bit new) (sym place) ∙ sym (get_or-window new (64 * i) j false few) ∙ ap (λ (m : List Bool). get_or m j false) here in
            let old_bit : get_or (word_bits w) j false ≡ backing_bit old p
            = ap (λ (m : List Bool). get_or m j false) was ∙ get_or-window old (64 * i) j false few ∙ ap (backing_bit old) place in
            let new_bit : get_or (word_bits (bit_and up down)) j false ≡ (nat_le low j && nat_le j high)
            = get_or-word_bits_and up down j few ∙ ap₂ (λ a b. a && b) (shifted_up low j few) (shifted_down high j few_high few) in
            shown ∙ get_or-word_bits_or w (bit_and up down) j few ∙ ap₂ (λ a b. a || b) old_bit (new_bit ∙ place_in_word i low high p from) ∙ or_comm (backing_bit old p) (is_inside p (64 * i + low, 64 * i + high + 1))
        | inr past ↦ others p (inr past) ∙ grind (arith, nat_tests)
      ]
    ]

-- ---- of whole words

pub set-filled : (old ys : List ℕ) (i e : ℕ) → i ≤ e → 8 * e ≤ length old → ys ≡ replicate (8 * e - 8 * i) 255 → AreSet old (put_mid (8 * i) (8 * e - 8 * i) old ys) (64 * i) (64 * e)
set-filled old ys i e order within ones p =
    let n : ℕ = 8 * e - 8 * i in
    let bit : ℕ → Bool = λ x. nat_eq (bit_at x (p % 8)) 1 in
    let len : length ys ≡ n = ap length ones ∙ length-replicate n 255 in
    let begins : 8 * i ≤ length old = omega arith in
    elim (cases_lt p (64 * i)) [
      | inl before ↦ ap bit (get_or-put_mid_below (8 * i) n old ys (p / 8) begins (omega arith)) ∙ grind (arith, nat_tests)
      | inr from ↦ elim (cases_lt p (64 * e)) [
        | inl inside ↦
            let k : ℕ = p / 8 - 8 * i in
            let place : p / 8 ≡ 8 * i + k = omega arith in
            let byte : get_or (put_mid (8 * i) n old ys) (p / 8) 0 ≡ 255
            = ap (λ m. get_or (put_mid (8 * i) n old ys) m 0) place ∙ get_or-put_mid_inside (8 * i) (8 * e) old ys k begins len (omega arith)
            ∙ ap (λ (zs : List ℕ). get_or zs k 0) ones ∙ get_or-replicate {A = ℕ} n k 255 0 (omega arith) in
            ap bit byte ∙ ap (λ x. nat_eq x 1) (bit_at_ones 8 (p % 8) (omega arith)) ∙ grind (arith, nat_tests)
        | inr past ↦ ap bit (get_or-put_mid_above (8 * i) n old ys (p / 8) begins len (omega arith)) ∙ grind (arith, nat_tests)
      ]
    ]

pub ruleset filled_facts = (set-filled, length-between)
