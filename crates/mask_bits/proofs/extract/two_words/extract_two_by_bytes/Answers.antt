use Rattle.mask_bits.proofs.Common.{common_steps, ℕ, ◌≡◌, ◌+◌, ◌*◌, ◌/◌, ◌%◌, ◌^◌, ◌<◌, List, length, Fits, ap, ap₂, ◌∙◌, sym, subst, get_or, count_ones, w64, arith, pow-add, add_comm, Each1, cases_lt, ones_cat, Extracts, gathered, two_words, number_l, shr-shr}
use lib.Pow.{mod-mod-pow}
use Rattle.mask_bits.proofs.Lists.Words.GatherLemmas.{gathered-low, gathered-two, Extracts-gathered}
use Rattle.mask_bits.proofs.Lists.Words.WideLaneLemmas.{AreLanes-digits, number-two, wide_lane-fits}
use Rattle.mask_bits.proofs.extract.two_words.extract_two_by_bytes.Goals as goal

module _ (s m : ℕ) where
  -- the bits gathered of part i of w places each
  abbrev part : ℕ → ℕ → ℕ
  part w i = gathered w (s / 2 ^ (w * i)) (m / 2 ^ (w * i))

  -- part i of the mask
  abbrev places : ℕ → ℕ → ℕ
  places w i = m / 2 ^ (w * i) % 2 ^ w

  pair_joined : (j x y n : ℕ) → x ≡ part 8 (2 * j) → y ≡ part 8 (2 * j + 1) → n ≡ 2 ^ count_ones (places 8 (2 * j)) → (x + y * n) % 2 ^ 16 ≡ part 16 j
  pair_joined j x y n lower upper is = grind (arith, gathered-two)

  -- the places of two bytes
  count_of_two : (j : ℕ) → 2 ^ count_ones (places 8 (2 * (2 * j))) * 2 ^ count_ones (places 8 (2 * (2 * j) + 1)) ≡ 2 ^ count_ones (places 16 (2 * j))
  count_of_two j =
      grind (arith, shr-shr m (16 * (2 * j)) 8, add_comm, ones_cat 8 ((m / 2 ^ (16 * (2 * j))) / 2 ^ 8 % 2 ^ 8) ((m / 2 ^ (16 * (2 * j))) % 2 ^ 8) (omega arith), pow-add 2 (count_ones ((m / 2 ^ (16 * (2 * j))) % 2 ^ 8)) (count_ones ((m / 2 ^ (16 * (2 * j))) / 2 ^ 8 % 2 ^ 8)))

  half_joined : (j x y e o : ℕ) → x ≡ part 16 (2 * j) → y ≡ part 16 (2 * j + 1) → e ≡ 2 ^ count_ones (places 8 (2 * (2 * j))) → o ≡ 2 ^ count_ones (places 8 (2 * (2 * j) + 1))
      → (x + y * (e * o)) % 2 ^ 32 ≡ part 32 j
  half_joined j x y e o lower upper even odd = grind (arith, count_of_two, gathered-two)

  word_joined : (k x y p : ℕ) → x ≡ part 32 (2 * k) → y ≡ part 32 (2 * k + 1) → p ≡ places 32 (2 * k) → (x + y * 2 ^ count_ones p) % 2 ^ 64 ≡ part 64 k
  word_joined k x y p lower upper is = grind (arith, gathered-two)

  byte_gathered : (i x a b : ℕ) → x ≡ gathered 8 a b → a ≡ s / 2 ^ (8 * i) % 2 ^ 8 → b ≡ places 8 i → x ≡ part 8 i
  byte_gathered i x a b is first second = is ∙ ap₂ (gathered 8) first second ∙ gathered-low 8 (s / 2 ^ (8 * i)) (m / 2 ^ (8 * i))

  -- the lower half of a word
  low_half : (k b : ℕ) → m / 2 ^ (64 * k) % 2 ^ 64 ≡ b → b % 2 ^ 32 ≡ places 32 (2 * k)
  low_half k b is = grind (arith, mod-mod-pow)

  extracted : (k r a b : ℕ) → r ≡ part 64 k → s / 2 ^ (64 * k) % 2 ^ 64 ≡ a → m / 2 ^ (64 * k) % 2 ^ 64 ≡ b → Extracts a b r
  extracted k r a b is first second =
      subst (Extracts a b) (sym (is ∙ sym (gathered-low 64 (s / 2 ^ (64 * k)) (m / 2 ^ (64 * k))) ∙ ap₂ (gathered 64) first second)) (Extracts-gathered a b)

-- word k of two
word_of : (ws : List ℕ) (k : ℕ) → (length ws ≡ 2) × Each1 (Fits w64) ws → k < 2 → two_words ws / 2 ^ (64 * k) % 2 ^ 64 ≡ get_or ws k 0
word_of ws k fits h = grind (arith, common_steps, wide_lane-fits, cases_lt)

pub returns : goal.returns
returns c =
    let s : ℕ = two_words c.args.sources in
    let m : ℕ = two_words c.args.masks in
    let byte_is = λ (ws : List ℕ) (two : length ws ≡ 2) (i : ℕ) (h : i < 16). (AreLanes-digits 8 16 (number_l (2 ^ 64) ws)).each i h ∙ ap (λ n. n / 2 ^ (8 * i) % 2 ^ 8) (number-two (2 ^ 64) ws two) in
    let places_are = byte_is c.args.masks c.fits-masks.0 in
    let bytes_are = λ (i : ℕ) (h : i < 16). byte_gathered s m i _ _ _ (c.gather_in_bytes-bytes.ensures.each i h) (byte_is c.args.sources c.fits-sources.0 i h) (places_are i h) in
    let evens_are = λ (j : ℕ) (h : j < 8). c.powers_of-powers.ensures.even.each j h ∙ ap (λ n. 2 ^ count_ones n) (places_are (2 * j) (omega arith)) in
    let odds_are = λ (j : ℕ) (h : j < 8). c.powers_of-powers.ensures.odd.each j h ∙ ap (λ n. 2 ^ count_ones n) (places_are (2 * j + 1) (omega arith)) in
    let pairs_are = λ (j : ℕ) (h : j < 8). c.join_bytes-pairs.ensures.each j h ∙ pair_joined s m j _ _ _ (bytes_are (2 * j) (omega arith)) (bytes_are (2 * j + 1) (omega arith)) (evens_are j h) in
    let halves_are = λ (j : ℕ) (h : j < 4). c.join_pairs-halves.ensures.each j h
    ∙ half_joined s m j _ _ _ _ (pairs_are (2 * j) (omega arith)) (pairs_are (2 * j + 1) (omega arith)) (evens_are (2 * j) (omega arith)) (odds_are (2 * j) (omega arith)) in
    let source_is = λ (k : ℕ) (h : k < 2). word_of c.args.sources k c.fits-sources h in
    let mask_is = λ (k : ℕ) (h : k < 2). word_of c.args.masks k c.fits-masks h in
    let each = λ (k : ℕ) (h : k < 2). extracted s m k _ _ _ (c.join_halves.ensures k h
    ∙ word_joined s m k _ _ _ (halves_are (2 * k) (omega arith)) (halves_are (2 * k + 1) (omega arith)) (low_half s m k _ (mask_is k h))) (source_is k h) (mask_is k h) in
    record { first = each 0 (omega arith); second = each 1 (omega arith) }
