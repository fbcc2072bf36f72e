use Rattle.mask_bits.proofs.Common.{◌≡◌, ◌+◌, ◌*◌, ◌/◌, ◌%◌, ◌^◌, ◌<◌, ◌∙◌, ℕ, List, ap, ap₂, refl, length, get_or, bit_and, count_ones, replicate, Fits, w8, arith, pow_mono, Each1, digits_l, number_l, zip2, and_mask, ones-le, AreLanes}
use Rattle.mask_bits.proofs.Lists.Words.LaneLemmas.{AreLanes-itself, AreLanes-zip2, AreLanes-splat, AreLanes-same, lane-fits}
use Rattle.mask_bits.proofs.Lists.Words.WideLaneLemmas.{AreLanes-wider, lower_lane, upper_lane, power_of_byte}
use Rattle.mask_bits.proofs.extract.two_words.powers_of.Goals as goal

-- the nibbles of the bytes
lower_nibbles : (masks : List ℕ) → length masks ≡ 16 → AreLanes 16 (zip2 bit_and masks (replicate 16 15)) (λ j. get_or masks j 0 % 16)
lower_nibbles masks long = AreLanes-same (AreLanes-zip2 bit_and (AreLanes-itself 16 masks long) (AreLanes-splat 16 15)) (λ j h. and_mask (get_or masks j 0) 4)

upper_nibbles : (masks : List ℕ) → length masks ≡ 16 → AreLanes 16 (zip2 (λ a b. a / 2 ^ b) masks (replicate 16 4)) (λ j. get_or masks j 0 / 16)
upper_nibbles masks long = AreLanes-zip2 (λ a b. a / 2 ^ b) (AreLanes-itself 16 masks long) (AreLanes-splat 16 4)

pub powers_of_nibbles-lower-requires : goal.powers_of_nibbles-lower-requires
powers_of_nibbles-lower-requires c =
    let lower = lower_nibbles c.args.masks c.fits-masks.0 in
    record { lanes = lower.lanes; nibbles = λ j h. omega (arith, lower.each j h) }

pub powers_of_nibbles-upper-requires : goal.powers_of_nibbles-upper-requires
powers_of_nibbles-upper-requires c =
    let upper = upper_nibbles c.args.masks c.fits-masks.0 in
    record { lanes = upper.lanes; nibbles = λ j h. omega (arith, upper.each j h, lane-fits c.args.masks 16 j c.fits-masks.0 c.fits-masks.1 h) }

power_small : (n : ℕ) → n < 16 → 2 ^ count_ones n < 256
power_small n h = omega (arith, pow_mono {i = count_ones n} {j = 4} (ones-le 4 n h))

-- the products of the powers in one of each two lanes, which an operation takes out
products : (op : ℕ → ℕ → ℕ) (y : ℕ) (at : ℕ → ℕ) (masks lower upper : List ℕ) → (length masks ≡ 16) × Each1 (Fits w8) masks → ((j : ℕ) → j < 8 → at j < 16)
    → ((f : ℕ → ℕ) (j : ℕ) → f (2 * j) < 256 → op (f (2 * j) + f (2 * j + 1) * 256) y ≡ f (at j))
    → AreLanes 16 lower (λ j. 2 ^ count_ones (get_or (zip2 bit_and masks (replicate 16 15)) j 0))
    → AreLanes 16 upper (λ j. 2 ^ count_ones (get_or (zip2 (λ a b. a / 2 ^ b) masks (replicate 16 4)) j 0))
    → AreLanes 8 (zip2 (λ a b. a * b % 2 ^ 16) (zip2 op (digits_l 65536 8 (number_l 256 lower)) (replicate 8 y)) (zip2 op (digits_l 65536 8 (number_l 256 upper)) (replicate 8 y))) (λ j. 2 ^ count_ones (get_or masks (at j) 0))
products op y at masks lower upper fits few takes are_lower are_upper =
    let low = AreLanes-same are_lower (λ j h. ap (λ n. 2 ^ count_ones n) ((lower_nibbles masks fits.0).each j h)) in
    let high = AreLanes-same are_upper (λ j h. ap (λ n. 2 ^ count_ones n) ((upper_nibbles masks fits.0).each j h)) in
    let byte = λ (j : ℕ) (h : j < 16). lane-fits masks 16 j fits.0 fits.1 h in
    let low_fits = λ (j : ℕ) (h : j < 16). power_small (get_or masks j 0 % 16) (omega arith) in
    let high_fits = λ (j : ℕ) (h : j < 16). power_small (get_or masks j 0 / 16) (omega (arith, byte j h)) in
    let lows = AreLanes-zip2 op (AreLanes-wider {n = 8} 256 65536 refl low low_fits) (AreLanes-splat 8 y) in
    let highs = AreLanes-zip2 op (AreLanes-wider {n = 8} 256 65536 refl high high_fits) (AreLanes-splat 8 y) in
    AreLanes-same (AreLanes-zip2 (λ a b. a * b % 2 ^ 16) lows highs) (λ j h.
    ap₂ (λ a b. a * b % 2 ^ 16) (takes (λ i. 2 ^ count_ones (get_or masks i 0 % 16)) j (low_fits (2 * j) (omega arith))) (takes (λ i. 2 ^ count_ones (get_or masks i 0 / 16)) j (high_fits (2 * j) (omega arith))) ∙ power_of_byte _ (byte (at j) (few j h)))

pub returns-clause-even : goal.returns-clause-even
returns-clause-even c =
    products bit_and 255 (λ j. 2 * j) c.args.masks _ _ c.fits-masks (λ j h. omega arith) (λ f j h. lower_lane 8 (f (2 * j)) (f (2 * j + 1)) h) c.powers_of_nibbles-lower.ensures c.powers_of_nibbles-upper.ensures

pub returns-clause-odd : goal.returns-clause-odd
returns-clause-odd c =
    products (λ a b. a / 2 ^ b) 8 (λ j. 2 * j + 1) c.args.masks _ _ c.fits-masks (λ j h. omega arith) (λ f j h. upper_lane 8 (f (2 * j)) (f (2 * j + 1)) h) c.powers_of_nibbles-lower.ensures c.powers_of_nibbles-upper.ensures
