use Rattle.mask_bits.proofs.Common.{ℕ, ◌+◌, ◌*◌, ◌/◌, ◌%◌, ◌^◌, ◌<◌, w16, ap₂, ◌∙◌, bit_and, get_or, arith, mul-mod_second}
use Rattle.mask_bits.proofs.Lists.Words.LaneLemmas.{AreLanes-zip2, AreLanes-splat, AreLanes-same}
use Rattle.mask_bits.proofs.Lists.Words.WideLaneLemmas.{wide_lane-fits, lower_lane, upper_lane, sum_cut}
use Rattle.mask_bits.proofs.extract.two_words.join_pairs.Goals as goal

pub returns : goal.returns
returns c =
    let a = c.args in
    let both = c.wide-both.ensures in
    let lower = AreLanes-zip2 bit_and both (AreLanes-splat 4 0xFFFF) in
    let upper = AreLanes-zip2 (λ (x n : ℕ). x / 2 ^ n) both (AreLanes-splat 4 16) in
    let even = AreLanes-zip2 bit_and c.wide.ensures (AreLanes-splat 4 0xFFFF) in
    let odd = AreLanes-zip2 bit_and c.wide-2.ensures (AreLanes-splat 4 0xFFFF) in
    let product = λ (x y : ℕ). x * y % 2 ^ 32 in
    AreLanes-same (AreLanes-zip2 (λ (x y : ℕ). (x + y) % 2 ^ 32) lower (AreLanes-zip2 product upper (AreLanes-zip2 product even odd))) (λ j h.
    let x : ℕ = get_or a.pairs (2 * j) 0 in
    let y : ℕ = get_or a.pairs (2 * j + 1) 0 in
    let e : ℕ = get_or a.even (2 * j) 0 in
    let o : ℕ = get_or a.odd (2 * j) 0 in
    let k : 2 * j < 8 = omega arith in
    let x_fits = wide_lane-fits w16 8 a.pairs (2 * j) c.fits-pairs k in
    let power = ap₂ product (lower_lane 16 e _ (wide_lane-fits w16 8 a.even (2 * j) c.fits-even k)) (lower_lane 16 o _ (wide_lane-fits w16 8 a.odd (2 * j) c.fits-odd k)) in
    ap₂ (λ (p q : ℕ). (p + q) % 2 ^ 32) (lower_lane 16 x y x_fits) (ap₂ product (upper_lane 16 x y x_fits) power ∙ mul-mod_second y (e * o) (2 ^ 32))
    ∙ sum_cut x (y * (e * o)) (2 ^ 32))
