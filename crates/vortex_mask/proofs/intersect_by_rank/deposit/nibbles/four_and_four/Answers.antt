use Rattle.vortex_mask.proofs.Common.{◌≡◌, ◌+◌, ◌-◌, ◌*◌, ◌/◌, ◌%◌, ◌^◌, ◌<◌, ℕ, bit_and, arith, count_ones, get_or, List, w8, w16, pow_mono, length, map, replicate, Fits, zip2, Each1, ones-le, widens, swz_l, AreLanes, EachLane, AreLanes-itself, AreLanes-swz_l, SwzOk-lanes, AreLanes-map, AreLanes-zip2, AreLanes-splat, AreLanes-same}
use Rattle.vortex_mask.proofs.Deposits.LaneLemmas.{AreLanes-fit, numbers, power, product, product-is}
use Rattle.vortex_mask.proofs.Deposits.NibbleLemmas.{gaps, gaps_at, cut_apart}
use Rattle.vortex_mask.proofs.intersect_by_rank.deposit.nibbles.four_and_four.Goals as goal

gap : (lower : List ℕ) → length lower ≡ 16 → EachLane (λ j. get_or lower j 0 < 16) → AreLanes 16 (swz_l w8 16 gaps 0 lower) (λ j. 2 ^ (4 - count_ones (get_or lower j 0)))
gap lower long small = AreLanes-same (AreLanes-swz_l lower (λ j. get_or lower j 0) (AreLanes-itself 16 lower long) small gaps) (λ j h. gaps_at (get_or lower j 0) (small j h))

-- the bits of two bytes from `from` on, and those further on
joined : (low high from lower : List ℕ) → (length low ≡ 16) × Each1 (Fits w8) low → (length high ≡ 16) × Each1 (Fits w8) high → length from ≡ 16 → length lower ≡ 16 → EachLane (λ j. get_or lower j 0 < 16)
    → AreLanes 16
    (zip2 (λ a b. a / 2 ^ b)
    (zip2 (λ a b. (a + b) % 2 ^ 16) (zip2 bit_and (product low high from) (replicate 16 0x0780))
    (zip2 bit_and (zip2 (λ a b. a * b % 2 ^ 16) (product low high from) (map (λ n. n) (swz_l w8 16 gaps 0 lower))) (replicate 16 0x7800))) (replicate 16 7))
    (λ j. (get_or low j 0 + get_or high j 0 * 2 ^ 8) / 2 ^ (get_or from j 0 % 8) % 2 ^ 4
    + (get_or low j 0 + get_or high j 0 * 2 ^ 8) / 2 ^ (get_or from j 0 % 8) / 2 ^ count_ones (get_or lower j 0) % 2 ^ 4 * 2 ^ 4)
joined low high from lower fl fh long lanes small =
    let near = product-is low high from fl fh long in
    let far = AreLanes-zip2 (λ a b. a * b % 2 ^ 16) near (AreLanes-map (λ n. n) (gap lower lanes small)) in
    AreLanes-same
    (AreLanes-zip2 (λ a b. a / 2 ^ b) (AreLanes-zip2 (λ a b. (a + b) % 2 ^ 16) (AreLanes-zip2 bit_and near (AreLanes-splat 16 0x0780)) (AreLanes-zip2 bit_and far (AreLanes-splat 16 0x7800))) (AreLanes-splat 16 7))
    (λ j h. cut_apart (get_or low j 0 + get_or high j 0 * 2 ^ 8) (get_or from j 0 % 8) (count_ones (get_or lower j 0)) (omega arith) (ones-le 4 (get_or lower j 0) (small j h)))

pub swizzle : goal.swizzle
swizzle c = SwzOk-lanes _ _ (numbers c.args.from c.fits-from.0) (λ j h. omega arith)

pub swizzle-2 : goal.swizzle-2
swizzle-2 c = SwzOk-lanes c.args.lower (λ j. get_or c.args.lower j 0) (AreLanes-itself 16 c.args.lower c.fits-lower.0) c.requires

pub overflow_cast-power : goal.overflow_cast-power
overflow_cast-power c = widens w8 w16 (omega arith) _ (AreLanes-fit (power c.args.from c.fits-from.0) (λ j h. omega (arith, pow_mono {i = 7 - get_or c.args.from j 0 % 8} {j = 7} (omega arith))))

pub overflow_cast-gap : goal.overflow_cast-gap
overflow_cast-gap c = widens w8 w16 (omega arith) _ (AreLanes-fit (gap c.args.lower c.fits-lower.0 c.requires) (λ j h. omega (arith, pow_mono {i = 4 - count_ones (get_or c.args.lower j 0)} {j = 7} (omega arith))))

pub overflow_cast-near : goal.overflow_cast-near
overflow_cast-near c = widens w8 w16 (omega arith) c.args.low c.fits-low.1

pub overflow_cast-near-2 : goal.overflow_cast-near-2
overflow_cast-near-2 c = widens w8 w16 (omega arith) c.args.high c.fits-high.1

pub overflow_cast-result : goal.overflow_cast-result
overflow_cast-result c = AreLanes-fit (joined c.args.low c.args.high c.args.from c.args.lower c.fits-low c.fits-high c.fits-from.0 c.fits-lower.0 c.requires) (λ j h. omega arith)

pub returns : goal.returns
returns c = AreLanes-map (λ n. n) (joined c.args.low c.args.high c.args.from c.args.lower c.fits-low c.fits-high c.fits-from.0 c.fits-lower.0 c.requires)
