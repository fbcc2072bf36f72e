use Rattle.vortex_mask.proofs.Common.{◌≡◌, ◌+◌, ◌-◌, ◌*◌, ◌/◌, ◌%◌, ◌^◌, bit_and, arith, get_or, List, ℕ, length, replicate, w8, w16, pow_mono, Fits, zip2, Each1, widens, AreLanes, AreLanes-map, SwzOk-lanes, AreLanes-zip2, AreLanes-splat, AreLanes-same}
use Rattle.vortex_mask.proofs.Deposits.LaneLemmas.{AreLanes-fit, cut_out, numbers, power, product, product-is}
use Rattle.vortex_mask.proofs.intersect_by_rank.deposit.bytewise.eight_bits.Goals as goal

pub swizzle : goal.swizzle
swizzle c = SwzOk-lanes _ _ (numbers c.args.from c.fits-from.0) (λ j h. omega arith)

-- eight bits of it
cut : (low high from : List ℕ) → (length low ≡ 16) × Each1 (Fits w8) low → (length high ≡ 16) × Each1 (Fits w8) high → length from ≡ 16
    → AreLanes 16 (zip2 bit_and (zip2 (λ a b. a / 2 ^ b) (product low high from) (replicate 16 7)) (replicate 16 255)) (λ j. (get_or low j 0 + get_or high j 0 * 2 ^ 8) / 2 ^ (get_or from j 0 % 8) % 2 ^ 8)
cut low high from fl fh long =
    AreLanes-same (AreLanes-zip2 bit_and (AreLanes-zip2 (λ a b. a / 2 ^ b) (product-is low high from fl fh long) (AreLanes-splat 16 7)) (AreLanes-splat 16 255))
    (λ j h. cut_out (get_or low j 0 + get_or high j 0 * 2 ^ 8) (get_or from j 0 % 8) (omega arith))

pub overflow_cast-power : goal.overflow_cast-power
overflow_cast-power c = widens w8 w16 (omega arith) _ (AreLanes-fit (power c.args.from c.fits-from.0) (λ j h. omega (arith, pow_mono {i = 7 - get_or c.args.from j 0 % 8} {j = 7} (omega arith))))

pub overflow_cast-both : goal.overflow_cast-both
overflow_cast-both c = widens w8 w16 (omega arith) c.args.low c.fits-low.1

pub overflow_cast-both-2 : goal.overflow_cast-both-2
overflow_cast-both-2 c = widens w8 w16 (omega arith) c.args.high c.fits-high.1

pub overflow_cast-result : goal.overflow_cast-result
overflow_cast-result c = AreLanes-fit (cut c.args.low c.args.high c.args.from c.fits-low c.fits-high c.fits-from.0) (λ j h. omega arith)

pub returns : goal.returns
returns c = AreLanes-map (λ n. n) (cut c.args.low c.args.high c.args.from c.fits-low c.fits-high c.fits-from.0)
