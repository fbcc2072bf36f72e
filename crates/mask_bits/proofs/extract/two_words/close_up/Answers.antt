use Rattle.mask_bits.proofs.Common.{ℕ, ◌+◌, ◌-◌, ◌/◌, ◌%◌, ◌^◌, ◌*◌, bit_and, get_or, arith}
use Rattle.mask_bits.proofs.Lists.Words.LaneLemmas.{AreLanes-itself, AreLanes-zip2, AreLanes-splat, AreLanes-same, lane-fits, less_half-is}
use Rattle.mask_bits.proofs.extract.two_words.close_up.Goals as goal

pub returns : goal.returns
returns c =
    let own = AreLanes-itself 16 c.args.bits c.fits-bits.0 in
    let here = AreLanes-splat 16 (1 * 2 ^ c.args.place % 2 ^ 8) in
    let without = λ (a b : ℕ). (a + (2 ^ 8 - b)) % 2 ^ 8 in
    let from_here = AreLanes-zip2 without (AreLanes-zip2 bit_and (AreLanes-itself 16 c.args.masks c.fits-masks.0) here) here in
    AreLanes-same (AreLanes-zip2 without own (AreLanes-zip2 (λ (a b : ℕ). a / 2 ^ b) (AreLanes-zip2 bit_and own from_here) (AreLanes-splat 16 1)))
    (λ j h. less_half-is c.args.place (get_or c.args.masks j 0) (get_or c.args.bits j 0) (omega (arith, c.requires.place)) (lane-fits c.args.bits 16 j c.fits-bits.0 c.fits-bits.1 h) (c.requires.free j h))
