use Rattle.vortex_mask.proofs.Common.{◌/◌, ◌^◌, bit_and, get_or, and_mask, AreLanes-itself, AreLanes-zip2, AreLanes-splat, AreLanes-same}
use Rattle.vortex_mask.proofs.intersect_by_rank.deposit.nibbles.nibbles_of.Goals as goal

pub returns-clause-lower : goal.returns-clause-lower
returns-clause-lower c = AreLanes-same (AreLanes-zip2 bit_and (AreLanes-itself 16 c.args.bytes c.fits-bytes.0) (AreLanes-splat 16 15)) (λ j h. and_mask (get_or c.args.bytes j 0) 4)

pub returns-clause-upper : goal.returns-clause-upper
returns-clause-upper c = AreLanes-zip2 (λ a b. a / 2 ^ b) (AreLanes-itself 16 c.args.bytes c.fits-bytes.0) (AreLanes-splat 16 4)
