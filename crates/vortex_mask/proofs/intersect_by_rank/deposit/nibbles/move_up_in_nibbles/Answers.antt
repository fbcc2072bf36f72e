use Rattle.vortex_mask.proofs.Common.{◌+◌, ◌*◌, ◌%◌, ◌^◌, bit_and, bit_or, get_or, AreLanes-itself, AreLanes-zip2, AreLanes-splat, AreLanes-same}
use Rattle.vortex_mask.proofs.Deposits.LaneLemmas.{EachLane-fits}
use Rattle.vortex_mask.proofs.Deposits.NibbleLemmas.{moved_in_nibbles}
use Rattle.vortex_mask.proofs.intersect_by_rank.deposit.nibbles.move_up_in_nibbles.Goals as goal

pub returns : goal.returns
returns c =
    let own = AreLanes-itself 16 c.args.bits c.fits-bits.0 in
    let moves = c.moves_of-moves.ensures in
    let moved = AreLanes-zip2 bit_or (AreLanes-zip2 bit_and own moves.stay) (AreLanes-zip2 (λ a b. a * 2 ^ b % 2 ^ 8) (AreLanes-zip2 bit_and own moves.by_two) (AreLanes-splat 16 2)) in
    AreLanes-same (AreLanes-zip2 (λ a b. (a + b) % 2 ^ 8) moved (AreLanes-zip2 bit_and moved moves.by_one))
    (λ j h.
    moved_in_nibbles (get_or c.args.masks.lower j 0) (get_or c.args.masks.upper j 0) (get_or c.args.bits j 0) (c.requires.lower.small j h) (c.requires.upper.small j h)
    (EachLane-fits c.args.bits c.fits-bits.0 c.fits-bits.1 j h))
