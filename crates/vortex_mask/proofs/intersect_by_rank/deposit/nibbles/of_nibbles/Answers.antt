use Rattle.vortex_mask.proofs.Common.{◌+◌, ◌*◌, ◌%◌, ◌^◌, arith, get_or, AreLanes-itself, AreLanes-swz_l, SwzOk-lanes, AreLanes-zip2, AreLanes-splat, AreLanes-same}
use Rattle.vortex_mask.proofs.intersect_by_rank.deposit.nibbles.of_nibbles.Goals as goal

pub swizzle : goal.swizzle
swizzle c = SwzOk-lanes c.args.masks.lower (λ j. get_or c.args.masks.lower j 0) (AreLanes-itself 16 c.args.masks.lower c.requires.lower.lanes) c.requires.lower.small

pub swizzle-2 : goal.swizzle-2
swizzle-2 c = SwzOk-lanes c.args.masks.upper (λ j. get_or c.args.masks.upper j 0) (AreLanes-itself 16 c.args.masks.upper c.requires.upper.lanes) c.requires.upper.small

pub returns : goal.returns
returns c =
    let table = c.args.table in
    let lower = c.args.masks.lower in
    let upper = c.args.masks.upper in
    let moved = AreLanes-zip2 (λ a b. a * 2 ^ b % 2 ^ 8) (AreLanes-itself 16 table c.requires.table.lanes) (AreLanes-splat 16 4) in
    AreLanes-same
    (AreLanes-zip2 (λ a b. (a + b) % 2 ^ 8) (AreLanes-swz_l lower (λ j. get_or lower j 0) (AreLanes-itself 16 lower c.requires.lower.lanes) c.requires.lower.small table)
    (AreLanes-swz_l upper (λ j. get_or upper j 0) (AreLanes-itself 16 upper c.requires.upper.lanes) c.requires.upper.small _))
    (λ j h.
    let lo = get_or lower j 0 in
    let hi = get_or upper j 0 in
    omega (arith, moved.each hi (c.requires.upper.small j h), c.requires.table.small lo (c.requires.lower.small j h), c.requires.table.small hi (c.requires.upper.small j h)))
