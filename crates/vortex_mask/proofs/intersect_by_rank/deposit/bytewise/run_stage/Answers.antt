use Rattle.vortex_mask.proofs.Common.{◌-◌, ◌/◌, ◌^◌, ℕ, ap, bit_and, bit_xor, arith, get_or, shifts_fit_splat, moved_down, with_moved, halved, odd_places, AreLanes-itself, AreLanes-map, AreLanes-zip2, AreLanes-splat, AreLanes-same}
use Rattle.vortex_mask.proofs.Deposits.NetworkLemmas.{shift_is, shift_small}
use Rattle.vortex_mask.proofs.intersect_by_rank.deposit.bytewise.run_stage.Goals as goal

pub overflow_shr-landed : goal.overflow_shr-landed
overflow_shr-landed c = shifts_fit_splat 8 _ 16 _ (omega (arith, shift_is c.args.stage c.requires, shift_small c.args.stage c.requires))

pub overflow_shr-result : goal.overflow_shr-result
overflow_shr-result c = shifts_fit_splat 8 _ 16 _ (omega (arith, shift_is c.args.stage c.requires, shift_small c.args.stage c.requires))

pub returns-clause-landed : goal.returns-clause-landed
unfolding moved_down
returns-clause-landed c =
    AreLanes-same (AreLanes-zip2 (λ a b. a / 2 ^ b) (AreLanes-zip2 bit_and (AreLanes-itself 16 c.args.packed c.fits-packed.0) c.odd_zeros-odd.ensures) (AreLanes-splat 16 _))
    (λ j h. ap (λ t. bit_and (get_or c.args.packed j 0) (odd_places (2 ^ c.args.stage) (get_or c.args.zeros j 0)) / 2 ^ t) (shift_is c.args.stage c.requires))

pub returns-clause-packed : goal.returns-clause-packed
unfolding with_moved
returns-clause-packed c =
    let own = AreLanes-itself 16 c.args.packed c.fits-packed.0 in
    AreLanes-zip2 bit_xor own (AreLanes-zip2 bit_xor (AreLanes-zip2 bit_and own c.odd_zeros-odd.ensures) (returns-clause-landed c))

pub returns-clause-zeros : goal.returns-clause-zeros
unfolding halved
returns-clause-zeros c =
    let odd = λ (j : ℕ). odd_places (2 ^ c.args.stage) (get_or c.args.zeros j 0) in
    let even = AreLanes-zip2 bit_and (AreLanes-itself 16 c.args.zeros c.fits-zeros.0) (AreLanes-map (λ a. 255 - a) c.odd_zeros-odd.ensures) in
    AreLanes-same (AreLanes-zip2 bit_xor even (AreLanes-zip2 (λ a b. a / 2 ^ b) even (AreLanes-splat 16 _)))
    (λ j h.
    let e = bit_and (get_or c.args.zeros j 0) (255 - odd j) in
    ap (λ t. bit_xor e (e / 2 ^ t)) (shift_is c.args.stage c.requires))
