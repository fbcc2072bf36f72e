use Rattle.vortex_mask.proofs.Common.{◌≡◌, ◌+◌, ◌-◌, ◌*◌, ◌%◌, ◌<◌, ◌^◌, ap, ◌∙◌, bit_and, bit_or, arith, lt_of_le_of_lt, mod-eq_of_lt, subst, ℕ, get_or, and_le_r, shl_below, shifts_fit_splat, moved_up, AreLanes-itself, AreLanes-map, AreLanes-zip2, AreLanes-splat, AreLanes-same}
use Rattle.vortex_mask.proofs.Deposits.NetworkLemmas.{shift_is, shift_small}
use Rattle.vortex_mask.proofs.intersect_by_rank.deposit.bytewise.move_up.Goals as goal

pub overflow_shl-result-2 : goal.overflow_shl-result-2
overflow_shl-result-2 c = shifts_fit_splat 8 _ 16 _ (omega (arith, shift_is c.args.stage c.requires.stage, shift_small c.args.stage c.requires.stage))

pub returns : goal.returns
unfolding moved_up
returns c =
    let w = c.args.lanes in
    let l = c.args.landed in
    let s = 2 ^ c.args.stage in
    let e : 8 - s + s ≡ 8 = omega (arith, shift_small c.args.stage c.requires.stage) in
    let moving = λ (j : ℕ). bit_and (get_or w j 0) (get_or l j 0) in
    let wl = AreLanes-itself 16 w c.fits-lanes.0 in
    let ll = AreLanes-itself 16 l c.fits-landed.0 in
    AreLanes-same
    (AreLanes-zip2 bit_or (AreLanes-zip2 bit_and wl (AreLanes-map (λ a. 255 - a) ll)) (AreLanes-zip2 (λ a b. a * 2 ^ b % 2 ^ 8) (AreLanes-zip2 bit_and wl ll) (AreLanes-splat 16 _)))
    (λ j h.
    let room : moving j < 2 ^ (8 - s) = lt_of_le_of_lt (and_le_r (get_or w j 0) (get_or l j 0)) (c.requires.room j h) in
    let fits : moving j * 2 ^ s < 2 ^ 8 = subst (λ n. moving j * 2 ^ s < 2 ^ n) e (shl_below (moving j) (8 - s) s room) in
    ap (bit_or (bit_and (get_or w j 0) (255 - get_or l j 0))) (ap (λ t. moving j * 2 ^ t % 2 ^ 8) (shift_is c.args.stage c.requires.stage) ∙ mod-eq_of_lt fits))
