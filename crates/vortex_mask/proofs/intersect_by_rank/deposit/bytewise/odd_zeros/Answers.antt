use Rattle.vortex_mask.proofs.Common.{◌+◌, ◌-◌, ◌*◌, ◌%◌, ◌^◌, ap, ◌∙◌, sym, arith, bit_xor, get_or, shifts_fit_splat, AreLanes-itself, AreLanes-zip2, AreLanes-splat}
use Rattle.vortex_mask.proofs.Deposits.LaneLemmas.{EachLane-fits}
use Rattle.vortex_mask.proofs.Deposits.NetworkLemmas.{doubled, doubled-more, doubled-all, doubled-is, shift_is, shift_small}
use Rattle.vortex_mask.proofs.intersect_by_rank.deposit.bytewise.odd_zeros.Goals as goal

pub overflow_shl-parity-in-loop-doubling : goal.overflow_shl-parity-in-loop-doubling
overflow_shl-parity-in-loop-doubling c = shifts_fit_splat 8 _ 16 _ (omega (arith, shift_is c.loop-doubling.doubling (omega arith), shift_small c.loop-doubling.doubling (omega arith)))

pub loop-doubling-preserved : goal.loop-doubling-preserved
loop-doubling-preserved c =
    let p = c.loop-doubling.parity in
    let d = c.loop-doubling.doubling in
    let own = AreLanes-itself 16 p c.loop-doubling.invariant.0 in
    let next = AreLanes-zip2 bit_xor own (AreLanes-zip2 (λ a b. a * 2 ^ b % 2 ^ 8) own (AreLanes-splat 16 (1 * 2 ^ d % 2 ^ 8))) in (
      next.lanes,
      λ j h.
          ap (doubled (3 - (d + 1)) (d + 1)) (next.each j h ∙ ap (λ t. bit_xor (get_or p j 0) (get_or p j 0 * 2 ^ t % 2 ^ 8)) (shift_is d (omega arith)))
          ∙ sym (doubled-more d (get_or p j 0) (omega arith)) ∙ c.loop-doubling.invariant.1 j h,
    )

pub returns : goal.returns
returns c =
    let p = c.loop-doubling.parity in
    let z = c.args.zeros in
    record {
      lanes = c.loop-doubling.invariant.0;
      each = λ j h.
          sym (doubled-all c.loop-doubling.doubling (get_or p j 0) (omega arith)) ∙ c.loop-doubling.invariant.1 j h
          ∙ doubled-is c.args.stage (get_or z j 0) c.requires (EachLane-fits z c.fits-zeros.0 c.fits-zeros.1 j h);
    }
