use Rattle.vortex_mask.proofs.Common.{ℕ, ◌<◌, ◌-◌, sym, arith, ◌∙◌, get_or, AreLanes-itself, AreLanes-map}
use Rattle.vortex_mask.proofs.Deposits.LaneLemmas.{EachLane-fits}
use Rattle.vortex_mask.proofs.Deposits.NetworkLemmas.{packed_after-zero, packed_after-full, zeros_before-zero, stage}
use Rattle.vortex_mask.proofs.intersect_by_rank.deposit.bytewise.compress.Goals as goal

pub returns : goal.returns
returns c =
    let m = λ (j : ℕ). get_or c.args.mask j 0 in
    let byte = EachLane-fits c.args.mask c.fits-mask.0 c.fits-mask.1 in
    let not = AreLanes-map (λ a. 255 - a) (AreLanes-itself 16 c.args.mask c.fits-mask.0) in
    let one = c.run_stage-by_one.ensures in
    let two = c.run_stage-by_two.ensures in
    let four = c.run_stage-by_four.ensures in
    let first = λ (j : ℕ) (h : j < 16). stage 0 (m j) _ _ (omega arith) (byte j h) (sym (packed_after-zero (m j) (byte j h))) (not.each j h ∙ sym (zeros_before-zero (m j))) in
    let second = λ (j : ℕ) (h : j < 16). stage 1 (m j) _ _ (omega arith) (byte j h) (one.packed.each j h ∙ (first j h).0) (one.zeros.each j h ∙ (first j h).1) in
    let third = λ (j : ℕ) (h : j < 16). stage 2 (m j) _ _ (omega arith) (byte j h) (two.packed.each j h ∙ (second j h).0) (two.zeros.each j h ∙ (second j h).1) in
    record {
      places = record { lanes = four.packed.lanes; each = λ j h. four.packed.each j h ∙ (third j h).0 };
      full = record { lanes = four.packed.lanes; each = λ j h. four.packed.each j h ∙ (third j h).0 ∙ packed_after-full (m j) (byte j h) };
      landed_0 = record { lanes = one.landed.lanes; each = λ j h. one.landed.each j h ∙ (first j h).2 };
      landed_1 = record { lanes = two.landed.lanes; each = λ j h. two.landed.each j h ∙ (second j h).2 };
      landed_2 = record { lanes = four.landed.lanes; each = λ j h. four.landed.each j h ∙ (third j h).2 };
    }
