use Rattle.mask_c.proofs.Common.{arith, length-take}
use Rattle.mask_c.proofs.FromIndicesLemmas.{list_from_set, clear_from_set}
use Rattle.mask_c.proofs.from_indices.row_mask_from_indices_4.Goals as goal

pub returns-clause-values : goal.returns-clause-values
returns-clause-values c =
    list_from_set c.set_alone.new.bytes _ c.args.indices.now c.args.len (grind (arith, length-take)) (λ p h. c.set_alone.ensures p (omega (arith, c.set_alone.auto.bytes)))

pub returns-clause-clear : goal.returns-clause-clear
returns-clause-clear c =
    clear_from_set c.set_alone.new.bytes _ c.args.indices.now c.args.len (grind (arith, length-take)) c.requires.within (λ p h. c.set_alone.ensures p (omega (arith, c.set_alone.auto.bytes)))
