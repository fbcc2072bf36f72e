use Rattle.mask_bits.proofs.Common.{arith, sym, values}
use Rattle.mask_bits.proofs.Lists.BooleanValueLemmas.{count_of_complement}
use Rattle.mask_bits.proofs.Lists.CountLemmas.{count-repeated_false}
use Rattle.mask_bits.proofs.Lists.NullableLemmas.{null-both, null-somes}
use Rattle.mask_bits.proofs.nullable.NullableBitBuffer.null_count.Goals as goal

pub returns-in-Some : goal.returns-in-Some
returns-in-Some c = rw (← c.self.view_is, c.in-Some.is, null-both _ _ (c.self.invariant _ c.in-Some.is)) (omega (arith, c.false_count.ensures, count_of_complement (values c.in-Some.validity)))

pub returns-in-None : goal.returns-in-None
returns-in-None c = rw (← c.self.view_is, c.in-None.is, null-somes) (sym (count-repeated_false _))
