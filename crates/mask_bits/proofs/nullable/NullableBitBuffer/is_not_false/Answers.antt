use Rattle.mask_bits.proofs.Lists.NullableLemmas.{not_false-both, not_false-somes}
use Rattle.mask_bits.proofs.NullableBufferLemmas.{length-nullable_values, cloned-list, cloned-len, combined-len}
use Rattle.mask_bits.proofs.nullable.NullableBitBuffer.is_not_false.Goals as goal

pub returns-in-Some-clause-list : goal.returns-in-Some-clause-list
returns-in-Some-clause-list c = rw (← c.self.view_is, c.in-Some.is, not_false-both) c.combined_buffer.ensures

pub returns-in-Some-clause-len : goal.returns-in-Some-clause-len
returns-in-Some-clause-len c = rw (← c.self.view_is, length-nullable_values _ _ c.self.invariant) (combined-len _ _ _ _ (c.self.invariant _ c.in-Some.is) c.combined_buffer.ensures)

pub returns-in-None-clause-list : goal.returns-in-None-clause-list
returns-in-None-clause-list c = rw (← c.self.view_is, c.in-None.is, not_false-somes) (cloned-list _ _ c.clone.ensures)

pub returns-in-None-clause-len : goal.returns-in-None-clause-len
returns-in-None-clause-len c = rw (← c.self.view_is, length-nullable_values _ _ c.self.invariant) (cloned-len _ _ c.clone.ensures)
