use Rattle.mask_bits.proofs.Lists.NullableLemmas.{null-both, null-somes}
use Rattle.mask_bits.proofs.NullableBufferLemmas.{length-nullable_values, repeated-len}
use Rattle.mask_bits.proofs.nullable.NullableBitBuffer.is_null.Goals as goal

pub returns-in-Some-clause-list : goal.returns-in-Some-clause-list
returns-in-Some-clause-list c = rw (← c.self.view_is, c.in-Some.is, null-both _ _ (c.self.invariant _ c.in-Some.is)) c.not.ensures.list

pub returns-in-Some-clause-len : goal.returns-in-Some-clause-len
returns-in-Some-clause-len c = rw (← c.self.view_is, length-nullable_values _ _ c.self.invariant, ← c.self.invariant _ c.in-Some.is) c.not.ensures.len

pub returns-in-None-clause-list : goal.returns-in-None-clause-list
returns-in-None-clause-list c = rw (← c.self.view_is, c.in-None.is, null-somes, ← c.len.ensures) c.new_unset.ensures

pub returns-in-None-clause-len : goal.returns-in-None-clause-len
returns-in-None-clause-len c = rw (← c.self.view_is, length-nullable_values _ _ c.self.invariant, ← c.len.ensures) (repeated-len _ _ _ c.new_unset.ensures)
