use Rattle.mask_bits.proofs.Lists.NullableLemmas.{true-both, plain_is_true}
use Rattle.mask_bits.proofs.NullableBufferLemmas.{length-nullable_values, cloned-list, cloned-len}
use Rattle.mask_bits.proofs.nullable.NullableBitBuffer.is_true.Goals as goal

pub returns-in-Some-clause-list : goal.returns-in-Some-clause-list
returns-in-Some-clause-list c = rw (← c.self.view_is, c.in-Some.is, true-both) c.bitand.ensures.list

pub returns-in-Some-clause-len : goal.returns-in-Some-clause-len
returns-in-Some-clause-len c = rw (← c.self.view_is, length-nullable_values _ _ c.self.invariant) c.bitand.ensures.len

pub returns-in-None-clause-list : goal.returns-in-None-clause-list
returns-in-None-clause-list c = rw (← c.self.view_is, c.in-None.is, plain_is_true) (cloned-list _ _ c.clone.ensures)

pub returns-in-None-clause-len : goal.returns-in-None-clause-len
returns-in-None-clause-len c = rw (← c.self.view_is, length-nullable_values _ _ c.self.invariant) (cloned-len _ _ c.clone.ensures)
