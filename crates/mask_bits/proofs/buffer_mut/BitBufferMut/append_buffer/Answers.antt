use Rattle.mask_bits.proofs.Common.{List, Bool, ◌∙◌, arith, values}
use Rattle.mask_bits.proofs.BufferLemmas.{length-values}
use Rattle.mask_bits.proofs.BuilderLemmas.{room-appended}
use Rattle.mask_bits.proofs.buffer_mut.BitBufferMut.append_buffer.Goals as goal

pub invariant_of-self-2 : goal.invariant_of-self-2
invariant_of-self-2 c =
    let m : List Bool = values (record { bytes = c.as_slice.result.now; offset = c.offset.result; len = c.len-n.result }) in
    room-appended c.deref_mut.result.now c.put_bits.new.bytes _ c.self.inside.len _ _ m (omega (arith, length-values (record { bytes = c.as_slice.result.now; offset = c.offset.result; len = c.len-n.result }))) c.deref_mut.ensures.len
    (c.put_bits.auto.bytes ∙ c.deref_mut.ensures.len) c.make_room.ensures.whole c.in_ok-make_room.ensures.room c.put_bits.ensures
