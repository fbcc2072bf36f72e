use Rattle.mask_bits.proofs.Common.{List, Bool, ◌∙◌, arith, repeated}
use Rattle.mask_bits.proofs.Lists.CountLemmas.{length-repeated}
use Rattle.mask_bits.proofs.BuilderLemmas.{room-appended}
use Rattle.mask_bits.proofs.buffer_mut.BitBufferMut.append_n.Goals as goal

pub invariant_of-self-2 : goal.invariant_of-self-2
invariant_of-self-2 c =
    let m : List Bool = repeated c.args.n c.args.value in
    room-appended c.deref_mut.result.now c.put_same.new.bytes _ c.self.inside.len _ _ m (omega (arith, length-repeated c.args.n c.args.value)) c.deref_mut.ensures.len
    (c.put_same.auto.bytes ∙ c.deref_mut.ensures.len) c.make_room.ensures.whole c.in_ok-make_room.ensures.room c.put_same.ensures
