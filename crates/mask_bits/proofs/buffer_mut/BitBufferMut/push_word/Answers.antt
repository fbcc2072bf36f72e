use Rattle.mask_bits.proofs.Common.{List, Bool, take, ◌∙◌, arith, word_bits, length-take}
use Rattle.mask_bits.proofs.BuilderLemmas.{room-appended}
use Rattle.mask_bits.proofs.Lists.Words.WordLemmas.{length-word_bits}
use Rattle.mask_bits.proofs.buffer_mut.BitBufferMut.push_word.Goals as goal

pub invariant_of-self-2 : goal.invariant_of-self-2
invariant_of-self-2 c =
    let m : List Bool = take c.args.count (word_bits c.args.word) in
    room-appended c.deref_mut.result.now c.put_word.new.bytes _ c.self.inside.len _ _ m (omega (arith, length-take c.args.count (word_bits c.args.word), length-word_bits c.args.word, c.requires.few)) c.deref_mut.ensures.len
    (c.put_word.auto.bytes ∙ c.deref_mut.ensures.len) c.make_room.ensures.whole c.in_ok-make_room.ensures.room c.put_word.ensures
