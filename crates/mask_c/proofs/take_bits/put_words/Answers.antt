use Rattle.mask_c.proofs.Common.{◌+◌, ◌*◌, Bool, map, slice_range, arith, backing_bit, words-more}
use Rattle.mask_c.proofs.TakeBitsLemmas.{made-part}
use Rattle.mask_c.proofs.take_bits.put_words.Goals as goal

pub loop-i-preserved : goal.loop-i-preserved
loop-i-preserved g c =
    let indices = c.args.indices.now in
    let i = c.loop-i.i in
    let f : g.row.N.Denot → Bool = λ n. backing_bit c.args.bytes.now (c.args.offset + g.N.RowIndex.row_number n) in
    words-more c.loop-i.out c.set_word.new.bytes (map f indices) (map f (slice_range indices (64 * i) (64 * i + 64))) i c.word_of_indices-word.result
    c.loop-i.invariant c.set_word.ensures.here c.set_word.ensures.others c.word_of_indices-word.ensures
    (λ j h. made-part f indices (64 * i) (64 * i + 64) j (omega arith))
