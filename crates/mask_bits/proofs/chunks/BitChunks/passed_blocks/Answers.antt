use Rattle.mask_bits.proofs.Common.{Bool, List, ◌≡◌, ◌+◌, ◌*◌, ◌≤◌, ap, ◌∙◌, slice_range, arith, Packed, values, count}
use Rattle.mask_bits.proofs.BufferLemmas.{len-of_list, values-part}
use Rattle.mask_bits.proofs.Lists.Places.SelectLemmas.{count-part_further}
use Rattle.mask_bits.proofs.chunks.BitChunks.passed_blocks.Goals as goal

pub loop-word-preserved : goal.loop-word-preserved
loop-word-preserved c =
    let m = c.args.self.now in
    let b : Packed = record { bytes = c.self.inside.bytes.now; offset = c.self.inside.offset; len = c.self.inside.len } in
    let word = c.loop-word.word in
    let next : 64 * (word + 64) ≡ 64 * word + 4096 = omega arith in
    let within : 64 * word + 4096 ≤ b.len = omega (arith, c.loop-word-test.true) in
    let ones : c.count_bits-ones.result ≡ count (slice_range m (64 * word) (64 * word + 4096))
    = c.count_bits-ones.ensures ∙ ap (λ n. count (values (record b { offset = b.offset + 64 * word; len = n }))) (omega arith) ∙ ap count (values-part b (64 * word) (64 * word + 4096) (omega arith) within ∙ ap (λ (xs : List Bool). slice_range xs (64 * word) (64 * word + 4096)) c.self.view_is) in
    grind (arith, len-of_list, count-part_further)
