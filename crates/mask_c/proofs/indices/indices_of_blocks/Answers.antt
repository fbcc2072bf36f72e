use Rattle.mask_c.proofs.Common.{◌≤◌, ◌+◌, ◌*◌, length, ◌∙◌, arith, bits_of_words}
use Rattle.mask_c.proofs.IndexLemmas.{block_done}
use Rattle.mask_c.proofs.indices.indices_of_blocks.Goals as goal

pub loop-i-preserved : goal.loop-i-preserved
loop-i-preserved g c =
    let m = c.args.chunks.now in
    let i = c.loop-i.i in
    let within : 256 * i + 256 ≤ length m = omega (arith, c.loop-i-test.true, c.len-blocks.ensures) in
    record {
      indices = block_done g.N.RowIndex.index_of m (bits_of_words c.block-words.result) c.args.from i _ _ within c.block-words.ensures c.loop-i.invariant.indices c.put_block.ensures.items;
      kept = c.put_block.ensures.kept ∙ c.loop-i.invariant.kept;
    }
