use Rattle.mask_bits.proofs.Common.{◌≡◌, ◌+◌, ◌*◌, ◌≤◌, get_or, ap, ◌∙◌, arith, values, count_below}
use Rattle.mask_bits.proofs.BufferLemmas.{length-values}
use Rattle.mask_bits.proofs.CountBeforeLemmas.{count_below-few, count_below-block, each-pushed}
use Rattle.mask_bits.proofs.ranks.Ranks.from_buffer.Goals as goal

pub overflow_add-count : goal.overflow_add-count
overflow_add-count c =
    let b = c.args.buffer in
    let block = c.loop-block.block in
    let within : 512 * block ≤ b.len = omega (arith, length-values b) in
    let more : c.loop-block.count + c.count_bits-count.result ≡ count_below (values b) (512 * (block + 1))
    = grind (arith, count_below-block b block within, length-values b) in
    omega (arith, more, count_below-few (values b) (512 * (block + 1)), length-values b, c.buffer.invariant.fits)

pub loop-block-preserved : goal.loop-block-preserved
loop-block-preserved c =
    let b = c.args.buffer in
    let block = c.loop-block.block in
    let within : 512 * block ≤ b.len = omega (arith, length-values b) in
    let more : c.loop-block.count + c.count_bits-count.result ≡ count_below (values b) (512 * (block + 1))
    = grind (arith, count_below-block b block within, length-values b) in
    let pushed = c.in_ok-push-2.ensures in
    record {
      len = grind (arith, pushed.len);
      each = λ i h. ap (λ xs. get_or xs i 0) pushed.items
          ∙ each-pushed (λ k. count_below (values b) (512 * k)) c.loop-block.before.items (c.loop-block.count + c.count_bits-count.result) block c.loop-block.invariant.len c.loop-block.invariant.each more i h;
      count = more;
    }
