use Rattle.mask_bits.proofs.Common.{◌*◌, ◌/◌, ◌<◌, ◌≤◌, length, arith}
use Rattle.mask_bits.proofs.BufferLemmas.{len-of_list}
use Rattle.mask_bits.proofs.CountBeforeLemmas.{count_below-few, count_below-part}
use Rattle.mask_bits.proofs.ranks.Ranks.count_below.Goals as goal
use Rattle.std.proofs.lemmas.List.{get_or_read}

pub returns : goal.returns
returns c =
    let b = c.self.inside.buffer in
    let block = c.args.n / 512 in
    let within : c.args.n ≤ b.len = omega (arith, len-of_list b c.self.view_is) in
    let there : block < length c.self.inside.before.items = grind (arith, c.self.invariant.len, c.self.view_is) in
    let here = get_or_read c.self.inside.before.items block c.index.result.now there c.index.ensures 0 in
    grind (arith, here, c.self.view_is, c.self.invariant.each block there, count_below-part b (512 * block) c.args.n (omega arith) within)

pub overflow_add-result : goal.overflow_add-result
overflow_add-result c = omega (arith, returns c, count_below-few c.args.self.now c.args.n)
