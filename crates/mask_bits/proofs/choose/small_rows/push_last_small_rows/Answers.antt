use Rattle.mask_bits.proofs.Common.{◌^◌, ◌<◌, ◌∙◌, length, arith}
use Rattle.mask_bits.proofs.ByteRowLemmas.{count-sixteen_more, part-pushed, within-sixteen_more}
use Rattle.mask_bits.proofs.choose.small_rows.push_last_small_rows.Goals as goal

pub loop-j-preserved : goal.loop-j-preserved
loop-j-preserved g c =
    let rows = c.args.rows.now in
    let left = c.loop-j.left in
    let j = c.loop-j.j in
    let so_far = c.loop-j.invariant in
    let fits : left < 2 ^ 64 = omega (arith, c.loop-j.auto.left-fits) in
    record {
      items = part-pushed rows _ (g.R.Room.items c.loop-j.out) (g.R.Room.items c.push_sixteen_or_fewer.new.out) left j fits (omega (arith, c.loop-j-test.true)) so_far.items c.push_sixteen_or_fewer.ensures.rows;
      counted = omega (arith, c.push_sixteen_or_fewer.ensures.len, count-sixteen_more left fits, so_far.counted);
      within = within-sixteen_more left j (length rows) fits so_far.within;
      kept = c.push_sixteen_or_fewer.ensures.kept ∙ so_far.kept;
    }
