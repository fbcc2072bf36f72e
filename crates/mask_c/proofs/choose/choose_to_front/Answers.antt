use Rattle.mask_c.proofs.Common.{ap, ◌∙◌, length, arith, length-take, chosen, length-chosen}
use Rattle.mask_c.proofs.choose.choose_to_front.Goals as goal

pub returns : goal.returns
returns g c =
    let rows = c.args.rows.now in
    let room = c.choose_rows.new.out in
    let front = c.choose_rows.ensures.rows ∙ ap (chosen rows) c.new-chunks.ensures.list in
    let same = ap (λ k. k.0) c.choose_rows.ensures.kept in
    record {
      front = grind (arith, front, same);
      counted = grind (arith, ap length c.choose_rows.ensures.rows, length-take room.at room.out.now, room.within, length-chosen rows c.new-chunks.result, c.new-chunks.ensures);
    }
