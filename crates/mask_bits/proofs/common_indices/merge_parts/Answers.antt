use Rattle.mask_bits.proofs.Common.{◌-◌, ◌∙◌, drop, length, length-drop, take_all, ap, sym, arith, map, take-map, drop-map}
use Rattle.mask_bits.proofs.Lists.CommonLemmas.{found-same, part-first, part-last}
use Rattle.mask_bits.proofs.common_indices.merge_parts.Goals as goal

pub returns-clause-first : goal.returns-clause-first
returns-clause-first g c =
    let row = g.N.RowIndex.row_number in
    let new = c.merge_both.new in
    found-same _ _ _ _ _ _ _ (ap (map row) c.split_at_mut-first.ensures.front ∙ sym (take-map row c.args.at c.args.list.now)) (sym (take-map row c.args.place c.args.other.now)) (part-first row new.first new.last c.args.at (omega (arith, c.merge_both.auto.first, c.split_at_mut-first.ensures.front_len))) c.merge_both.ensures.first

pub returns-clause-last : goal.returns-clause-last
returns-clause-last g c =
    let row = g.N.RowIndex.row_number in
    let new = c.merge_both.new in
    found-same _ _ _ _ _ _ _ (ap (map row) c.split_at_mut-first.ensures.back ∙ sym (drop-map row c.args.at c.args.list.now)) (ap (map row) (take_all (length c.args.other.now - c.args.place) (drop c.args.place c.args.other.now) (omega (arith, length-drop c.args.place c.args.other.now))) ∙ sym (drop-map row c.args.place c.args.other.now)) (part-last row new.first new.last c.args.at (omega (arith, c.merge_both.auto.first, c.split_at_mut-first.ensures.front_len))) c.merge_both.ensures.last
