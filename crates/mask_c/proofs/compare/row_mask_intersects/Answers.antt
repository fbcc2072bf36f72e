use Rattle.mask_c.proofs.Common.{◌&&◌, sym, ◌∙◌, bitmap, and_of, length-combined, length-bitmap}
use Rattle.mask_c.proofs.BitmapLemmas.{some_from_none}
use Rattle.mask_c.proofs.compare.row_mask_intersects.Goals as goal

pub returns : goal.returns
returns c =
    let a = bitmap c.args.a.now c.args.a_offset c.args.len in
    let b = bitmap c.args.b.now c.args.b_offset c.args.len in
    let len_a = length-bitmap c.args.a.now c.args.a_offset c.args.len in
    let len_b = length-bitmap c.args.b.now c.args.b_offset c.args.len in
    some_from_none c.none_true.result (and_of a b) c.args.len (length-combined (λ x y. x && y) a b (len_a ∙ sym len_b) ∙ len_a) c.none_true.ensures
