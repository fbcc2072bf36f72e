use Rattle.mask_c.proofs.Common.{Bool, List, ◌-◌, get_or, ap, ◌∙◌, unwrap_or-slice_get, unwrap_or, positions, count}
use Rattle.mask_c.proofs.indices.row_mask_last_index.Goals as goal

pub returns : goal.returns
returns c =
    let m = c.new.result in
    c.unwrap_or.ensures ∙ ap (λ o. unwrap_or o c.args.len) c.last_set_index.ensures.index ∙ unwrap_or-slice_get (positions m) (count m - 1) c.args.len
    ∙ ap (λ (xs : List Bool). get_or (positions xs) (count xs - 1) c.args.len) c.new.ensures.list
