use Rattle.mask_c.proofs.Common.{Bool, List, get_or, ap, ◌∙◌, unwrap_or-slice_get, unwrap_or, positions}
use Rattle.mask_c.proofs.indices.row_mask_select.Goals as goal

pub returns : goal.returns
returns c =
    let m = c.new.result in
    c.unwrap_or.ensures ∙ ap (λ o. unwrap_or o c.args.len) c.select.ensures.index ∙ unwrap_or-slice_get (positions m) c.args.n c.args.len
    ∙ ap (λ (xs : List Bool). get_or (positions xs) c.args.n c.args.len) c.new.ensures.list
