use Rattle.mask_bits.proofs.Common.{◌∙◌, ap, sym, map, set, map-set}
use Rattle.mask_bits.proofs.common_indices.copy_to.Goals as goal

pub returns-clause-written : goal.returns-clause-written
returns-clause-written g c =
    let row = g.N.RowIndex.row_number in
    ap (map row) c.put.ensures ∙ map-set row c.args.items.now c.args.to c.item-index.result ∙ ap (set (map row c.args.items.now) c.args.to) (sym c.get.ensures)
