use Rattle.mask_bits.proofs.Common.{◌≡◌, ◌∙◌, List, ap, sym, subst, arith, map, drop, length, length-map, take-append-le, take-map, common, IsStrictlyIncreasing}
use Rattle.mask_bits.proofs.common_indices.put_common_of.Goals as goal

pub returns-clause-indices : goal.returns-clause-indices
returns-clause-indices g c = λ a b.
    let row = g.N.RowIndex.row_number in
    let kept : List g.row.N.Denot = c.move_found.new.list in
    let found = c.move_found.result in
    let copied : c.copy_from_slice.new.self ≡ c.args.list.now = c.copy_from_slice.ensures.after in
    ap (map row) (take-append-le found kept (drop (length c.args.list.now) c.args.out.now) (omega (arith, c.move_found.ensures.within, length-map kept row)))
    ∙ sym (take-map row found kept)
    ∙ c.move_found.ensures.found (subst IsStrictlyIncreasing (ap (map row) (sym copied)) a) b
    ∙ ap (λ zs. common (map row zs) (map row c.args.other.now)) copied
