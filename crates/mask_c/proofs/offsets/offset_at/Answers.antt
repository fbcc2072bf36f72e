use Rattle.mask_c.proofs.Common.{map, ap, sym, ◌∙◌, get_or_from_slice_get, option_map, slice_get-map}
use Rattle.mask_c.proofs.offsets.offset_at.Goals as goal

pub returns : goal.returns
returns g c =
    let ns = map g.O.Offset.number c.args.offsets.now in
    c.get.ensures ∙ sym (get_or_from_slice_get ns c.args.i _ 0 (slice_get-map g.O.Offset.number c.args.offsets.now c.args.i ∙ ap (option_map g.O.Offset.number) c.item.ensures))
