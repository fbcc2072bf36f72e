use Rattle.mask_c.proofs.Common.{map, slice_set, ap, ◌∙◌, map-set}
use Rattle.mask_c.proofs.offsets.set_offset.Goals as goal

pub returns : goal.returns
returns g c =
    let ns = map g.O.Offset.number c.args.offsets.now in
    ap (map g.O.Offset.number) c.put.ensures ∙ map-set g.O.Offset.number c.args.offsets.now c.args.i c.of.result ∙ ap (slice_set ns c.args.i) c.of.ensures
