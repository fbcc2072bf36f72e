use Rattle.mask_c.proofs.Common.{◌+◌, ◌-◌, length, map, slice_range, Some, sym, ap, ap₂, ◌∙◌, arith, length-map}
use Rattle.mask_c.proofs.StringLemmas.{slice_get-sizes, slice_get-strings}
use Rattle.mask_c.proofs.offsets.string_at.Goals as goal

pub returns-clause-ordered : goal.returns-clause-ordered
returns-clause-ordered g c =
    let i = c.args.i in
    omega (arith, c.offset_at.ensures, c.offset_at-2.ensures, c.requires.ascending i (i + 1) 0 (omega arith) (omega (arith, c.requires.within, length-map c.args.offsets.now g.O.Offset.number)))

pub returns-clause-covered : goal.returns-clause-covered
returns-clause-covered g c =
    let last = length c.args.offsets.now - 1 in
    omega (arith, c.offset_at-2.ensures, c.requires.ascending (c.args.i + 1) last 0 (omega (arith, c.requires.within)) (omega (arith, c.requires.within, length-map c.args.offsets.now g.O.Offset.number)))

pub returns-clause-size : goal.returns-clause-size
returns-clause-size g c =
    slice_get-sizes (map g.O.Offset.number c.args.offsets.now) c.args.i (omega (arith, c.requires.within, length-map c.args.offsets.now g.O.Offset.number))
    ∙ ap Some (sym (ap₂ (λ a b. b - a) c.offset_at.ensures c.offset_at-2.ensures))

pub returns-clause-string : goal.returns-clause-string
returns-clause-string g c = λ bytes.
    slice_get-strings (map g.O.Offset.number c.args.offsets.now) bytes c.args.i (omega (arith, c.requires.within, length-map c.args.offsets.now g.O.Offset.number))
    ∙ ap Some (sym (ap₂ (slice_range bytes) c.offset_at.ensures c.offset_at-2.ensures))
