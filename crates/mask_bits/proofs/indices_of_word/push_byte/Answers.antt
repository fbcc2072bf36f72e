use Rattle.mask_bits.proofs.Common.{ℕ, ◌+◌, length, map, ap, arith, length-append, length-map, ones-le, take-append-add}
use Rattle.mask_bits.proofs.ByteLemmas.{indices-listed}
use Rattle.mask_bits.proofs.indices_of_word.push_byte.Goals as goal

pub truncate-requires : goal.truncate-requires
truncate-requires g c =
    let f : ℕ → g.row.N.Denot = λ p. g.N.RowIndex.index_of (c.args.base + p) in
    omega (arith, c.count-before.ensures.count, ap length c.push_places.ensures.items, length-append (g.R.Room.items c.args.indices.now) (map f c.places_of.result), length-map c.places_of.result f, c.places_of.ensures.lanes, ones-le 8 c.args.byte c.ranges.byte.fits)

pub returns-clause-items : goal.returns-clause-items
returns-clause-items g c =
    let listed = indices-listed g.N.RowIndex.index_of c.args.base c.args.byte c.places_of.result (omega arith) c.places_of.ensures.lanes c.places_of.ensures.places in
    grind (arith, take-append-add, listed)
