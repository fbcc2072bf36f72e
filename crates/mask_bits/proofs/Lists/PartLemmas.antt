-- Parts of parts, and of lists one after another.
use Rattle.mask_bits.proofs.Common.{◌≡◌, ℕ, ◌-◌, ◌≤◌, Bool, drop, slice_range, arith, take-take, drop-take, take-append-le, drop-append-le, drop_all, drop-replicate, take-replicate, flat_map-append, repeated, drop-drop, take_all}
use Rattle.mask_bits.specs.Laws.Parts.{PartOfPart, PartOfConcat}

pub part_of_part : PartOfPart
part_of_part m s e t u within = grind (arith, drop-take t (e - s - t) (drop s m), take-take, drop-drop)

pub part_of_concat : PartOfConcat
part_of_concat before after m = grind (arith, flat_map-append, drop-append-le, drop_all, take-append-le, take_all)

-- a part of a list of one value
pub part_of_repeated : (n : ℕ) (v : Bool) (s e : ℕ) → s ≤ e → e ≤ n → slice_range (repeated n v) s e ≡ repeated (e - s) v
unfolding repeated
part_of_repeated n v s e ordered within = grind (arith, drop-replicate, take-replicate)
