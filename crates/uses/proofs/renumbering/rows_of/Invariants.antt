use Rattle.std.proofs.Common.{◌≡◌, Some, map, slice_get, take}
use Rattle.mask_bits.specs.Buffer.{values}
use Rattle.mask_bits.specs.Positions.{positions}
use Rattle.uses.proofs.renumbering.rows_of.Given as goal

-- the rows with the numbers so far
abbrev pub invariant-loop-number : goal.invariant-loop-number
invariant-loop-number l = map Some l.rows.items ≡ map (slice_get (positions (values l.fn.kept))) (take l.number-index l.numbers)
