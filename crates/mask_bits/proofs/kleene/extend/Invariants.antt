use Rattle.mask_bits.proofs.Common.{◌*◌}
use Rattle.mask_bits.specs.Kleene.{value_at, IsOfTable}
use Rattle.mask_bits.proofs.kleene.extend.Given as goal

-- the words before are written
abbrev pub invariant-loop-i : goal.invariant-loop-i
invariant-loop-i g l = IsOfTable g.C.KleeneOp.table (value_at l.a) (value_at l.b) l.values l.validity (64 * l.i)
