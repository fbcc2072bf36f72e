use Rattle.mask_bits.proofs.Common.{◌*◌, not, IsCombinedBetween}
use Rattle.mask_bits.proofs.combine.negate_in_place.Given as goal

-- the bytes before are negated
abbrev pub invariant-loop-i : goal.invariant-loop-i
invariant-loop-i l = IsCombinedBetween (λ x y. not x) l.initial.bytes l.initial.bytes l.bytes 0 0 (8 * l.i)
