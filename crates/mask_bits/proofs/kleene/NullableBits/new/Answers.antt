use Rattle.std.proofs.Common.{refl}
use Rattle.mask_bits.proofs.KleeneLemmas.{values_present, values_absent}
use Rattle.mask_bits.proofs.kleene.NullableBits.new.Goals as goal

pub returns-in-Some-clause-list : goal.returns-in-Some-clause-list
returns-in-Some-clause-list c = λ n k below.
    values_present (record { values = c.new-values.result; validity = c.new.result; valid = 0 }) c.args.list c.in-Some.validity n k c.in-Some.is
    c.new-values.ensures.bytes c.new-values.ensures.low c.new.ensures.bytes c.new.ensures.low refl below

pub returns-in-None-clause-list : goal.returns-in-None-clause-list
returns-in-None-clause-list c = λ n k below.
    values_absent (record { values = c.new-values.result; validity = c.new-values.result; valid = 18446744073709551615 }) c.args.list n k c.in-None.is
    c.new-values.ensures.bytes c.new-values.ensures.low refl below
