use Rattle.mask_bits.proofs.Common.{refl}
use Rattle.std.proofs.lemmas.Option.{none-some}
use Rattle.mask_bits.proofs.CombineLemmas.{within-parts}
use Rattle.mask_bits.proofs.Lists.NullableLemmas.{length-both, length-somes}
use Rattle.mask_bits.proofs.NullableBufferLemmas.{bitmap-both, bitmap-alone, length-nullable_values, within-lent}
use Rattle.mask_bits.proofs.nullable.NullableBitBuffer.bitmap.Goals as goal

pub returns-in-Some-clause-list : goal.returns-in-Some-clause-list
returns-in-Some-clause-list c =
    rw (← c.self.view_is, c.in-Some.is) (bitmap-both c.self.inside.values c.in-Some.validity _ _ _ _ _ c.bits.ensures.bytes c.offset.ensures c.bits-in-Some.ensures.bytes c.offset-in-Some.ensures (c.self.invariant _ c.in-Some.is) (length-both _ _ (c.self.invariant _ c.in-Some.is)))

pub returns-in-Some-clause-within : goal.returns-in-Some-clause-within
returns-in-Some-clause-within c =
    rw (← c.self.view_is, length-nullable_values _ _ c.self.invariant) (record {
      values = within-parts c.self.inside.values _ _ _ c.bits.ensures.within c.offset.ensures refl;
      validity = rw (← c.self.invariant _ c.in-Some.is) (within-lent c.in-Some.validity _ _ c.bits-in-Some.ensures.within c.offset-in-Some.ensures);
    })

pub returns-in-None-clause-list : goal.returns-in-None-clause-list
returns-in-None-clause-list c =
    rw (← c.self.view_is, c.in-None.is) (bitmap-alone c.self.inside.values _ _ _ c.bits.ensures.bytes c.offset.ensures (length-somes _))

pub returns-in-None-clause-within : goal.returns-in-None-clause-within
returns-in-None-clause-within c =
    rw (← c.self.view_is, length-nullable_values _ _ c.self.invariant) (record {
      values = within-parts c.self.inside.values _ _ _ c.bits.ensures.within c.offset.ensures refl;
      validity = λ v is. absurd (none-some _ is);
    })
