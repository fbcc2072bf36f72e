use Rattle.mask_bits.proofs.Common.{arith}
use Rattle.mask_bits.specs.Nullable.{combined_nullable}
use Rattle.mask_bits.specs.NullableBuffer.{nullable_values}
use Rattle.mask_bits.proofs.CombineLemmas.{take_back}
use Rattle.mask_bits.proofs.NullableBufferLemmas.{made-list, made-len, made-cleared}
use Rattle.mask_bits.proofs.nullable.combined_by_table.Goals as goal

pub returns-clause-list : goal.returns-clause-list
returns-clause-list g c = made-list _ _ _ (combined_nullable g.C.KleeneOp.table (nullable_values c.args.a.now) (nullable_values c.args.b.now)) c.with_validity.ensures (grind (arith, take_back, c.write_by_table.ensures.values)) (grind (arith, take_back, c.write_by_table.ensures.validity))

pub returns-clause-len : goal.returns-clause-len
returns-clause-len g c = made-len _ g.C.KleeneOp.table _ _ c.requires (returns-clause-list g c)

pub returns-clause-cleared : goal.returns-clause-cleared
returns-clause-cleared g c = made-cleared _ _ _ (combined_nullable g.C.KleeneOp.table (nullable_values c.args.a.now) (nullable_values c.args.b.now)) c.with_validity.ensures (grind (arith, take_back, c.write_by_table.ensures.values)) (grind (arith, take_back, c.write_by_table.ensures.validity))
