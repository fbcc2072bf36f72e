use Rattle.mask_c.proofs.Common.{◌*◌, ◌/◌, ◌∙◌, arith, drop, drop_at, length-take}
use Rattle.std.specs.Option.{is_some}
use Rattle.mask_bits.specs.Nullable.{is_true}
use Rattle.mask_c.proofs.NullableLemmas.{written-table}
use Rattle.mask_c.proofs.nullable.write.Goals as goal

pub returns-clause-values : goal.returns-clause-values
returns-clause-values g c =
    c.put_remainder.ensures.list
    ∙ written-table is_true g.C.KleeneOp.table c.args.a c.args.b c.skip.result c.skip-2.result c.combine_kleene.new.values _ _ c.args.len
    (omega (arith, c.combine_kleene.auto.values, length-take (8 * (c.args.len / 64)) c.args.out.now, c.requires.room)) c.skip.ensures c.skip-2.ensures c.combine_kleene.ensures.values c.combine_kleene_word-last.ensures.values

pub returns-clause-validity : goal.returns-clause-validity
returns-clause-validity g c =
    c.put_remainder-2.ensures.list
    ∙ written-table is_some g.C.KleeneOp.table c.args.a c.args.b c.skip.result c.skip-2.result c.combine_kleene.new.validity _ _ c.args.len
    (omega (arith, c.combine_kleene.auto.validity, length-take (8 * (c.args.len / 64)) c.args.out_validity.now, c.requires.validity_room)) c.skip.ensures c.skip-2.ensures c.combine_kleene.ensures.validity c.combine_kleene_word-last.ensures.validity

pub returns-clause-behind : goal.returns-clause-behind
returns-clause-behind g c =
    c.put_remainder.ensures.behind c.args.out.now
    (drop_at c.combine_kleene.new.values (drop (8 * (c.args.len / 64)) c.args.out.now) (8 * (c.args.len / 64)) (omega (arith, c.combine_kleene.auto.values, length-take (8 * (c.args.len / 64)) c.args.out.now, c.requires.room)))
