use Rattle.mask_bits.proofs.Common.{◌*◌, arith}
use Rattle.std.specs.Option.{is_some}
use Rattle.mask_bits.specs.Nullable.{is_true}
use Rattle.mask_bits.proofs.KleeneLemmas.{table-list, within-first}
use Rattle.mask_bits.proofs.kleene.combine_kleene.Goals as goal

pub returns-clause-values : goal.returns-clause-values
returns-clause-values g c =
    table-list is_true g.C.KleeneOp.table _ _ c.args.a c.args.b c.extend.new.values (64 * c.started_words-words.result) c.args.len
    c.extend.ensures.values (omega (arith, c.started_words-words.ensures)) (c.new-a.ensures.list c.args.len) (c.new-b.ensures.list c.args.len)

pub returns-clause-validity : goal.returns-clause-validity
returns-clause-validity g c =
    table-list is_some g.C.KleeneOp.table _ _ c.args.a c.args.b c.extend.new.validity (64 * c.started_words-words.result) c.args.len
    c.extend.ensures.validity (omega (arith, c.started_words-words.ensures)) (c.new-a.ensures.list c.args.len) (c.new-b.ensures.list c.args.len)

pub extend_whole-requires-clause-a_within : goal.extend_whole-requires-clause-a_within
extend_whole-requires-clause-a_within g c = within-first c.new-a.result c.args.len _ (c.new-a.ensures.within c.args.len c.requires.a_within) (omega arith)

pub extend_whole-requires-clause-b_within : goal.extend_whole-requires-clause-b_within
extend_whole-requires-clause-b_within g c = within-first c.new-b.result c.args.len _ (c.new-b.ensures.within c.args.len c.requires.b_within) (omega arith)
