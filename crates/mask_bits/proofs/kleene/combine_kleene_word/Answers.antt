use Rattle.std.specs.Option.{is_some}
use Rattle.mask_bits.specs.Nullable.{is_true}
use Rattle.mask_bits.proofs.KleeneLemmas.{first-values}
use Rattle.mask_bits.proofs.kleene.combine_kleene_word.Goals as goal

pub returns-clause-values : goal.returns-clause-values
returns-clause-values g c =
    first-values is_true g.C.KleeneOp.table c.args.a c.args.b c.args.count _ c.requires (c.of-word.ensures _ _ c.word.ensures c.word-2.ensures).trues

pub returns-clause-validity : goal.returns-clause-validity
returns-clause-validity g c =
    first-values is_some g.C.KleeneOp.table c.args.a c.args.b c.args.count _ c.requires (c.valid.ensures _ (c.of-word.ensures _ _ c.word.ensures c.word-2.ensures))
