use Rattle.mask_bits.proofs.Common.{◌++◌, ap, ◌∙◌, arith}
use Rattle.mask_bits.proofs.Lists.Places.PushLemmas.{indices-some, items_of-indices}
use Rattle.mask_bits.proofs.indices_of_word.push_indices.Goals as goal

pub push_one_by_one-requires-clause-each : goal.push_one_by_one-requires-clause-each
push_one_by_one-requires-clause-each g c = indices-some g.N.RowIndex.index_of c.args.base c.args.word (omega (arith, c.requires.fits))

pub returns-in-0-clause-items : goal.returns-in-0-clause-items
returns-in-0-clause-items g c =
    c.push_one_by_one.ensures.items ∙ ap (λ xs. g.R.Room.items c.args.indices.now ++ xs) (items_of-indices g.N.RowIndex.index_of c.args.base c.args.word (omega (arith, c.requires.fits)))

pub returns-in_default-clause-items : goal.returns-in_default-clause-items
returns-in_default-clause-items g c =
    c.push_by.ensures.items ∙ ap (λ xs. g.R.Room.items c.args.indices.now ++ xs) (items_of-indices g.N.RowIndex.index_of c.args.base c.args.word (omega (arith, c.requires.fits)))
