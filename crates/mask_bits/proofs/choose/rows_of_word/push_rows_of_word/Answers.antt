use Rattle.mask_bits.proofs.Common.{◌++◌, ap, ◌∙◌}
use Rattle.mask_bits.proofs.Lists.Places.PushLemmas.{items_of-rows}
use Rattle.mask_bits.proofs.choose.rows_of_word.push_rows_of_word.Goals as goal

pub returns-else-spare-word-clause-rows : goal.returns-else-spare-word-clause-rows
returns-else-spare-word-clause-rows g c =
    c.push_by.ensures.items ∙ ap (λ xs. g.R.Room.items c.args.out.now ++ xs) (items_of-rows c.args.rows.now c.args.word)
