use Rattle.mask_bits.proofs.Common.{◌++◌, ap, ◌∙◌, arith, All-weaker}
use Rattle.mask_bits.proofs.Lists.Places.PushLemmas.{items_of-rows, row-some}
use Rattle.mask_bits.proofs.choose.rows_of_word.push_rows_one_by_one.Goals as goal

pub push_one_by_one-requires-clause-each : goal.push_one_by_one-requires-clause-each
push_one_by_one-requires-clause-each g c = grind (arith, All-weaker, row-some)

pub returns-clause-rows : goal.returns-clause-rows
returns-clause-rows g c =
    c.push_one_by_one.ensures.items ∙ ap (λ xs. g.R.Room.items c.args.out.now ++ xs) (items_of-rows c.args.rows.now c.args.word)
