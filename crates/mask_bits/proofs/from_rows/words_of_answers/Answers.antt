use Rattle.mask_bits.proofs.Common.{length, sym, subst, arith, FnReturnsAt, bitmap, AreAnswers}
use Rattle.mask_bits.proofs.AnswerLemmas.{computed_of_answers}
use Rattle.mask_bits.proofs.CombineLemmas.{take_back}
use Rattle.mask_bits.proofs.from_rows.words_of_answers.Goals as goal

pub returns-clause-answers : goal.returns-clause-answers
returns-clause-answers g c =
    let bytes = c.in_ok-bytes.bytes in
    let back = take_back bytes.len c.put_answers.new.bytes bytes.items (omega arith) in
    subst (λ xs. AreAnswers (FnReturnsAt g.F.Fn c.args.test) c.args.rows.now (bitmap xs 0 (length c.args.rows.now))) (sym back) c.put_answers.ensures

pub returns-clause-list : goal.returns-clause-list
returns-clause-list g c = computed_of_answers g.F.Fn c.args.test c.args.rows.now _ (returns-clause-answers g c)
