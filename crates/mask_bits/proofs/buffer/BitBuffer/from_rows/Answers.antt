use Rattle.mask_bits.proofs.Common.{sym, subst, FnReturnsAt, IfOk-weaker, values, AreAnswers}
use Rattle.mask_bits.proofs.AnswerLemmas.{computed_of_answers}
use Rattle.mask_bits.proofs.buffer.BitBuffer.from_rows.Goals as goal

pub returns-clause-answers : goal.returns-clause-answers
returns-clause-answers g c =
    IfOk-weaker c.from_list.result _ _
    (λ b same. subst (λ p. AreAnswers (FnReturnsAt g.F.Fn c.args.test) c.args.rows.now (values p)) (sym same) c.in_ok-bytes.ensures.answers) c.from_list.ensures.buffer

pub returns-clause-list : goal.returns-clause-list
returns-clause-list g c =
    IfOk-weaker c.from_list.result _ _ (λ b are. computed_of_answers g.F.Fn c.args.test c.args.rows.now (values b) are) (returns-clause-answers g c)
