use Rattle.mask_bits.proofs.Common.{[], take, refl, subst, arith, FnReturnsAt, ArePacked, AreAnswers, word_bits}
use Rattle.mask_bits.proofs.AnswerLemmas.{packed_no_answers, answers_of_word, clear_past_lanes}
use Rattle.mask_bits.proofs.from_rows.bits_of_sixteen.Goals as goal

pub returns-clause-answers : goal.returns-clause-answers
returns-clause-answers g c =
    let rows = c.args.rows.now in
    let gives = FnReturnsAt g.F.Fn c.args.test.now in
    let w = c.word_of_sixteen_lanes.result in
    let packed : ArePacked 16 gives rows c.put_lanes.new.lanes = c.put_lanes.ensures [] refl (packed_no_answers 16 gives) in
    subst (λ n. AreAnswers gives rows (take n (word_bits w))) c.requires.whole
    (answers_of_word 16 gives rows c.put_lanes.new.lanes w (omega arith) (omega arith) c.word_of_sixteen_lanes.ensures packed)

pub returns-clause-clear : goal.returns-clause-clear
returns-clause-clear g c =
    let packed : ArePacked 16 (FnReturnsAt g.F.Fn c.args.test.now) c.args.rows.now c.put_lanes.new.lanes = c.put_lanes.ensures [] refl (packed_no_answers 16 (FnReturnsAt g.F.Fn c.args.test.now)) in
    clear_past_lanes 16 c.put_lanes.new.lanes c.word_of_sixteen_lanes.result packed.packed.len (omega arith) c.word_of_sixteen_lanes.ensures
