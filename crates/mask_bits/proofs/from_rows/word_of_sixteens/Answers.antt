use Rattle.mask_bits.proofs.Common.{◌≡◌, ◌+◌, ◌-◌, ◌*◌, ◌≤◌, take, drop, subst, arith, FnReturnsAt, AreAnswers, word_bits}
use Rattle.mask_bits.proofs.AnswerLemmas.{answers-joined}
use Rattle.mask_bits.proofs.ChosenBitLemmas.{joined, joined-clear}
use Rattle.mask_bits.proofs.from_rows.word_of_sixteens.Goals as goal

pub loop-k-preserved : goal.loop-k-preserved
loop-k-preserved g c =
    let rows = c.args.rows.now in
    let k = c.loop-k.k in
    let so_far = c.loop-k.invariant in
    let part = c.bits_of_sixteen.result in
    let gives = FnReturnsAt g.F.Fn c.args.test.now in
    let size : 16 * k + 16 - 16 * k ≡ 16 = omega arith in
    let next : 16 * k + 16 ≡ 16 * (k + 1) = omega arith in
    let few : 16 * k + 16 ≤ 64 = omega (arith, c.loop-k-test.true) in
    record {
      answers = subst (λ n. AreAnswers gives (take n rows) (take n (word_bits (joined c.loop-k.word (16 * k) part)))) next
          (answers-joined gives rows c.loop-k.word part (16 * k) 16 (omega arith) few so_far.clear so_far.answers
          (subst (λ n. AreAnswers gives (take n (drop (16 * k) rows)) (take 16 (word_bits part))) size c.bits_of_sixteen.ensures.answers));
      clear = λ j h. joined-clear c.loop-k.word (16 * k) part 16 j so_far.clear c.bits_of_sixteen.ensures.clear (omega (arith, h));
    }
