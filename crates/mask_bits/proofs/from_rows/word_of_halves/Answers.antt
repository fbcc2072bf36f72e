use Rattle.mask_bits.proofs.Common.{◌≡◌, ◌+◌, ◌-◌, ◌*◌, ◌≤◌, take, drop, subst, arith, FnReturnsAt, AreAnswers, word_bits}
use Rattle.mask_bits.proofs.AnswerLemmas.{answers-joined}
use Rattle.mask_bits.proofs.ChosenBitLemmas.{joined, joined-clear}
use Rattle.mask_bits.proofs.from_rows.word_of_halves.Goals as goal

pub loop-k-preserved : goal.loop-k-preserved
loop-k-preserved g c =
    let rows = c.args.rows.now in
    let k = c.loop-k.k in
    let so_far = c.loop-k.invariant in
    let part = c.bits_of_half.result in
    let gives = FnReturnsAt g.F.Fn c.args.test.now in
    let size : 32 * k + 32 - 32 * k ≡ 32 = omega arith in
    let next : 32 * k + 32 ≡ 32 * (k + 1) = omega arith in
    let few : 32 * k + 32 ≤ 64 = omega (arith, c.loop-k-test.true) in
    record {
      answers = subst (λ n. AreAnswers gives (take n rows) (take n (word_bits (joined c.loop-k.word (32 * k) part)))) next
          (answers-joined gives rows c.loop-k.word part (32 * k) 32 (omega arith) few so_far.clear so_far.answers
          (subst (λ n. AreAnswers gives (take n (drop (32 * k) rows)) (take 32 (word_bits part))) size c.bits_of_half.ensures.answers));
      clear = λ j h. joined-clear c.loop-k.word (32 * k) part 32 j so_far.clear c.bits_of_half.ensures.clear (omega (arith, h));
    }
