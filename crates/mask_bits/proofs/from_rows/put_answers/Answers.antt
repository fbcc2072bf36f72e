use Rattle.mask_bits.proofs.Common.{◌≡◌, ℕ, ◌+◌, ◌*◌, ◌/◌, length, take, subst, arith, inl, take_all, FnReturnsAt, bitmap, AreAnswers}
use Rattle.mask_bits.proofs.AnswerLemmas.{answers-none, answers-written}
use Rattle.mask_bits.proofs.from_rows.put_answers.Goals as goal

pub loop-i-init : goal.loop-i-init
loop-i-init g c = answers-none (FnReturnsAt g.F.Fn c.args.test.now) c.args.bytes.now

pub loop-i-preserved : goal.loop-i-preserved
loop-i-preserved g c =
    let rows = c.args.rows.now in
    let i = c.loop-i.i in
    let gives = FnReturnsAt g.F.Fn c.args.test.now in
    let next : 64 * i + 64 ≡ 64 * (i + 1) = omega arith in
    subst (λ n. AreAnswers gives (take n rows) (bitmap c.set_word.new.bytes 0 n)) next
    (answers-written gives rows c.loop-i.bytes c.set_word.new.bytes (64 * i) (64 * i + 64) c.word_of_whole.result (omega arith) (omega arith) (omega (arith, c.loop-i-test.true)) c.loop-i.invariant c.word_of_whole.ensures
    c.set_word.ensures.here (λ p h. c.set_word.ensures.others p (inl h)))

pub returns-then-whole-rows : goal.returns-then-whole-rows
returns-then-whole-rows g c =
    let rows = c.args.rows.now in
    let n : ℕ = 64 * (length rows / 64) in
    let gives = FnReturnsAt g.F.Fn c.args.test.now in
    let new = c.set_word-then-whole-rows.new.bytes in
    let whole : c.loop-i.i ≡ length rows / 64 = omega (arith, c.loop-i-test.false, c.loop-i.auto) in
    let front = subst (λ k. AreAnswers gives (take (64 * k) rows) (bitmap c.loop-i.bytes 0 (64 * k))) whole c.loop-i.invariant in
    subst (λ rs. AreAnswers gives rs (bitmap new 0 (length rows))) (take_all (length rows) rows (omega arith))
    (answers-written gives rows c.loop-i.bytes new n (length rows) c.word_of_rows.result (omega arith) (omega arith) (omega arith) front c.word_of_rows.ensures c.set_word-then-whole-rows.ensures.here
    (λ p h. c.set_word-then-whole-rows.ensures.others p (inl h)))
