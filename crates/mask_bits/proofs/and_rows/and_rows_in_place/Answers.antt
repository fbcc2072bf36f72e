use Rattle.mask_bits.proofs.Common.{◌≡◌, ℕ, ◌+◌, ◌*◌, ◌/◌, ◌≤◌, length, sym, subst, arith, FnReturnsAt}
use Rattle.mask_bits.proofs.LeftLemmas.{IsLeftSoFar, left_word, left_zero, left_last, left_of_bytes}
use Rattle.mask_bits.proofs.and_rows.and_rows_in_place.Goals as goal
use Rattle.mask_bits.proofs.and_rows.and_rows_in_place.Goals.{then-word-ne0, else-word-ne0}

pub loop-i-preserved : goal.loop-i-preserved
loop-i-preserved g c =
    let rows = c.args.rows.now in
    let i = c.loop-i.i in
    let gives = FnReturnsAt g.F.Fn c.args.test.now in
    let old = c.args.bytes.now in
    let word = c.word_of-word.result in
    let within : 64 * i + 64 ≤ length rows = omega (arith, c.loop-i-test.true) in
    elim c.if-word-ne0.branch [
      | then-word-ne0 w ↦ subst (λ bytes. IsLeftSoFar gives rows old bytes (64 * (i + 1))) (sym w.bytes-is)
          (left_word gives rows old c.loop-i.bytes w.set_word.new.bytes i word w.left_of_whole-left.result within c.word_of-word.ensures w.left_of_whole-left.ensures w.set_word.ensures.here w.set_word.ensures.others c.loop-i.invariant)
      | else-word-ne0 w ↦ subst (λ bytes. IsLeftSoFar gives rows old bytes (64 * (i + 1))) (sym w.bytes-is)
          (left_zero gives rows old c.loop-i.bytes i word c.word_of-word.ensures w.if-word-ne0.false c.loop-i.invariant)
    ]

pub returns-then-whole-rows : goal.returns-then-whole-rows
returns-then-whole-rows g c =
    let rows = c.args.rows.now in
    let n : ℕ = 64 * (length rows / 64) in
    let gives = FnReturnsAt g.F.Fn c.args.test.now in
    let whole : c.loop-i.i ≡ length rows / 64 = omega (arith, c.loop-i-test.false, c.loop-i.auto) in
    let size : length c.loop-i.bytes ≡ length c.args.bytes.now = c.loop-i.auto.bytes in
    left_last gives rows c.args.bytes.now c.loop-i.bytes c.put_last.new.bytes n c.word_at.result c.left_of_rows-left.result (omega arith) (omega arith) (omega (arith, size, c.requires.covered))
    c.word_at.ensures c.left_of_rows-left.ensures c.put_last.ensures.here c.put_last.ensures.before (subst (λ k. IsLeftSoFar gives rows c.args.bytes.now c.loop-i.bytes (64 * k)) whole c.loop-i.invariant)

pub returns-else-whole-rows : goal.returns-else-whole-rows
returns-else-whole-rows g c =
    let rows = c.args.rows.now in
    let all : 64 * c.loop-i.i ≡ length rows = omega (arith, c.loop-i-test.false, c.loop-i.auto, c.if-whole-rows.false) in
    left_of_bytes (FnReturnsAt g.F.Fn c.args.test.now) rows c.args.bytes.now c.loop-i.bytes
    (subst (λ k. IsLeftSoFar (FnReturnsAt g.F.Fn c.args.test.now) rows c.args.bytes.now c.loop-i.bytes k) all c.loop-i.invariant).left
