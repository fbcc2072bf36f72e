use Rattle.mask_bits.proofs.Common.{◌≡◌, ℕ, ◌+◌, ◌-◌, ◌*◌, ◌/◌, length, take, subst, ◌∙◌, arith, length-take-le, take_all, FnReturnsAt, ArePacked}
use Rattle.mask_bits.proofs.AnswerLemmas.{packed_no_answers, answers_of_word, take_part}
use Rattle.mask_bits.proofs.from_rows.word_of_rows.Goals as goal

pub loop-k-init : goal.loop-k-init
loop-k-init g c = packed_no_answers 64 (FnReturnsAt g.F.Fn c.args.test.now)

pub loop-k-preserved : goal.loop-k-preserved
loop-k-preserved g c = grind (arith, take_part, length-take-le)

pub returns : goal.returns
returns g c =
    let rows = c.args.rows.now in
    let n : ℕ = 16 * (length rows / 16) in
    let gives = FnReturnsAt g.F.Fn c.args.test.now in
    let last : c.loop-k.k ≡ length rows / 16 = omega (arith, c.loop-k-test.false) in
    answers_of_word 64 gives rows c.put_lanes-2.new.lanes c.word_of_lanes.result c.requires.few (omega arith) c.word_of_lanes.ensures
    (subst (λ rs. ArePacked 64 gives rs c.put_lanes-2.new.lanes) (take_part n (length rows - n) rows ∙ take_all (n + (length rows - n)) rows (omega arith))
    (c.put_lanes-2.ensures (take n rows) (length-take-le n rows (omega arith)) (subst (λ k. ArePacked 64 gives (take (16 * k) rows) c.loop-k.lanes) last c.loop-k.invariant)))
