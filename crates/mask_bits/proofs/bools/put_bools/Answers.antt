use Rattle.mask_bits.proofs.Common.{Bool, List, ◌*◌, ◌+◌, ◌/◌, false, length, get_or, ap, ◌∙◌, arith, take_rest, get_or-drop, get_or-between}
use Rattle.mask_bits.proofs.Lists.Words.FrontLemmas.{words-more}
use Rattle.mask_bits.proofs.bools.put_bools.Goals as goal

pub loop-i-preserved : goal.loop-i-preserved
loop-i-preserved c =
    let m = c.args.bools.now in
    let i = c.loop-i.i in
    words-more c.loop-i.bytes c.set_word.new.bytes m _ i c.word_of_bools.result c.loop-i.invariant c.set_word.ensures.here c.set_word.ensures.others
    c.word_of_bools.ensures (λ j h. get_or-between m (64 * i) (64 * i + 64) j false (omega arith))

pub returns-then-whole-bools : goal.returns-then-whole-bools
returns-then-whole-bools c =
    let m = c.args.bools.now in
    let i = length m / 64 in
    let wrote = words-more c.loop-i.bytes c.set_word-then-whole-bools.new.bytes m _ i c.word_of_bools-then-whole-bools.result
    (λ p h. c.loop-i.invariant p (omega (arith, c.loop-i-test.false))) c.set_word-then-whole-bools.ensures.here c.set_word-then-whole-bools.ensures.others
    c.word_of_bools-then-whole-bools.ensures (λ j h. ap (λ (xs : List Bool). get_or xs j false) (take_rest m (64 * i)) ∙ get_or-drop (64 * i) m j false) in
    λ p h. wrote p (omega arith)
