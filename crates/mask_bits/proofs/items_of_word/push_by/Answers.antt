use Rattle.mask_bits.proofs.Common.{◌≡◌, ◌≤◌, ap, ◌∙◌, ◌+◌, ◌++◌, length, take, count_ones, arith, sym, length-append, items_of, word_bits}
use Rattle.mask_bits.proofs.Lists.Places.PushLemmas.{ArePushed-all, length-items_of_word}
use Rattle.mask_bits.proofs.items_of_word.push_by.Goals as goal

pub returns-clause-items : goal.returns-clause-items
returns-clause-items g c =
    let a = c.args in
    let l = c.loop-items in
    let at = g.W.WordItems.at a.items in
    let here = items_of at (word_bits a.word) in
    let all = g.R.Room.items a.out.now ++ here in
    let end : length all ≡ c.count.result + count_ones a.word = omega (arith, length-append (g.R.Room.items a.out.now) here, length-items_of_word at a.word c.ranges.word.fits c.requires.each, c.count.ensures.count) in
    let enough : length all ≤ length (g.R.Room.items l.out) = omega (arith, end) in
    c.truncate.ensures.items ∙ ap (λ n. take n (g.R.Room.items l.out)) (sym end) ∙ ArePushed-all all (g.R.Room.items l.out) _ enough l.invariant.pushed
