use Rattle.mask_bits.proofs.Common.{ℕ, ◌≡◌, ◌+◌, ◌*◌, subst, ◌∙◌, arith, bitmap, IsWrittenBehind, AreClearFrom, word_bits}
use Rattle.mask_bits.proofs.Lists.Words.FrontLemmas.{window-whole}
use Rattle.mask_bits.proofs.Lists.Words.WordLemmas.{length-word_bits}
use Rattle.mask_bits.proofs.WriteLemmas.{written-more, written-bits_clear, written-word}
use Rattle.mask_bits.proofs.write_bits.put_words.Goals as goal

pub loop-i-preserved : goal.loop-i-preserved
loop-i-preserved g c =
    let from = c.args.from.bytes.now in
    let low = c.args.from.low in
    let i = c.loop-i.i in
    let first = c.args.first in
    let a = c.args.bytes.now in
    let b = c.loop-i.bytes in
    let new = c.set_word.new.bytes in
    let word = c.word.result in
    let clear : AreClearFrom (64 * (first + i)) b
    = written-bits_clear a b from (64 * first) low (64 * i) (64 * (first + i)) (omega arith) c.loop-i.invariant in
    let grown : 64 * i + 64 ≡ 64 * (i + 1) = omega arith in
    subst (λ (n : ℕ). IsWrittenBehind a new (64 * first) (bitmap from low n)) grown
    (written-more a b new from (64 * first) low (64 * i) 64 (64 * (first + i)) (word_bits word) (omega arith) (c.word.ensures ∙ window-whole from (low + 64 * i))
    c.loop-i.invariant
    (written-word b new (first + i) (word_bits word) (length-word_bits word) clear c.set_word.ensures.here c.set_word.ensures.others))
