use Rattle.mask_bits.proofs.Common.{◌≡◌, ◌+◌, ◌<◌, length, ◌∙◌, sym, subst, arith, word_bits, padded_part, started_words}
use Rattle.mask_bits.proofs.Lists.Words.WalkLemmas.{left_of-next, left_of-last}
use Rattle.mask_bits.proofs.scan.next_remainder.Goals as goal

pub returns-then-word-eq0-clause-none : goal.returns-then-word-eq0-clause-none
returns-then-word-eq0-clause-none c =
    let m = c.args.chunks.now in
    let i = c.args.at in
    let more : i + 1 < started_words (length m) = omega (arith, c.if-started_words-at.false, c.started_words.ensures.words) in
    sym (left_of-next m i 0 more (subst (λ w. word_bits w ≡ padded_part m (i + 1)) c.if-word-eq0.true c.started_word-word.ensures))
    ∙ left_of-last m (i + 1) (omega (arith, more)) (omega (arith, c.requires.last))
