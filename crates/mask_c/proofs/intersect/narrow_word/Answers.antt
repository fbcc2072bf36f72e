use Rattle.mask_c.proofs.Common.{◌+◌, sym, ap, ◌∙◌, values, window, word_bits, deposit_is_word_of_rank_intersection}
use Rattle.mask_c.proofs.LastLemmas.{narrowed-none}
use Rattle.mask_c.proofs.intersect.narrow_word.Goals as goal

pub returns-then-word-eq0 : goal.returns-then-word-eq0
returns-then-word-eq0 c = λ m i fits place shows.
    narrowed-none m (values c.args.ranks.now) i fits (sym (ap word_bits c.if-word-eq0.true) ∙ shows)

pub returns : goal.returns
returns c = λ m i fits place shows.
    deposit_is_word_of_rank_intersection m c.args.ranks.now i c.read.result c.args.word c.deposit_bits.result fits shows
    (c.read.ensures ∙ ap (λ n. window c.args.ranks.now.bytes (c.args.ranks.now.offset + n)) place) c.deposit_bits.ensures
