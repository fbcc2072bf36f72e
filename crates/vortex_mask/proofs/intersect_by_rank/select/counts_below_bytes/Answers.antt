use Rattle.vortex_mask.proofs.Common.{◌≡◌, ◌/◌, ◌%◌, ◌*◌, sym, ap₂, ◌∙◌, arith, get_or, [], ◌∷◌, count_below, word_bits, byte_at}
use Rattle.vortex_mask.proofs.intersect_by_rank.select.counts_below_bytes.Goals as goal

pub returns : goal.returns
returns c = λ j h.
    let first : j / 8 ≡ 0 = omega arith in
    let own : j % 8 ≡ j = omega arith in
    sym (ap₂ (λ a b. byte_at (get_or c.words_of.result a 0) b) first own) ∙ c.words_of.ensures.bytes j (omega arith) ∙ c.counts_below.ensures.each j (omega arith)
    ∙ ap₂ (λ a b. count_below (word_bits (get_or (c.args.word ∷ 0 ∷ []) a 0)) (8 * b)) first own
