use Rattle.mask_bits.proofs.Common.{ℕ, ◌+◌, ◌*◌, ◌<◌, List, subst, length, get_or, ap, sym, ◌∙◌, arith, rules, from_le_bytes-to_le_bytes_8, from_le_bytes, word_bits, w64}
use Rattle.mask_bits.proofs.Lists.Words.FrontLemmas.{word_bits-chunk, get_or-put_mid_inside}
use Rattle.mask_bits.proofs.NumberLemmas.{bytes-of_word}
use Rattle.mask_bits.proofs.unchecked.set_word.Goals as goal

pub returns-clause-here : goal.returns-clause-here
returns-clause-here c =
    let wrote = c.copy_from_slice.ensures.after ∙ c.to_le_bytes.ensures in
    let i = c.args.i in
    sym (word_bits-chunk _ c.copy_from_slice.new.self i (λ k. subst (λ (xs : List ℕ). get_or xs k 0 < 256) (sym wrote) (bytes-of_word c.args.word k)) (λ k h.
    sym (get_or-put_mid_inside (8 * i) (8 * i + 8) c.args.bytes.now c.copy_from_slice.new.self k (omega arith) (ap length wrote ∙ omega arith) (omega arith))))
    ∙ ap word_bits (ap (from_le_bytes w64) wrote ∙ from_le_bytes-to_le_bytes_8 c.args.word (search rules))
