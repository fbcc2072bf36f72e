use Rattle.mask_bits.proofs.Common.{ℕ, ◌+◌, ◌*◌, ◌/◌, ◌%◌, ◌∙◌, List, ap, arith, drop, slice_get, sym, window, word_bits}
use Rattle.mask_bits.proofs.CombineLemmas.{window-next_item}
use Rattle.mask_bits.proofs.Lists.Words.FrontLemmas.{window-drop}
use Rattle.mask_bits.proofs.words.word_at.Goals as goal

pub returns-then-first-bytes : goal.returns-then-first-bytes
returns-then-first-bytes c =
    let bytes = c.args.bytes.now in
    let p = c.args.position in
    let same = c.rest-behind.ensures in
    c.funnel_shift.ensures ∙ window-next_item (drop (p / 8) bytes) (p % 8) 0 _ (word_bits c.word_of.result) (omega arith)
    (c.word_of.ensures ∙ ap (λ (xs : List ℕ). window xs 0) same) (sym (ap (λ (xs : List ℕ). slice_get xs 8) same) ∙ c.item.ensures)
    ∙ window-drop bytes (p / 8) (p % 8 + 64 * 0) p (omega arith)
