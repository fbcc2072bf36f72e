use Rattle.mask_bits.proofs.Common.{Bool, ℕ, List, ◌+◌, ◌*◌, ◌/◌, ◌%◌, ap, ap₂, ◌∙◌, arith, length-drop, Packed, word_part, window}
use Rattle.mask_bits.proofs.BufferLemmas.{len-of_list}
use Rattle.mask_bits.proofs.Lists.Words.FrontLemmas.{window-drop}
use Rattle.mask_bits.proofs.WindowLemmas.{window-word_part}
use Rattle.mask_bits.proofs.chunks.BitChunks.word.Goals as goal

pub word-requires : goal.word-requires
word-requires c = grind (arith, len-of_list, length-drop)

pub returns : goal.returns
returns c =
    let b : Packed = record { bytes = c.self.inside.bytes.now; offset = c.self.inside.offset; len = c.self.inside.len } in
    let low : ℕ = b.offset % 8 + 64 * c.args.i in
    c.word.ensures
    ∙ ap₂ (λ (xs : List ℕ) n. window xs (n + 64 * c.args.i)) c.new.ensures.bytes c.new.ensures.low
    ∙ window-drop b.bytes (b.offset / 8) low (b.offset + 64 * c.args.i) (omega arith)
    ∙ window-word_part b c.args.i (omega (arith, len-of_list _ c.self.view_is))
    ∙ ap (λ (m : List Bool). word_part m c.args.i) c.self.view_is
