use Rattle.mask_bits.proofs.Common.{ℕ, ◌-◌, ◌*◌, ◌∙◌, List, ap, arith, length, take_rest, window}
use Rattle.mask_bits.proofs.Lists.Words.FrontLemmas.{window-drop}
use Rattle.mask_bits.proofs.WindowLemmas.{word_bits-last}
use Rattle.mask_bits.proofs.words.last_bits.Goals as goal

pub returns-then-bytes-lt8 : goal.returns-then-bytes-lt8
returns-then-bytes-lt8 c =
    word_bits-last c.args.bytes.now 0 c.args.position c.args.position c.word_of_few.result (omega (arith, c.word_of_few.type_inv)) c.word_of_few.ensures (omega (arith, c.if-bytes-lt8.true)) (omega arith)

pub returns : goal.returns
returns c =
    let bytes = c.args.bytes.now in
    let begin = length bytes - 8 in
    let shows = c.word_of.ensures ∙ ap (λ (xs : List ℕ). window xs 0) (take_rest bytes begin) ∙ window-drop bytes begin 0 (8 * begin) (omega arith) in
    word_bits-last bytes begin (c.args.position - 8 * begin) c.args.position c.word_of.result (omega (arith, c.word_of.type_inv)) shows (omega (arith, c.if-bytes-lt8.false)) (omega (arith, c.requires.near, c.if-bytes-lt8.false))
