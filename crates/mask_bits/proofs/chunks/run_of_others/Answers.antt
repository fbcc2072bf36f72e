use Rattle.mask_bits.proofs.Common.{nat_eq, not, ap, sym, ◌∙◌, arith, bit_at}
use Rattle.mask_bits.proofs.Lists.Words.BackingBitLemmas.{bit-window}
use Rattle.mask_bits.proofs.Lists.Words.LowestLemmas.{zeros-within, zeros-clear, zeros-end, ones-within, ones-set, ones-end}
use Rattle.mask_bits.proofs.chunks.run_of_others.Goals as goal

pub returns-then-value-clause-passed : goal.returns-then-value-clause-passed
returns-then-value-clause-passed c = λ j h.
    let w = c.word_at-word.result in
    sym (bit-window c.args.bytes.now c.args.position w j c.word_at-word.ensures (omega (arith, zeros-within w c.word_at-word.type_inv)))
    ∙ ap (λ b. nat_eq b 1) (zeros-clear w j c.word_at-word.type_inv h) ∙ sym (ap not c.if-value.true)

pub returns-then-value-clause-holds : goal.returns-then-value-clause-holds
returns-then-value-clause-holds c = λ h.
    let w = c.word_at-word.result in
    sym (bit-window c.args.bytes.now c.args.position w _ c.word_at-word.ensures h)
    ∙ ap (λ b. nat_eq b 1) (zeros-end w c.word_at-word.type_inv h) ∙ sym c.if-value.true

pub returns-else-value-clause-passed : goal.returns-else-value-clause-passed
returns-else-value-clause-passed c = λ j h.
    let w = c.word_at-word.result in
    sym (bit-window c.args.bytes.now c.args.position w j c.word_at-word.ensures (omega (arith, c.trailing_ones.ensures, ones-within w c.word_at-word.type_inv)))
    ∙ ap (λ b. nat_eq b 1) (ones-set w j c.word_at-word.type_inv (omega (arith, c.trailing_ones.ensures))) ∙ sym (ap not c.if-value.false)

pub returns-else-value-clause-holds : goal.returns-else-value-clause-holds
returns-else-value-clause-holds c = λ h.
    let w = c.word_at-word.result in
    sym (bit-window c.args.bytes.now c.args.position w c.trailing_ones.result c.word_at-word.ensures h)
    ∙ ap (λ b. nat_eq b 1) (ap (bit_at w) c.trailing_ones.ensures ∙ ones-end w c.word_at-word.type_inv (omega (arith, c.trailing_ones.ensures))) ∙ sym c.if-value.false
