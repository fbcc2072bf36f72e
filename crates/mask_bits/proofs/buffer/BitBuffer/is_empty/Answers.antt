use Rattle.mask_bits.proofs.Common.{length, ap, ◌∙◌, sym, eqb-true, eq-eqb, nil_from_length, values}
use Rattle.mask_bits.proofs.BufferLemmas.{length-values}
use Rattle.mask_bits.proofs.buffer.BitBuffer.is_empty.Goals as goal

pub returns : goal.returns
returns c =
    let b = c.args.self.now in
    let len = length-values b ∙ sym (ap (λ p. p.len) c.self.view_is) in
    (λ h. nil_from_length (values b) (len ∙ eqb-true _ 0 h), λ e. eq-eqb _ 0 (sym len ∙ ap length e))
