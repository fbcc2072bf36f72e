use Rattle.mask_bits.proofs.Common.{ℕ, List, ◌+◌, ◌-◌, slice_range, ap, ◌∙◌, arith, Packed, values}
use Rattle.mask_bits.proofs.BufferLemmas.{length-values, values-part}
use Rattle.mask_bits.proofs.buffer.BitBuffer.slice.Goals as goal

pub returns-clause-list : goal.returns-clause-list
returns-clause-list c =
    let b : Packed = record { bytes = c.self.inside.bytes; offset = c.self.inside.offset; len = c.self.inside.len } in
    let start = c.args.start in
    let «end» = c.args.end in
    ap values c.new_with_offset.ensures.buffer
    ∙ ap (λ (bytes : List ℕ). values (record { bytes = bytes; offset = b.offset + start; len = «end» - start })) c.in_ok-bytes.ensures.cases
    ∙ values-part b start «end» c.requires.ordered (omega (arith, length-values c.args.self.now, ap (λ p. p.len) c.self.view_is))
    ∙ ap (λ p. slice_range (values p) start «end») c.self.view_is
