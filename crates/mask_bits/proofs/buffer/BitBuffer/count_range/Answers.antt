use Rattle.mask_bits.proofs.Common.{ℕ, List, ◌+◌, ◌-◌, slice_range, ap, refl, ◌∙◌, arith, bitmap, Packed, values, count}
use Rattle.mask_bits.proofs.BufferLemmas.{len-of_list, length-values, values-part}
use Rattle.mask_bits.proofs.Lists.Places.PlaceLemmas.{count-le-length}
use Rattle.mask_bits.proofs.buffer.BitBuffer.count_range.Goals as goal

pub returns-clause-counted : goal.returns-clause-counted
returns-clause-counted c =
    let b : Packed = record { bytes = c.self.inside.bytes; offset = c.self.inside.offset; len = c.self.inside.len } in
    let start = c.args.start in
    let «end» = c.args.end in
    c.count_bits.ensures
    ∙ ap (λ (bytes : List ℕ). count (bitmap bytes (b.offset + start) («end» - start))) c.as_slice.ensures
    ∙ ap count (values-part b start «end» c.requires.ordered (omega (arith, c.requires.within, ap (λ p. p.len) c.self.view_is, len-of_list c.args.self.now refl)))
    ∙ ap (λ p. count (slice_range (values p) start «end»)) c.self.view_is

pub returns-clause-at_most : goal.returns-clause-at_most
returns-clause-at_most c = grind (arith, count-le-length, length-values)
