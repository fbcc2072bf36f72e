use Rattle.mask_bits.proofs.Common.{◌+◌, ◌/◌, ◌%◌, ◌∙◌, ap, sym, false, nat_eq, ◌^◌, shr_and_one, get_or_from_slice_get}
use Rattle.mask_bits.proofs.BufferLemmas.{get_or-values}
use Rattle.mask_bits.proofs.common_indices.is_true.Goals as goal

pub returns : goal.returns
returns c =
    let position = c.args.offset + c.args.i in
    let byte = c.item.result in
    let read = get_or_from_slice_get c.args.bytes.now (position / 8) byte 0 c.item.ensures in
    ap (λ bit. nat_eq bit 1) (shr_and_one byte (position % 8))
    ∙ ap (λ b. nat_eq (b / 2 ^ (position % 8) % 2) 1) (sym read)
    ∙ sym (get_or-values (record { bytes = c.args.bytes.now; offset = c.args.offset; len = c.args.len }) c.args.i false c.requires.within)
