use Rattle.mask_bits.proofs.Common.{◌+◌, ◌/◌, ◌%◌, get_or, shr_and_one}
use Rattle.mask_bits.proofs.BufferLemmas.{slice_get-values}
use Rattle.mask_bits.proofs.buffer.BitBuffer.value.Goals as goal

pub returns : goal.returns
returns c =
    let position = c.self.inside.offset + c.args.i in
    let byte = get_or c.as_slice.result.now (position / 8) 0 in
    rw (shr_and_one byte (position % 8), c.as_slice.ensures, ← c.self.view_is) (slice_get-values _ c.args.i (rw c.self.view_is c.requires))
