use Rattle.mask_c.proofs.Common.{◌+◌, ◌/◌, ◌%◌, get_or, shr_and_one}
use Rattle.mask_c.proofs.BitmapLemmas.{slice_get-bitmap}
use Rattle.mask_c.proofs.bitmap.row_mask_value.Goals as goal

pub returns : goal.returns
returns c =
    let position = c.args.offset + c.args.i in
    let byte = get_or c.args.bytes.now (position / 8) 0 in
    rw (shr_and_one byte (position % 8)) (slice_get-bitmap c.args.bytes.now c.args.offset c.args.len c.args.i c.requires.within)
