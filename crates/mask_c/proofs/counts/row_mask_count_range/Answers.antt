use Rattle.mask_c.proofs.Common.{ap, ◌∙◌, count}
use Rattle.mask_c.proofs.BitmapLemmas.{bitmap-part}
use Rattle.mask_c.proofs.counts.row_mask_count_range.Goals as goal

pub returns : goal.returns
returns c =
    c.count_bits.ensures
    ∙ ap count (bitmap-part c.args.bytes.now c.args.offset c.args.len c.args.start c.args.end c.requires.ordered c.requires.within)
