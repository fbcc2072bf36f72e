use Rattle.mask_bits.proofs.Lists.Words.BackingBitLemmas.{length-bitmap}
use Rattle.mask_c.proofs.BitmapLemmas.{subset_from_none}
use Rattle.mask_c.proofs.compare.row_mask_is_subset.Goals as goal

pub returns : goal.returns
returns c =
    let subset = subset_from_none _ _ c.args.len (length-bitmap c.args.a.now c.args.a_offset c.args.len) (length-bitmap c.args.b.now c.args.b_offset c.args.len) in
    (λ yes. subset.0 (c.none_true.ensures.0 yes), λ is. c.none_true.ensures.1 (subset.1 is))
