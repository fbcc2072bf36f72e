use Rattle.mask_c.proofs.Common.{length, ap, ◌∙◌, Packed, values, length-bitmap}
use Rattle.mask_c.proofs.intersect.narrow_whole.Goals as goal

pub narrow_few-requires-clause-fitting : goal.narrow_few-requires-clause-fitting
narrow_few-requires-clause-fitting c =
    ap (λ (p : Packed). length (values p)) c.over-ranks.ensures.bits ∙ length-bitmap c.args.ranks.now c.args.ranks_offset c.args.ranks_len ∙ c.requires.fitting
