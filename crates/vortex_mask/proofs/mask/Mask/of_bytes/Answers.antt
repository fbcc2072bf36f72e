use Rattle.vortex_mask.proofs.Common.{bitmap, sym, ap, ◌∙◌, no_values, repeated}
use Rattle.vortex_mask.proofs.mask.Mask.of_bytes.Goals as goal

pub returns-then-len-eq0-clause-list : goal.returns-then-len-eq0-clause-list
unfolding repeated
returns-then-len-eq0-clause-list c =
    sym (ap (bitmap c.args.bytes.items 0) c.if-len-eq0.true ∙ no_values c.args.bytes.items 0)
