use Rattle.vortex_mask.proofs.Deposits.LastByteLemmas.{all_less}
use Rattle.vortex_mask.proofs.intersect_by_rank.select.last_byte_within.Goals as goal

pub overflow_sub-differences : goal.overflow_sub-differences
overflow_sub-differences c = all_less c.args.bytes c.args.rank c.ranges.bytes.fits c.requires.rank c.requires.small
