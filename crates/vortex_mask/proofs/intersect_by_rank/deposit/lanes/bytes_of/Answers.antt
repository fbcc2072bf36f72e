use Rattle.vortex_mask.proofs.Common.{w64, below_from_Fits}
use Rattle.vortex_mask.proofs.Deposits.LaneLemmas.{AreLanes-words}
use Rattle.vortex_mask.proofs.intersect_by_rank.deposit.lanes.bytes_of.Goals as goal

pub returns : goal.returns
returns c = AreLanes-words c.args.words (below_from_Fits w64 c.args.words c.fits-words.1)
