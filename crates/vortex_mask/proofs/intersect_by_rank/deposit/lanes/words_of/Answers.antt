use Rattle.vortex_mask.proofs.Common.{w8, ap, ◌∙◌, arith, get_or, below_from_Fits}
use Rattle.vortex_mask.proofs.Deposits.LaneLemmas.{byte_at-word, lane_is}
use Rattle.vortex_mask.proofs.intersect_by_rank.deposit.lanes.words_of.Goals as goal

pub returns-clause-bytes : goal.returns-clause-bytes
returns-clause-bytes c = λ j h.
    byte_at-word c.args.lanes _ _ (below_from_Fits w8 c.args.lanes c.fits-lanes.1) (omega arith) (omega arith) ∙ ap (λ k. get_or c.args.lanes k 0) (lane_is j)
