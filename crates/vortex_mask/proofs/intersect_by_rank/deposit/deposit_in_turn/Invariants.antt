use Rattle.vortex_mask.proofs.Common.{◌≡◌, bit_or}
use Rattle.vortex_mask.proofs.Deposits.DepositLemmas.{deposit}
use Rattle.vortex_mask.proofs.intersect_by_rank.deposit.deposit_in_turn.Given as goal

abbrev pub invariant-loop-bits : goal.invariant-loop-bits
invariant-loop-bits l = bit_or l.result (deposit 64 l.bits l.places) ≡ deposit 64 l.source l.mask

abbrev pub decreases-loop-bits : goal.decreases-loop-bits
decreases-loop-bits l = l.places
