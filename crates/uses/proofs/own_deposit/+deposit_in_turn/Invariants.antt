use Rattle.uses.proofs.own_deposit.+deposit_in_turn.Given as goal

abbrev pub decreases-deposit_in_turn : goal.decreases-deposit_in_turn
decreases-deposit_in_turn l = l.mask
