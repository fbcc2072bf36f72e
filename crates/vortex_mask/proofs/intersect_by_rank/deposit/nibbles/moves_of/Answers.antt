use Rattle.vortex_mask.proofs.Common.{◌+◌, ◌*◌, ◌^◌, ap₂, AreLanes-same}
use Rattle.vortex_mask.proofs.Deposits.NibbleLemmas.{stay_at, by_two_at, by_one_at}
use Rattle.vortex_mask.proofs.intersect_by_rank.deposit.nibbles.moves_of.Goals as goal

pub returns-clause-stay : goal.returns-clause-stay
returns-clause-stay c = AreLanes-same c.of_nibbles.ensures (λ j h. ap₂ (λ a b. a + b * 2 ^ 4) (stay_at _ (c.requires.lower.small j h)) (stay_at _ (c.requires.upper.small j h)))

pub returns-clause-by_two : goal.returns-clause-by_two
returns-clause-by_two c = AreLanes-same c.of_nibbles-2.ensures (λ j h. ap₂ (λ a b. a + b * 2 ^ 4) (by_two_at _ (c.requires.lower.small j h)) (by_two_at _ (c.requires.upper.small j h)))

pub returns-clause-by_one : goal.returns-clause-by_one
returns-clause-by_one c = AreLanes-same c.of_nibbles-3.ensures (λ j h. ap₂ (λ a b. a + b * 2 ^ 4) (by_one_at _ (c.requires.lower.small j h)) (by_one_at _ (c.requires.upper.small j h)))
