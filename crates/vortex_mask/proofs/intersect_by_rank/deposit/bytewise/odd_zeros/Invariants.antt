use Rattle.vortex_mask.proofs.Common.{◌≡◌, ◌-◌, length, get_or, EachLane}
use Rattle.vortex_mask.proofs.Deposits.NetworkLemmas.{doubled}
use Rattle.vortex_mask.proofs.intersect_by_rank.deposit.bytewise.odd_zeros.Given as goal

abbrev pub invariant-loop-doubling : goal.invariant-loop-doubling
invariant-loop-doubling l =
    (length l.parity ≡ 16) × EachLane (λ j. doubled (3 - l.doubling) l.doubling (get_or l.parity j 0) ≡ doubled (3 - l.fn.stage) l.fn.stage (get_or l.fn.zeros j 0))
