use Rattle.vortex_mask.proofs.Common.{◌-◌, ap, arith, count-word_bits}
use Rattle.vortex_mask.proofs.Deposits.DepositLemmas.{cleared_word, Deposits-from_deposit}
use Rattle.vortex_mask.proofs.Deposits.HoleLemmas.{clear, two_holes}
use Rattle.vortex_mask.proofs.intersect_by_rank.deposit.deposit_two_holes.Goals as goal

pub returns : goal.returns
returns c =
    let s = c.args.source in
    let m = c.args.mask in
    let rest = cleared_word (clear 64 m) (omega arith) in
    Deposits-from_deposit s m _
    (two_holes s m _ _ c.with_room.result _ (omega arith) (omega arith) (omega (arith, count-word_bits m)) (ap (λ x. clear 64 m - x) rest) rest (omega arith)
    (c.with_room.ensures.room, c.with_room.ensures.same) (c.with_room-2.ensures.room, c.with_room-2.ensures.same))
