use Rattle.vortex_mask.proofs.Common.{◌≡◌, ℕ, List, ◌-◌, length, take, drop, replicate, ◌++◌, ap, ap₂, ◌∙◌, arith, drop-replicate, length-drop, take_all}
use Rattle.vortex_mask.proofs.intersect_by_rank.rank_bits.RankBits.over.Goals as goal

pub invariant_of-result : goal.invariant_of-result
invariant_of-result c =
    let bytes = c.args.bytes.now in
    let n = c.saturating_sub-tail_from.result in
    let from : n ≡ length bytes - 16 = omega (arith, c.saturating_sub-tail_from.ensures) in
    let rest : length (drop n bytes) ≡ length bytes - n = length-drop n bytes in
    let all : take (length bytes - n) (drop n bytes) ≡ drop n bytes = take_all (length bytes - n) (drop n bytes) (omega (arith, rest)) in
    let behind : drop (length (take (length bytes - n) (drop n bytes))) (replicate 32 0) ≡ replicate (32 - (length bytes - n)) 0
    = drop-replicate (length (take (length bytes - n) (drop n bytes))) 32 0 ∙ ap (λ k. replicate (32 - k) 0) (ap length all ∙ rest) in
    (c.requires, from, ap₂ (λ (xs ys : List ℕ). xs ++ ys) (c.copy_from_slice.ensures.after ∙ all) behind)
