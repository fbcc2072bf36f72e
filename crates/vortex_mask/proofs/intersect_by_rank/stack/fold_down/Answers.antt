use Rattle.vortex_mask.proofs.Common.{◌≡◌, ℕ, ◌+◌, ◌-◌, drop, length, map, ap, ◌∙◌, sym, arith, length-map, IfOk-weaker, rank_intersection, folded_left, mixed, truth}
use Rattle.vortex_mask.proofs.ResultLemmas.{IfOk-both}
use Rattle.vortex_mask.proofs.Masks.FoldLemmas.{fold_above, fold_below, fold_fits, one_way, some_rows}
use Rattle.vortex_mask.proofs.intersect_by_rank.stack.fold_down.Goals as goal

pub intersect_by_rank-requires : goal.intersect_by_rank-requires
intersect_by_rank-requires c =
    let i : ℕ = c.loop-i.i - 1 in
    let next : c.loop-i.i ≡ i + 1 = omega (arith, c.loop-i-test.true) in
    fold_fits (truth c.args.first.now) c.args.masks.now i c.index-masks-i-in-loop-i.result c.loop-i.narrowed c.requires.stack (omega (arith, next, c.loop-i.invariant.within)) c.index-masks-i-in-loop-i.is
    (c.loop-i.invariant.folded ∙ ap (λ k. folded_left (map truth (drop k c.args.masks.now))) next)

pub loop-i-preserved : goal.loop-i-preserved
loop-i-preserved c =
    let i : ℕ = c.loop-i.i - 1 in
    let next : c.loop-i.i ≡ i + 1 = omega (arith, c.loop-i-test.true) in
    record {
      within = omega (arith, c.loop-i.invariant.within);
      folded = fold_below (truth c.args.first.now) c.args.masks.now i c.index-masks-i-in-loop-i.result c.loop-i.narrowed c.in_ok-narrowed-2.narrowed c.requires.stack (omega (arith, next, c.loop-i.invariant.within))
          c.index-masks-i-in-loop-i.is (c.loop-i.invariant.folded ∙ ap (λ k. folded_left (map truth (drop k c.args.masks.now))) next) c.in_ok-narrowed-2.ensures.list;
    }

pub intersect_by_rank-requires-2 : goal.intersect_by_rank-requires-2
intersect_by_rank-requires-2 c =
    let first : c.loop-i.i ≡ 0 = omega (arith, c.loop-i-test.false) in
    let all = c.loop-i.invariant.folded ∙ ap (λ k. folded_left (map truth (drop k c.args.masks.now))) first in
    ap length all ∙ (fold_above (truth c.args.first.now) (map truth c.args.masks.now) c.requires.stack (omega (arith, c.requires.some, length-map c.args.masks.now truth))).0

pub returns-clause-list : goal.returns-clause-list
returns-clause-list c =
    let a = truth c.args.first.now in
    let first : c.loop-i.i ≡ 0 = omega (arith, c.loop-i-test.false) in
    let all = c.loop-i.invariant.folded ∙ ap (λ k. folded_left (map truth (drop k c.args.masks.now))) first in
    IfOk-weaker c.intersect_by_rank-2.result _ _ (λ m is. is ∙ ap (rank_intersection a) all
    ∙ sym (fold_above a (map truth c.args.masks.now) c.requires.stack (omega (arith, c.requires.some, length-map c.args.masks.now truth))).1) c.intersect_by_rank-2.ensures.list

pub returns-clause-nonempty : goal.returns-clause-nonempty
returns-clause-nonempty c =
    IfOk-weaker c.intersect_by_rank-2.result _ _ (λ m same. omega (arith, same, some_rows (truth c.args.first.now) c.args.masks.now c.requires.stack c.requires.some c.requires.choose)) c.intersect_by_rank-2.ensures.len

pub returns-clause-variant : goal.returns-clause-variant
returns-clause-variant c =
    IfOk-both c.intersect_by_rank-2.result _ _ _ (λ m held some. held ∙ one_way _ mixed (truth m) some) c.intersect_by_rank-2.ensures.variant (returns-clause-nonempty c)
