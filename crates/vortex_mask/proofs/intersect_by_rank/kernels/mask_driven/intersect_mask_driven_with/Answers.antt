use Rattle.vortex_mask.proofs.Common.{◌<◌, subst, sym, ◌∙◌, values, count, All}
use Rattle.vortex_mask.proofs.Kernels.DrivenLemmas.{not-above-next, ranks-at_turn, found-more, found-all, indices-ascending, indices-within, words-counted}
use Rattle.vortex_mask.proofs.intersect_by_rank.kernels.mask_driven.intersect_mask_driven_with.Goals as goal

pub index_of-requires-clause-ahead : goal.index_of-requires-clause-ahead
index_of-requires-clause-ahead g c =
    let m = values c.args.self_buffer.now in
    let xs = c.loop-rank.yielded in
    let x = c.in-Some.rank in
    let ranks = ranks-at_turn g.I.Iterator.next_gives c.args.mask_indices (count m) c.args.true_count c.requires.ranks _ c.into_iter-rank-iterator.ensures.into_iter_gives xs _ c.loop-rank.yielded_by x c.next.new.self c.in-Some.ensures.steps in
    not-above-next xs x c.loop-rank.reached.before ranks.0 c.loop-rank.invariant.reached

pub index_of-requires-clause-counted : goal.index_of-requires-clause-counted
index_of-requires-clause-counted g c = words-counted _ c.loop-rank.invariant

pub loop-rank-preserved : goal.loop-rank-preserved
loop-rank-preserved g c =
    found-more c.chunks-chunks.result c.loop-rank.yielded c.in-Some.rank _ _ _ c.index_of.new.self.words c.index_of.new.self.word c.index_of.new.self.before
    c.loop-rank.indices.items c.push.new.self.items c.index_of.result (g.C.CountSteps.step_counts c.loop-rank.steps) (g.C.CountSteps.step_counts c.index_of.new.steps)
    c.loop-rank.invariant c.index_of.ensures.index c.index_of.ensures.read c.index_of.ensures.reached c.in_ok-push.ensures.items c.index_of.ensures.ticked

pub of_indices-requires : goal.of_indices-requires
of_indices-requires g c =
    let m = values c.args.self_buffer.now in
    let indices = c.loop-rank.indices.items in
    let run = found-all g.I.Iterator.next_gives c.args.mask_indices (count m) c.args.true_count c.requires.ranks _ c.into_iter-rank-iterator.ensures.into_iter_gives c.loop-rank.yielded _ c.loop-rank.yielded_by c.next.new.self c.in-None.ensures.steps _ m _ _ _ _ _ c.loop-rank.invariant c.chunks-chunks.ensures.list in
    record {
      ascending = indices-ascending g.I.Iterator.next_gives c.args.mask_indices m c.args.true_count indices c.requires.ranks run;
      within = subst (λ n. All (λ i. i < n) indices) (sym c.len-len.ensures) (indices-within g.I.Iterator.next_gives c.args.mask_indices m c.args.true_count indices c.requires.ranks run);
    }

pub returns-clause-whole : goal.returns-clause-whole
returns-clause-whole g c =
    let m = values c.args.self_buffer.now in
    let run = found-all g.I.Iterator.next_gives c.args.mask_indices (count m) c.args.true_count c.requires.ranks _ c.into_iter-rank-iterator.ensures.into_iter_gives c.loop-rank.yielded _ c.loop-rank.yielded_by c.next.new.self c.in-None.ensures.steps _ m _ _ _ _ _ c.loop-rank.invariant c.chunks-chunks.ensures.list in
    (run.0, run.1, run.2, c.in_ok-of_indices.ensures.mask.true_indices ∙ run.3)
