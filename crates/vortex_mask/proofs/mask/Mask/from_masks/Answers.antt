use Rattle.vortex_mask.proofs.Common.{map, ◌≤◌, ◌^◌, ◌∙◌, subst, IfOk-weaker, total_len, Joins, truth}
use Rattle.vortex_mask.proofs.ResultLemmas.{IfErr-or}
use Rattle.vortex_mask.proofs.mask.Mask.from_masks.Goals as goal

pub returns-clause-whole : goal.returns-clause-whole
returns-clause-whole g c =
    let run = c.in_ok-held.ensures.runs tt in
    IfOk-weaker c.concat_list.result _ _ (λ m joins. (run.0, run.1, run.2, subst (λ ms. Joins (map truth ms) m) (c.deref.ensures.value ∙ run.3.0) joins)) c.concat_list.ensures.list

pub returns-clause-refused_whole : goal.returns-clause-refused_whole
returns-clause-refused_whole g c =
    let run = c.in_ok-held.ensures.runs tt in
    IfErr-or c.concat_list.result _ _ _ (λ e over. (run.0, run.1, run.2, (over.0, subst (λ ms. 2 ^ 64 ≤ total_len (map truth ms)) (c.deref.ensures.value ∙ run.3.0) over.1))) c.concat_list.ensures.refused
