use Rattle.vortex_mask.proofs.Common.{sym, ap, ◌∙◌, inr, IfOk-weaker, index_fault}
use Rattle.vortex_mask.proofs.mask.Mask.from_indices.Goals as goal

pub returns-clause-whole : goal.returns-clause-whole
returns-clause-whole g c =
    let run = c.in_ok-indices.ensures.runs tt in
    IfOk-weaker c.of_indices.result _ _ (λ m is. (run.0, run.1, run.2, is.true_indices ∙ run.3.0)) c.of_indices.ensures.mask

pub returns-in-Some-clause-refused_whole : goal.returns-in-Some-clause-refused_whole
returns-in-Some-clause-refused_whole g c =
    let run = c.in_ok-indices.ensures.runs tt in
    inr (run.0, run.1, run.2, ap (index_fault c.args.len) (sym (c.deref.ensures.value ∙ run.3.0)) ∙ sym c.index_fault.ensures ∙ c.in-Some.is)
