use Rattle.vortex_mask.proofs.Common.{◌∙◌, IfOk-weaker}
use Rattle.vortex_mask.proofs.mask.Mask.from_bools.Goals as goal

pub returns-clause-whole : goal.returns-clause-whole
returns-clause-whole g c =
    let run = c.in_ok-buffer.ensures.whole in
    IfOk-weaker c.from_buffer.result _ _ (λ m same. (run.0, run.1, run.2, same ∙ run.3)) c.from_buffer.ensures.list
