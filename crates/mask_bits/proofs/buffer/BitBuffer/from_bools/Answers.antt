use Rattle.mask_bits.proofs.Common.{◌∙◌, IfOk-weaker}
use Rattle.mask_bits.proofs.buffer.BitBuffer.from_bools.Goals as goal

pub returns-clause-whole : goal.returns-clause-whole
returns-clause-whole g c =
    let run = c.in_ok-bools.ensures.runs tt in
    IfOk-weaker c.from_slice.result _ _ (λ b same. (run.0, run.1, run.2, same ∙ c.deref.ensures.value ∙ run.3.0)) c.from_slice.ensures
