use Rattle.vortex_mask.proofs.Common.{◌∙◌, ap, sym, rc_with_value, Values}
use Rattle.vortex_mask.proofs.ResultLemmas.{OnErr-map}
use Rattle.vortex_mask.proofs.mask.Mask.fill.Goals as goal

-- a pointer with its own value written over it is itself
pub returns-in-Some-clause-unfilled : goal.returns-in-Some-clause-unfilled
returns-in-Some-clause-unfilled c =
    OnErr-map c.cache_list.result _ _
    (λ same. ap (λ v. Values (rc_with_value c.in-Values.values v)) (same ∙ c.in-Some.ensures.value) ∙ sym c.in-Values.is)
    c.cache_list.ensures.unfilled
