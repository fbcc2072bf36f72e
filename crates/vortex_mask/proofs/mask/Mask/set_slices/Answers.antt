use Rattle.vortex_mask.proofs.Common.{◌≡◌, ◌<◌, Bool, List, [], ◌∷◌, true, repeated, ap, sym, subst, ◌∙◌, arith, AreRuns, truth, all_false_has_no_run, all_true_is_one_run}
use Rattle.vortex_mask.proofs.mask.Mask.set_slices.Goals as goal

pub returns-in-AllTrue-eq0-clause-runs : goal.returns-in-AllTrue-eq0-clause-runs
unfolding repeated
returns-in-AllTrue-eq0-clause-runs c =
    let zero : c.in-AllTrue-eq0.field-0 ≡ 0 = grind (arith, c.in-AllTrue-eq0.field-0-test) in
    subst (λ (m : List Bool). AreRuns m []) (sym (ap truth c.in-AllTrue-eq0.is ∙ ap (λ n. repeated n true) zero)) (all_false_has_no_run 0)

pub returns-in-AllTrue-clause-runs : goal.returns-in-AllTrue-clause-runs
returns-in-AllTrue-clause-runs c =
    let some : 0 < c.in-AllTrue.len = grind (arith, c.in-AllTrue.len-test) in
    subst (λ (m : List Bool). AreRuns m ((0, c.in-AllTrue.len) ∷ [])) (sym (ap truth c.in-AllTrue.is)) (all_true_is_one_run c.in-AllTrue.len some)

pub returns-in-AllFalse-clause-runs : goal.returns-in-AllFalse-clause-runs
returns-in-AllFalse-clause-runs c =
    subst (λ (m : List Bool). AreRuns m []) (sym (ap truth c.in-AllFalse.is)) (all_false_has_no_run c.in-AllFalse.field-0)
