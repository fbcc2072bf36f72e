use Rattle.vortex_mask.proofs.Common.{◌≡◌, false, true, length, map, sym, subst, ap, ◌∙◌, and_of, IfOk-weaker, repeated, count-repeated_false, length-map, length-repeated, Mask}
use Rattle.vortex_mask.proofs.Masks.MaskLemmas.{fitting_variant-all_false}
use Rattle.vortex_mask.specs.Mask.{truth, variant, fitting_variant, all_false}
use Rattle.mask_bits.proofs.Lists.LeavesLemmas.{and_of_true, and_of_false, left_of_true, left_of_false}
use Rattle.mask_bits.specs.Rows.{AreLeft}
use Rattle.std.specs.Fn.{FnReturnsAt}
use Rattle.vortex_mask.proofs.mask.Mask.and_rows.Goals as goal

pub returns-in-AllTrue-clause-left : goal.returns-in-AllTrue-clause-left
returns-in-AllTrue-clause-left g c =
    let rows = c.args.rows.now in
    let n = c.in-AllTrue.field-0 in
    let gives = FnReturnsAt g.F.Fn c.args.test in
    let is : truth c.args.self.now ≡ repeated n true = ap truth c.in-AllTrue.is in
    let same : length rows ≡ n = c.requires.same_len ∙ ap length is ∙ length-repeated n true in
    IfOk-weaker c.from_rows.result _ _ (λ m are. subst (λ b. AreLeft gives rows b (truth m)) (sym is) (left_of_true gives rows n (truth m) same are)) c.from_rows.ensures.answers

pub returns-in-AllTrue-clause-list : goal.returns-in-AllTrue-clause-list
returns-in-AllTrue-clause-list g c =
    let rows = c.args.rows.now in
    let n = c.in-AllTrue.field-0 in
    let is : truth c.args.self.now ≡ repeated n true = ap truth c.in-AllTrue.is in
    let same : length rows ≡ n = c.requires.same_len ∙ ap length is ∙ length-repeated n true in
    IfOk-weaker c.from_rows.result _ _ (λ m are f computes. are f computes ∙ sym (ap (λ b. and_of b (map f rows)) is ∙ and_of_true n (map f rows) (length-map rows f ∙ same))) c.from_rows.ensures.list

pub returns-in-AllFalse-clause-left : goal.returns-in-AllFalse-clause-left
returns-in-AllFalse-clause-left g c =
    let rows = c.args.rows.now in
    let n = c.in-AllFalse.len in
    let gives = FnReturnsAt g.F.Fn c.args.test in
    let is : truth c.args.self.now ≡ repeated n false = ap truth c.in-AllFalse.is in
    let made : truth c.new_false.result ≡ repeated n false = ap truth c.new_false.ensures in
    let same : length rows ≡ n = c.requires.same_len ∙ ap length is ∙ length-repeated n false in
    subst (λ b. AreLeft gives rows b (truth c.new_false.result)) (sym is) (subst (λ b. AreLeft gives rows (repeated n false) b) (sym made) (left_of_false gives rows n same))

pub returns-in-AllFalse-clause-list : goal.returns-in-AllFalse-clause-list
returns-in-AllFalse-clause-list g c f computes =
    let rows = c.args.rows.now in
    let n = c.in-AllFalse.len in
    let is : truth c.args.self.now ≡ repeated n false = ap truth c.in-AllFalse.is in
    let made : truth c.new_false.result ≡ repeated n false = ap truth c.new_false.ensures in
    let same : length rows ≡ n = c.requires.same_len ∙ ap length is ∙ length-repeated n false in
    made ∙ sym (ap (λ b. and_of b (map f rows)) is ∙ and_of_false n (map f rows) (length-map rows f ∙ same))

pub returns-in-AllFalse-clause-variant : goal.returns-in-AllFalse-clause-variant
returns-in-AllFalse-clause-variant g c =
    let n = c.in-AllFalse.len in
    subst (λ (m : Mask). variant m ≡ fitting_variant all_false (truth m)) (sym c.new_false.ensures) (sym (fitting_variant-all_false (repeated n false) (count-repeated_false n)))
