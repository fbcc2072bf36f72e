use Rattle.mask_bits.proofs.Common.{◌≡◌, ◌∙◌, ap, ap₂, sym, subst, ◌+◌, ◌<◌, ◌++◌, ◌∷◌, [], ℕ, List, length, map, get_or, take, refl, arith, length-map, take-set_at, get_or-set_other, get_or_from_slice_get, AreSplit, IsStrictlyIncreasing}
use Rattle.mask_bits.proofs.Lists.CommonLemmas.{common-found, common-missed}
use Rattle.mask_bits.proofs.Lists.Places.AscendingLemmas.{rises_to}
use Rattle.mask_bits.proofs.common_indices.look_up.Goals as goal
use Rattle.mask_bits.proofs.common_indices.look_up.Goals.{then-from-long+then-number_at-index, else-from-long, else-from-long-via-then-from-long+else-number_at-index, else-from-long-via-else-from-long}

pub loop-i-preserved : goal.loop-i-preserved
loop-i-preserved g c =
    let row = g.N.RowIndex.row_number in
    let xs : List ℕ = map row c.args.short.now in
    let ys : List ℕ = map row c.args.long.now in
    let now : List ℕ = map row c.loop-i.short in
    let i : ℕ = c.loop-i.i in
    let n : ℕ = c.place_of-from.result in
    let found : ℕ = c.loop-i.found in
    let so_far = c.loop-i.invariant in
    let few = so_far.fewer in
    let len_xs : length xs ≡ length c.args.short.now = length-map c.args.short.now row in
    let len_ys : length ys ≡ length c.args.long.now = length-map c.args.long.now row in
    let len_now : length now ≡ length c.loop-i.short = length-map c.loop-i.short row in
    let same : c.number_at-index.result ≡ get_or xs i 0 = sym c.number_at-index.ensures.index ∙ so_far.kept i (omega arith) in
    let there : i < length xs = omega (arith, c.loop-i.auto.short) in
    let split : IsStrictlyIncreasing xs → IsStrictlyIncreasing ys → AreSplit ys n (get_or xs i 0)
    = λ a b. subst (AreSplit ys n) same (c.place_of-from.ensures.split b (λ k h. subst (λ (x : ℕ). get_or ys k 0 < x) (sym same) (so_far.passed a b k i h (omega arith) (omega (arith, c.loop-i.auto.short))))) in
    record {
      within = c.place_of-from.ensures.within;
      fewer = elim c.if-from-long.branch [
        | then-from-long+then-number_at-index w ↦ omega (arith, w.found-is, few)
        | else-from-long w ↦ omega (arith, w.found-is, few)
      ];
      kept = λ k h. elim c.if-from-long.branch [
        | then-from-long+then-number_at-index w ↦
            ap (λ zs. get_or (map row zs) k 0) w.short-is ∙ ap (λ zs. get_or zs k 0) w.copy_to.ensures.written
            ∙ get_or-set_other now found k w.copy_to.result 0 (λ e. absurd (omega (arith, few))) ∙ so_far.kept k (omega arith)
        | else-from-long w ↦ ap (λ zs. get_or (map row zs) k 0) w.short-is ∙ so_far.kept k (omega arith)
      ];
      passed = λ a b k j h later inside. omega (arith, (split a b).before k h, rises_to xs i j a (omega arith) (omega (arith, c.if-from-long.auto.short, c.loop-i.auto.short)));
      found = λ a b. elim c.if-from-long.branch [
        | then-from-long+then-number_at-index w ↦
            ap₂ (λ m zs. take m (map row zs)) w.found-is w.short-is ∙ ap (take (found + 1)) w.copy_to.ensures.written
            ∙ take-set_at now found (found + 1) w.copy_to.result refl (omega (arith, few, c.loop-i.auto.short))
            ∙ ap₂ (λ zs x. zs ++ x ∷ []) (so_far.found a b) (sym (get_or_from_slice_get now i w.copy_to.result 0 w.copy_to.ensures.read) ∙ so_far.kept i (omega arith))
            ∙ sym (common-found xs ys i n there (omega (arith, w.if-from-long.true)) (w.number_at.ensures.index ∙ w.if-number_at-index.true ∙ same))
        | else-from-long w ↦
            ap₂ (λ m zs. take m (map row zs)) w.found-is w.short-is ∙ so_far.found a b
            ∙ sym (common-missed xs ys i n b there (split a b) (elim w.else-from-long.branch [
              | else-from-long-via-then-from-long+else-number_at-index v ↦ λ h e. v.if-number_at-index.false (sym v.number_at.ensures.index ∙ e ∙ sym same)
              | else-from-long-via-else-from-long v ↦ λ h e. absurd (omega (arith, v.if-from-long.false))
            ]))
      ];
    }
