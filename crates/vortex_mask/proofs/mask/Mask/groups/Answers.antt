use Rattle.vortex_mask.proofs.Common.{◌≡◌, ℕ, ◌+◌, ◌-◌, ◌*◌, Bool, List, [], ◌∷◌, ◌++◌, length, map, min, slice_range, sym, ap, ap₂, ◌∙◌, arith, div_ceil, range_with_len, map-append, map-range_with_len_more, group, truth}
use Rattle.vortex_mask.proofs.Masks.GroupLemmas.{counts-groups}
use Rattle.vortex_mask.proofs.mask.Mask.groups.Goals as goal

-- one more group
pub loop-number-preserved : goal.loop-number-preserved
loop-number-preserved c =
    let n = c.loop-number.number in
    let m : List Bool = truth c.args.self.now in
    let start : ℕ = c.args.size * n in
    let made : truth c.in_ok-slice.field-0 ≡ group m c.args.size n
    = c.in_ok-slice.ensures.list ∙ ap (λ k. slice_range m start (start + k)) (c.min.ensures ∙ ap (λ k. min c.args.size (k - start)) c.len-in-loop-number.ensures) in
    ap (map truth) c.in_ok-push.ensures.items
    ∙ map-append truth c.loop-number.groups.items (c.in_ok-slice.field-0 ∷ [])
    ∙ ap₂ (λ (xs ys : List (List Bool)). xs ++ ys) c.loop-number.invariant (ap (λ (m : List Bool). m ∷ []) made)
    ∙ sym (map-range_with_len_more (group m c.args.size) 0 n n (omega arith))

pub returns-clause-counts : goal.returns-clause-counts
returns-clause-counts c =
    let groups = group (truth c.args.self.now) c.args.size in
    let end : c.loop-number.number ≡ div_ceil (length (truth c.args.self.now)) c.args.size =
    omega (arith, c.loop-number-test.false, c.loop-number.auto.number-end) ∙ c.div_ceil-count.ensures ∙ ap (λ n. div_ceil n c.args.size) c.len.ensures in
    counts-groups c.loop-number.groups.items groups _ (c.loop-number.invariant ∙ ap (λ n. map groups (range_with_len 0 n)) end)
