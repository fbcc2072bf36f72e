use Rattle.mask_bits.specs.Lists.{combined}
use Rattle.vortex_mask.proofs.Common.{ap, ap₂, ◌∙◌, IfOk-weaker, bitmap}
use Rattle.vortex_mask.proofs.Lists.BufferPartLemmas.{bitmap-parts, written-all}
use Rattle.vortex_mask.proofs.bitops.combined_mask.Goals as goal

pub returns-clause-list : goal.returns-clause-list
returns-clause-list g c =
    let list = c.combine_counted-true_count.ensures.list
    ∙ ap₂ (combined g.C.BitOp.of_bits)
    (bitmap-parts c.args.a.now _ _ _ (c.as_slice-first.ensures ∙ c.inner.ensures.bytes) c.offset.ensures c.len-len.ensures)
    (bitmap-parts c.args.b.now _ _ _ (c.as_slice-second.ensures ∙ c.inner-2.ensures.bytes) c.offset-2.ensures (c.len-len.ensures ∙ c.requires)) in
    let all = written-all c.combine_counted-true_count.new.out c.in_ok-out.out.items _ (c.combine_counted-true_count.auto.out ∙ c.deref_mut.ensures.len) in
    IfOk-weaker c.of_words.result _ _ (λ m is. is ∙ ap (λ ys. bitmap ys 0 c.len-len.result) all ∙ list) c.of_words.ensures.list
