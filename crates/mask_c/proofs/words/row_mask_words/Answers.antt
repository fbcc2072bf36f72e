use Rattle.mask_c.proofs.Common.{◌<◌, ◌≢◌, ◌+◌, drop, length, get_or-set_same, get_or-set_other, below_more, sym, ap, ◌∙◌, arith, drop-drop, drop-set-lt, padded_part-whole}
use Rattle.mask_c.proofs.words.row_mask_words.Goals as goal

pub loop-i-preserved : goal.loop-i-preserved
loop-i-preserved c =
    let i = c.loop-i.i in
    let m = c.new-chunks.result in
    let whole = padded_part-whole m (c.args.from + i) (omega (arith, c.loop-i-test, c.len.ensures)) in
    record {
      words = below_more _ _
          (λ k h. let ne : k ≢ i = omega arith in rw get_or-set_other (c.loop-i.invariant.words k h))
          (let lt : i < length c.loop-i.out = omega arith in rw get_or-set_same (c.word.ensures ∙ whole));
      behind =
          drop-set-lt (i + 1) c.loop-i.out i _ (omega arith)
          ∙ sym (drop-drop 1 i c.loop-i.out) ∙ ap (drop 1) c.loop-i.invariant.behind ∙ drop-drop 1 i c.args.out.now;
    }
