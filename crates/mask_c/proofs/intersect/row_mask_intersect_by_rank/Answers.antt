use Rattle.mask_c.proofs.Common.{◌≡◌, length, sym, ap, ◌∙◌, arith, bitmap, count, length-bitmap}
use Rattle.mask_c.proofs.LastLemmas.{narrowed_by_all}
use Rattle.mask_c.proofs.intersect.row_mask_intersect_by_rank.Goals as goal

pub returns-then-ranks_len-len-clause-values : goal.returns-then-ranks_len-len-clause-values
returns-then-ranks_len-len-clause-values c =
    let m = bitmap c.args.bytes.now c.args.offset c.args.len in
    let r = bitmap c.args.ranks.now c.args.ranks_offset c.args.ranks_len in
    let is = c.if-ranks_len-len.true in
    let len = length-bitmap c.args.bytes.now c.args.offset c.args.len in
    let all : count m ≡ length m = omega (arith, c.requires.fitting, is, len) in
    let alike : length r ≡ length m = omega (arith, length-bitmap c.args.ranks.now c.args.ranks_offset c.args.ranks_len, is, len) in
    c.row_mask_copy.ensures.values ∙ ap (bitmap c.args.ranks.now c.args.ranks_offset) (sym is) ∙ sym (narrowed_by_all m r all alike)
