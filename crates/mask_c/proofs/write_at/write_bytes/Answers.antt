use Rattle.mask_c.proofs.Common.{◌+◌, ◌∙◌, arith, length-between}
use Rattle.mask_c.proofs.WriteLemmas.{written-bytes}
use Rattle.mask_c.proofs.write_at.write_bytes.Goals as goal

pub returns : goal.returns
returns c =
    let begin = c.args.begin in
    let end = begin + c.args.count in
    written-bytes c.args.bytes.now c.row_mask_copy.new.out c.args.more.now begin c.args.count c.args.more_offset
    (record {
      ordered = omega arith;
      within = c.requires.within;
      len = c.row_mask_copy.auto.out ∙ length-between c.args.bytes.now begin end c.requires.within;
    }) c.row_mask_copy.ensures.values
