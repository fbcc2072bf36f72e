use Rattle.mask_c.proofs.Common.{◌+◌, ◌*◌, ◌∙◌, arith, behind-later}
use Rattle.mask_c.proofs.ShortStringLemmas.{next-eight}
use Rattle.mask_c.proofs.short_strings.put_words.Goals as goal

pub loop-j-preserved : goal.loop-j-preserved
loop-j-preserved g c =
    let at = c.args.at + 8 * c.loop-j.j in
    let so_far = c.loop-j.invariant in
    let put = c.put_eight in
    record {
      bytes = next-eight c.args.bytes.now c.args.out.now c.loop-j.out put.new.out c.args.at c.args.begin c.loop-j.j put.ensures.bytes so_far.bytes;
      behind = behind-later put.new.out c.args.out.now (at + 8) (c.args.at + 8 * (c.loop-j.j + 1)) (omega arith) (put.ensures.behind ∙ behind-later c.loop-j.out c.args.out.now at (at + 8) (omega arith) so_far.behind);
    }
