use Rattle.mask_bits.proofs.Common.{◌≡◌, ◌+◌, ◌*◌, replicate, length, slice_range, ap, ◌∙◌, refl, arith, length-between}
use Rattle.mask_bits.proofs.WriteLemmas.{written-full}
use Rattle.mask_bits.proofs.write_bits.put_full.Goals as goal

pub returns : goal.returns
returns c =
    let old = c.args.bytes.now in
    let i = c.args.first in
    let k = c.args.words in
    let len : length (slice_range old (8 * i) (8 * (i + k))) ≡ 8 * k
    = length-between old (8 * i) (8 * (i + k)) c.requires.room ∙ omega arith in
    written-full old c.fill.new.self i k (8 * (i + k)) refl c.requires.room c.requires.clear
    (c.fill.ensures.after (λ y same. same) ∙ ap (λ n. replicate n 255) len)
