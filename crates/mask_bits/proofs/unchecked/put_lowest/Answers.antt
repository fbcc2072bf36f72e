use Rattle.mask_bits.proofs.Common.{ℕ, ◌*◌, ◌∙◌, List, ap, sym, arith, bitmap, length, take}
use Rattle.mask_bits.proofs.Lists.Words.FrontLemmas.{front-taken, window-take}
use Rattle.mask_bits.proofs.unchecked.put_lowest.Goals as goal

pub returns : goal.returns
returns c =
    let k = length c.args.out.now in
    let all = c.set_word.new.bytes in
    ap (λ (xs : List ℕ). bitmap xs 0 (8 * k)) c.copy_from_slice.ensures.after ∙ front-taken all k (8 * k) (omega arith)
    ∙ sym (window-take all 0 (8 * k) (omega (arith, c.requires))) ∙ ap (take (8 * k)) c.set_word.ensures.here
