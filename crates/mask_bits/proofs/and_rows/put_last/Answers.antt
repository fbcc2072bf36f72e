use Rattle.mask_bits.proofs.Common.{◌≡◌, ◌*◌, ◌-◌, length, take, drop, subst, ◌∙◌, arith, bitmap, word_bits}
use Rattle.mask_bits.proofs.AnswerLemmas.{length-part}
use Rattle.mask_bits.proofs.LeftLemmas.{bits_of_last}
use Rattle.mask_bits.proofs.and_rows.put_last.Goals as goal

pub returns-clause-here : goal.returns-clause-here
returns-clause-here c =
    let bytes = c.args.bytes.now in
    let i = c.args.i in
    let e = c.min-end.result in
    let ys = c.put_lowest.new.out in
    let size : length (take (e - 8 * i) (drop (8 * i) bytes)) ≡ e - 8 * i = length-part bytes (8 * i) e (omega (arith, c.min-end.ensures)) in
    bits_of_last bytes ys c.args.word i e c.requires c.min-end.ensures (c.put_lowest.auto.out ∙ size) (subst (λ n. bitmap ys 0 (8 * n) ≡ take (8 * n) (word_bits c.args.word)) size c.put_lowest.ensures)
