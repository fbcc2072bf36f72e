use Rattle.mask_c.proofs.Common.{ℕ, List, ◌+◌, ◌*◌, ◌++◌, take, map, sym, ap, ◌∙◌, arith, length-map, take_all, positions, word_bits, count-le-length, length-word_bits}
use Rattle.mask_c.proofs.ChooseLemmas.{positions-word_more}
use Rattle.mask_c.proofs.IndexLemmas.{indices-within}
use Rattle.mask_c.proofs.indices.indices_in_word.Goals as goal

pub put_indices-requires-clause-fits : goal.put_indices-requires-clause-fits
put_indices-requires-clause-fits c =
    indices-within c.args.chunks.now (64 * c.args.i) c.args.i c.started_word.result c.started_word.ensures (omega (arith, c.requires.within)) (omega (arith, c.requires.fits, c.requires.within))

pub returns-clause-indices : goal.returns-clause-indices
returns-clause-indices c =
    let i = c.args.i in
    let m = c.args.chunks.now in
    let word = c.started_word.result in
    let here = map (λ p. 64 * i + p) (positions (word_bits word)) in
    positions-word_more m i (omega (arith, c.requires.within))
    ∙ ap (λ (ps : List ℕ). positions (take (64 * i) m) ++ ps)
    (ap (λ x. map (λ p. 64 * i + p) (positions x)) (sym c.started_word.ensures)
    ∙ sym (c.put_indices.ensures.indices ∙ take_all _ here (omega (arith, c.told-block, length-map (positions (word_bits word)) (λ p. 64 * i + p), count-le-length (word_bits word), length-word_bits word))))
