use Rattle.mask_bits.proofs.Common.{ℕ, ◌+◌, ◌++◌, length, map, take, ap, ◌∙◌, arith, append-nil, length-append, length-map, length-take, take_all, positions, word_bits}
use Rattle.mask_bits.proofs.Lists.Places.PushLemmas.{no_places}
use Rattle.mask_bits.proofs.Lists.Words.WordLemmas.{count-word_bits}
use Rattle.mask_bits.proofs.PutIndicesLemmas.{as_many}
use Rattle.mask_bits.proofs.indices_of_word.put_indices.Goals as goal

pub returns-then-word-eq0-clause-indices : goal.returns-then-word-eq0-clause-indices
returns-then-word-eq0-clause-indices g c = grind (arith, no_places, append-nil, take_all, length-take)

pub returns-then-word-eq0-clause-count : goal.returns-then-word-eq0-clause-count
returns-then-word-eq0-clause-count g c = omega (arith, ap length (no_places c.args.word c.if-word-eq0.true), c.requires.room)

pub put_indices_up_to-requires-clause-enough : goal.put_indices_up_to-requires-clause-enough
put_indices_up_to-requires-clause-enough g c = omega (arith, c.min.ensures, count-word_bits c.args.word c.ranges.word.fits)

pub returns-clause-indices : goal.returns-clause-indices
returns-clause-indices g c =
    let here = map (λ (p : ℕ). g.N.RowIndex.index_of (c.args.first + p)) (positions (word_bits c.args.word)) in
    let before = take c.args.at c.args.out.now in
    c.put_indices_up_to.ensures
    ∙ as_many (length c.args.out.now) (c.args.at + c.min.result) (before ++ here)
    (omega (arith, c.min.ensures, count-word_bits c.args.word c.ranges.word.fits, c.requires.room, length-append before here, length-map (positions (word_bits c.args.word)) (λ (p : ℕ). g.N.RowIndex.index_of (c.args.first + p)), length-take c.args.at c.args.out.now))

pub returns-clause-count : goal.returns-clause-count
returns-clause-count g c = omega (arith, c.min.ensures, count-word_bits c.args.word c.ranges.word.fits, c.requires.room)
