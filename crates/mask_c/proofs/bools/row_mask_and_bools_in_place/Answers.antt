use Rattle.mask_c.proofs.Common.{Bool, List, ◌*◌, ◌/◌, ◌∙◌, false, ap, arith, get_or, length, length-take, refl, take_rest}
use Rattle.mask_c.proofs.NarrowedLemmas.{narrowed-written}
use Rattle.mask_c.proofs.bools.row_mask_and_bools_in_place.Goals as goal

pub returns-clause-values : goal.returns-clause-values
returns-clause-values c =
    let m = c.args.values.now in
    c.put_remainder.ensures.list
    ∙ narrowed-written c.args.a.now c.and_words.new.bytes _ m (length m) c.word_at.result c.word_of_bools.result refl c.requires
    (omega (arith, c.and_words.auto.bytes, length-take (8 * (length m / 64)) c.args.a.now, c.requires))
    c.and_words.ensures c.word_at.ensures (λ j h. c.word_of_bools.ensures j h ∙ ap (λ (xs : List Bool). get_or xs j false) (take_rest m (64 * (length m / 64))))
