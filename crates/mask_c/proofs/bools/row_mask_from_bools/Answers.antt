use Rattle.mask_c.proofs.Common.{Bool, List, ◌<◌, ◌*◌, ◌/◌, ◌%◌, false, length, get_or, take, drop, sym, ap, ◌∙◌, arith, ext_get_or, get_or-take, length-drop, length-take, length-take-le, take-append-drop, take_rest, bitmap, word_bits, length-word_bits, list-from_bits}
use Rattle.mask_c.proofs.LastLemmas.{written}
use Rattle.mask_c.proofs.bools.row_mask_from_bools.Goals as goal

pub returns-clause-values : goal.returns-clause-values
returns-clause-values c =
    let m = c.args.values.now in
    let front = c.put_bools.new.bytes in
    let word = c.word_of_bools.result in
    let w = 64 * (length m / 64) in
    let rest = length m % 64 in
    c.put_remainder.ensures.list
    ∙ written (take w m) (drop w m) front _ word (length m) (omega (arith, c.put_bools.auto.bytes, length-take (8 * (length m / 64)) c.args.out.now, c.requires))
    (ap (bitmap front 0) (sym (length-take-le w m (omega arith))) ∙ list-from_bits (take w m) front c.put_bools.ensures)
    (ext_get_or false (take rest (word_bits word)) (drop w m) (length-take rest (word_bits word) ∙ omega (arith, length-word_bits word, length-drop w m)) (λ j h.
    let few : j < rest = omega (arith, length-take rest (word_bits word)) in
    get_or-take rest (word_bits word) j false few ∙ c.word_of_bools.ensures j (omega arith) ∙ ap (λ (xs : List Bool). get_or xs j false) (take_rest m w)))
    ∙ take-append-drop w m
