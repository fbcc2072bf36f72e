use Rattle.mask_c.proofs.Common.{◌≡◌, Bool, List, ◌<◌, ◌+◌, ◌*◌, ◌/◌, ◌%◌, false, length, get_or, map, take, drop, sym, ap, ◌∙◌, arith, ext_get_or, get_or-take, length-drop, length-map, length-take, length-take-le, take-append-drop, take_rest, backing_bit, bitmap, word_bits, length-word_bits, list-from_bits}
use Rattle.std.proofs.lemmas.List.{take-map, drop-map}
use Rattle.mask_c.proofs.LastLemmas.{written}
use Rattle.mask_c.proofs.TakeBitsLemmas.{values-made}
use Rattle.mask_c.proofs.take_bits.bits_at.Goals as goal

pub returns-clause-values : goal.returns-clause-values
returns-clause-values g c =
    let indices = c.args.indices.now in
    let f : g.row.N.Denot → Bool = λ n. backing_bit c.args.bytes.now (c.args.offset + g.N.RowIndex.row_number n) in
    let m = map f indices in
    let n = length indices in
    let w = 64 * (n / 64) in
    let rest = n % 64 in
    let front = c.put_words.new.out in
    let word = c.word_of_indices-word.result in
    let first = map f (take w indices) in
    let len : length m ≡ n = length-map indices f in
    let size : length (take w indices) ≡ w = length-take-le w indices (omega arith) in
    let whole : length first ≡ w = length-map (take w indices) f ∙ size in
    let words : bitmap front 0 w ≡ take w m
    = ap (bitmap front 0) (sym whole) ∙ list-from_bits first front (λ p h. c.put_words.ensures p (omega (arith, whole, size))) ∙ sym (take-map f w indices) in
    c.put_remainder.ensures.list
    ∙ written (take w m) (drop w m) front _ word n (omega (arith, c.put_words.auto.out, length-take (8 * (n / 64)) c.args.out.now, c.requires.room))
    words
    (ext_get_or false (take rest (word_bits word)) (drop w m) (length-take rest (word_bits word) ∙ omega (arith, length-word_bits word, length-drop w m, len)) (λ j h.
    let few : j < rest = omega (arith, length-take rest (word_bits word)) in
    get_or-take rest (word_bits word) j false few
    ∙ c.word_of_indices-word.ensures j (omega arith)
    ∙ ap (λ (xs : List g.row.N.Denot). get_or (map f xs) j false) (take_rest indices w)
    ∙ ap (λ (xs : List Bool). get_or xs j false) (sym (drop-map f w indices))))
    ∙ take-append-drop w m
    ∙ sym (values-made g.N.RowIndex.row_number c.args.bytes.now c.args.offset c.args.len indices c.requires.within)
