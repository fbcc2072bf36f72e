use Rattle.mask_bits.proofs.Common.{List, ◌<◌, ◌+◌, ◌*◌, ◌++◌, get_or, length, drop, map, sym, ap, ◌∙◌, append_assoc, arith, length-append, length-map, indices_from, bits_of_words, word_bits}
use Rattle.std.proofs.lemmas.List.{map-append}
use Rattle.mask_bits.proofs.Lists.Places.PushLemmas.{length-indices}
use Rattle.mask_bits.proofs.Lists.Words.BlockLemmas.{count-bits_more, indices-bits_more}
use Rattle.mask_bits.proofs.blocks.push_each.Goals as goal

pub loop-j-preserved : goal.loop-j-preserved
loop-j-preserved g c =
    let of = g.N.RowIndex.index_of in
    let ws = c.args.words.now in
    let j = c.loop-j.j in
    let few : j < length ws = omega (arith, c.loop-j-test.true, c.told-words) in
    let base = c.args.base + 64 * j in
    let next = c.args.base + 64 * (j + 1) in
    let here = indices_from base (word_bits (get_or ws j 0)) in
    let rest = indices_from next (bits_of_words (drop (j + 1) ws)) in
    let old = g.R.Room.items c.loop-j.indices in
    record {
      items = ap (λ (xs : List g.row.N.Denot). xs ++ map of rest) c.push_indices.ensures.items
          ∙ append_assoc old (map of here) (map of rest)
          ∙ ap (λ (xs : List g.row.N.Denot). old ++ xs) (sym (ap (map of) (indices-bits_more ws base next j few (omega arith)) ∙ map-append of here rest))
          ∙ c.loop-j.invariant.items;
      counted = omega (arith, ap length c.push_indices.ensures.items, length-append old (map of here), length-map here of, length-indices base (word_bits (get_or ws j 0)), count-bits_more ws j few, c.loop-j.invariant.counted);
      kept = c.push_indices.ensures.kept ∙ c.loop-j.invariant.kept;
    }
