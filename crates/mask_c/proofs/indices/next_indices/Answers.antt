use Rattle.mask_c.proofs.Common.{◌≡◌, ℕ, Bool, List, ◌+◌, ◌*◌, length, map, min, take, sym, ap, ◌∙◌, arith, drop_of_length-le, take_all, count, indices_from, positions, count_below-le, length-bitmap}
use Rattle.mask_c.proofs.IndexLemmas.{bitmap-rest, indices-within, all_indices, first_indices, word_done, word_counted}
use Rattle.mask_c.proofs.indices.next_indices.Goals as goal

pub returns-then-from-len-clause-indices : goal.returns-then-from-len-clause-indices
returns-then-from-len-clause-indices g c = grind (arith, drop_of_length-le, length-bitmap)

pub returns-then-from-len-clause-count : goal.returns-then-from-len-clause-count
returns-then-from-len-clause-count g c = grind (arith, drop_of_length-le, length-bitmap)

pub put_indices-at-requires-clause-fits : goal.put_indices-at-requires-clause-fits
put_indices-at-requires-clause-fits g c =
    let len = c.new-chunks.ensures.len in
    indices-within c.new-chunks.result (c.args.from + 64 * c.loop-i.i) c.loop-i.i c.started_word.result c.started_word.ensures (omega arith) (omega (arith, c.if-from-len.false))

pub loop-i-preserved : goal.loop-i-preserved
loop-i-preserved g c =
    let of = g.N.RowIndex.index_of in
    let m = c.new-chunks.result in
    let i = c.loop-i.i in
    let was = c.loop-i.invariant in
    let put = c.put_indices-at in
    let n = length c.loop-i.out in
    let len = c.new-chunks.ensures.len in
    record {
      indices = word_done of m c.args.from i c.loop-i.at put.result _ n c.loop-i.out put.new.out (omega arith) c.started_word.ensures was.indices put.ensures.indices
          ∙ ap (λ (k : ℕ). take k (map (λ (p : ℕ). of (c.args.from + p)) (positions (take (64 * (i + 1)) m)))) (sym put.auto.out);
      counted = word_counted m i c.loop-i.at put.result _ n c.started_word.ensures was.counted put.ensures.count
          ∙ ap (λ (k : ℕ). min k (count (take (64 * (i + 1)) m))) (sym put.auto.out);
    }

pub returns-then-at-out : goal.returns-then-at-out
returns-then-at-out g c =
    let of = g.N.RowIndex.index_of in
    let m = c.new-chunks.result in
    let size : length c.loop-i.out ≡ length c.args.out.now = omega (arith, c.loop-i.auto.out) in
    let i = c.loop-i.i in
    let was = c.loop-i.invariant in
    let put = c.put_indices-at in
    let n = length c.loop-i.out in
    let len = c.new-chunks.ensures.len in
    let many = word_counted m i c.loop-i.at put.result _ n c.started_word.ensures was.counted put.ensures.count in
    let rest = c.new-chunks.ensures.list ∙ bitmap-rest c.args.bytes.now c.args.offset c.args.len c.args.from (omega (arith, c.if-from-len.false)) in
    record {
      indices = word_done of m c.args.from i c.loop-i.at put.result _ n c.loop-i.out put.new.out (omega arith) c.started_word.ensures was.indices put.ensures.indices
          ∙ first_indices of m c.args.from n (64 * (i + 1)) (omega (arith, many, c.if-at-out.true, put.auto.out))
          ∙ ap (λ (k : ℕ). take k (map of (indices_from c.args.from m))) size
          ∙ ap (λ (x : List Bool). take (length c.args.out.now) (map of (indices_from c.args.from x))) rest;
      count = omega (arith, many, c.if-at-out.true, put.auto.out, size, count_below-le m (64 * (i + 1)), ap count rest);
    }

pub returns-clause-indices : goal.returns-clause-indices
returns-clause-indices g c =
    let of = g.N.RowIndex.index_of in
    let m = c.new-chunks.result in
    let size : length c.loop-i.out ≡ length c.args.out.now = omega (arith, c.loop-i.auto.out) in
    let len = c.new-chunks.ensures.len in
    let rest = c.new-chunks.ensures.list ∙ bitmap-rest c.args.bytes.now c.args.offset c.args.len c.args.from (omega (arith, c.if-from-len.false)) in
    c.loop-i.invariant.indices
    ∙ ap (take (length c.loop-i.out)) (all_indices of m c.args.from (64 * c.loop-i.i) (omega arith))
    ∙ ap (λ (k : ℕ). take k (map of (indices_from c.args.from m))) size
    ∙ ap (λ (x : List Bool). take (length c.args.out.now) (map of (indices_from c.args.from x))) rest

pub returns-clause-count : goal.returns-clause-count
returns-clause-count g c = grind (arith, bitmap-rest, take_all)
