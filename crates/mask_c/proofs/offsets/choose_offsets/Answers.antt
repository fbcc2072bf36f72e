use Rattle.mask_c.proofs.Common.{get_or, ◌≡◌, ◌+◌, ◌*◌, ◌≤◌, ◌++◌, length, take, drop, map, refl, sym, ap, ◌∙◌, arith, sum, drop-set-lt, length-map, length-take, take_all, take_more_set, count, positions, ends_from, items_at, offsets_of, sizes, behind-further, count_below-le}
use Rattle.mask_c.proofs.StringLemmas.{items-all, offsets-word, sum-chosen, sum-parts, sum-word, word-counted, word-within}
use Rattle.mask_c.proofs.offsets.choose_offsets.Given.{Over}
use Rattle.mask_c.proofs.offsets.choose_offsets.Goals as goal
use Rattle.mask_c.proofs.offsets.choose_offsets.Goals.{After-indices_in_word-some}

pub put_ends-end-requires-clause-within : goal.put_ends-end-requires-clause-within
put_ends-end-requires-clause-within g c = word-within c.args.chunks.now _ _ c.loop-i.i (length c.args.offsets.now) c.indices_in_word-some.ensures.indices c.requires.offsets

-- the sizes so far and those of the word are no more than the last offset
more : (g : Over) (c : After-indices_in_word-some g)
    → c.loop-i.end + sum (items_at (sizes (map g.O.Offset.number c.args.offsets.now)) (take c.indices_in_word-some.result c.indices_in_word-some.new.block))
    ≤ get_or (map g.O.Offset.number c.args.offsets.now) (length c.args.chunks.now) 0
more g c =
    let ns = map g.O.Offset.number c.args.offsets.now in
    omega (
      arith,
      c.loop-i.invariant.total,
      sum-word (sizes ns) c.args.chunks.now c.loop-i.i _ c.indices_in_word-some.ensures.indices,
      sum-chosen ns c.args.chunks.now (length c.args.chunks.now) c.requires.ascending (length-map c.args.offsets.now g.O.Offset.number ∙ c.requires.offsets),
    )

pub put_ends-end-requires-clause-fits : goal.put_ends-end-requires-clause-fits
put_ends-end-requires-clause-fits g c = omega (arith, more g (goal.at.put_ends-end-requires-clause-fits g c).After-indices_in_word-some, c.requires.fits)

pub put_ends-end-requires-clause-in_usize : goal.put_ends-end-requires-clause-in_usize
put_ends-end-requires-clause-in_usize g c = omega (arith, more g (goal.at.put_ends-end-requires-clause-in_usize g c).After-indices_in_word-some, c.requires.in_usize)

pub put_ends-end-requires-clause-room : goal.put_ends-end-requires-clause-room
put_ends-end-requires-clause-room g c =
    let m = c.args.chunks.now in
    let i = c.loop-i.i in
    let here = take c.indices_in_word-some.result c.indices_in_word-some.new.block in
    omega (arith, c.loop-i.invariant.counted, word-counted m i here c.indices_in_word-some.ensures.indices, count_below-le m (64 * (i + 1)), c.requires.room, c.loop-i.auto.out, c.set_offset.auto.offsets)

pub overflow_add-at : goal.overflow_add-at
overflow_add-at g c =
    let m = c.args.chunks.now in
    let i = c.loop-i.i in
    let here = take c.indices_in_word-some.result c.indices_in_word-some.new.block in
    omega (arith, c.loop-i.invariant.counted, word-counted m i here c.indices_in_word-some.ensures.indices, count_below-le m (64 * (i + 1)), c.requires.room, length-take c.indices_in_word-some.result c.indices_in_word-some.new.block, c.indices_in_word-some.array_long, c.indices_in_word-some.ensures.few)

pub loop-i-init : goal.loop-i-init
loop-i-init g c =
    let numbers = map g.O.Offset.number in
    let old = numbers c.args.out.now in
    record {
      offsets = ap (take 1) c.set_offset.ensures ∙ take_more_set old 0 0 (omega (arith, c.requires.room, length-map c.args.out.now g.O.Offset.number));
      total = refl;
      counted = refl;
      behind = ap (drop 1) c.set_offset.ensures ∙ drop-set-lt 1 old 0 0 (omega arith);
    }

pub loop-i-preserved : goal.loop-i-preserved
loop-i-preserved g c =
    let numbers = map g.O.Offset.number in
    let ls = sizes (numbers c.args.offsets.now) in
    let m = c.args.chunks.now in
    let i = c.loop-i.i in
    let some = c.indices_in_word-some.result in
    let here = take some c.indices_in_word-some.new.block in
    let is = c.indices_in_word-some.ensures.indices in
    let many : length here ≡ some = omega (arith, length-take some c.indices_in_word-some.new.block, c.indices_in_word-some.array_long, c.indices_in_word-some.ensures.few) in
    let next : c.loop-i.at + some ≡ c.loop-i.at + length here = omega (arith, many) in
    record {
      offsets = ap (λ n. take n (numbers c.put_ends-end.new.out)) next
          ∙ c.put_ends-end.ensures.ends
          ∙ ap (λ xs. xs ++ ends_from c.loop-i.end (items_at ls here)) c.loop-i.invariant.offsets
          ∙ offsets-word ls (positions (take (64 * (i + 1)) m)) (positions (take (64 * i) m)) here c.loop-i.end is c.loop-i.invariant.total;
      total = omega (arith, c.put_ends-end.ensures.end, c.loop-i.invariant.total, sum-parts ls (positions (take (64 * (i + 1)) m)) (positions (take (64 * i) m)) here is);
      counted = omega (arith, c.loop-i.invariant.counted, word-counted m i here is, many);
      behind = ap (λ n. drop n (numbers c.put_ends-end.new.out)) next ∙ c.put_ends-end.ensures.behind ∙ behind-further (numbers c.loop-i.out) (numbers c.args.out.now) c.loop-i.at (length here) c.loop-i.invariant.behind ∙ ap (λ n. drop n (numbers c.args.out.now)) (sym next);
    }

pub returns-clause-offsets : goal.returns-clause-offsets
returns-clause-offsets g c =
    let ls = sizes (map g.O.Offset.number c.args.offsets.now) in
    let m = c.args.chunks.now in
    ap (λ n. take n (map g.O.Offset.number c.loop-i.out)) (omega (arith, c.loop-i.invariant.counted, ap count (take_all (64 * c.loop-i.i) m (omega arith)))) ∙ c.loop-i.invariant.offsets
    ∙ ap offsets_of (items-all ls m (64 * c.loop-i.i) (omega arith))

pub returns-clause-size : goal.returns-clause-size
returns-clause-size g c =
    let ls = sizes (map g.O.Offset.number c.args.offsets.now) in
    let m = c.args.chunks.now in
    c.loop-i.invariant.total ∙ ap sum (items-all ls m (64 * c.loop-i.i) (omega arith))
