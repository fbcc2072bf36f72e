use Rattle.mask_c.proofs.Common.{◌≡◌, ◌+◌, ◌++◌, length, take, drop, map, sym, ap, ◌∙◌, arith, drop-set-lt, length-map, take_more_set, ends_from, items_at, sizes, behind-later}
use Rattle.mask_c.proofs.offsets.take_offsets.Goals as goal

pub returns-clause-offsets : goal.returns-clause-offsets
returns-clause-offsets g c =
    let numbers = map g.O.Offset.number in
    let old = numbers c.args.out.now in
    let next : length c.args.indices.now + 1 ≡ 1 + length c.args.indices.now = omega arith in
    ap (λ n. take n (numbers c.put_ends.new.out)) next
    ∙ c.put_ends.ensures.ends
    ∙ ap (λ xs. xs ++ ends_from 0 (items_at (sizes (numbers c.args.offsets.now)) c.args.indices.now))
    (ap (take 1) c.set_offset.ensures ∙ take_more_set old 0 0 (omega (arith, c.requires.room, length-map c.args.out.now g.O.Offset.number)))

pub returns-clause-behind : goal.returns-clause-behind
returns-clause-behind g c =
    let numbers = map g.O.Offset.number in
    let old = numbers c.args.out.now in
    let next : length c.args.indices.now + 1 ≡ 1 + length c.args.indices.now = omega arith in
    ap (λ n. drop n (numbers c.put_ends.new.out)) next
    ∙ c.put_ends.ensures.behind
    ∙ behind-later (numbers c.set_offset.new.offsets) old 1 (1 + length c.args.indices.now) (omega arith) (ap (drop 1) c.set_offset.ensures ∙ drop-set-lt 1 old 0 0 (omega arith))
    ∙ ap (λ n. drop n old) (sym next)
