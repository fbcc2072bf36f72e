use Rattle.mask_bits.proofs.Common.{◌≡◌, ◌*◌, ◌+◌, ◌/◌, ◌%◌, ap, sym, ◌∙◌, arith, bitmap, combined, count}
use Rattle.mask_bits.proofs.CombineLemmas.{values-combined}
use Rattle.mask_bits.proofs.CompareLemmas.{count-none, count-whole_and_rest}
use Rattle.mask_bits.proofs.combine.combine_counted.Goals as goal

pub returns-then-rest-eq0-clause-list : goal.returns-then-rest-eq0-clause-list
returns-then-rest-eq0-clause-list g c =
    values-combined g.C.BitOp.of_bits c.args.a.now c.args.b.now c.count_whole-ones.new.out _ _ _ _ c.args.a_offset c.args.b_offset c.args.len (64 * (c.args.len / 64))
    c.new-a.ensures.bytes c.new-a.ensures.low c.new-b.ensures.bytes c.new-b.ensures.low c.count_whole-ones.ensures.list (omega (arith, c.if-rest-eq0.true))

pub returns-then-rest-eq0-clause-counted : goal.returns-then-rest-eq0-clause-counted
returns-then-rest-eq0-clause-counted g c =
    let rest : c.args.len % 64 ≡ 0 = omega (arith, c.if-rest-eq0.true) in
    let all = count-whole_and_rest g.C.BitOp.of_bits c.args.a.now c.args.b.now _ _ _ _ c.args.a_offset c.args.b_offset c.args.len _ 0
    c.new-a.ensures.bytes c.new-a.ensures.low c.new-b.ensures.bytes c.new-b.ensures.low c.count_whole-ones.ensures.counted (grind (arith, count-none, rest)) in
    grind (arith, all, returns-then-rest-eq0-clause-list g c)

pub returns-clause-list : goal.returns-clause-list
returns-clause-list g c =
    values-combined g.C.BitOp.of_bits c.args.a.now c.args.b.now c.count_last.new.out _ _ _ _ c.args.a_offset c.args.b_offset c.args.len (64 * (c.args.len / 64 + 1))
    c.new-a.ensures.bytes c.new-a.ensures.low c.new-b.ensures.bytes c.new-b.ensures.low c.count_last.ensures.list (omega arith)

pub returns-clause-counted : goal.returns-clause-counted
returns-clause-counted g c =
    count-whole_and_rest g.C.BitOp.of_bits c.args.a.now c.args.b.now _ _ _ _ c.args.a_offset c.args.b_offset c.args.len _ _
    c.new-a.ensures.bytes c.new-a.ensures.low c.new-b.ensures.bytes c.new-b.ensures.low c.count_whole-ones.ensures.counted c.count_last.ensures.counted
    ∙ sym (ap count (returns-clause-list g c))
