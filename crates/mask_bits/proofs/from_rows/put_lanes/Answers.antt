use Rattle.mask_bits.proofs.Common.{◌≡◌, ◌+◌, ◌++◌, set, length, take, sym, subst, ap, ◌∙◌, arith, FnReturnsAt, length-append, take_more, ArePacked, length-take-le, append_assoc, bool_byte}
use Rattle.mask_bits.proofs.AnswerLemmas.{packed_one_more}
use Rattle.mask_bits.proofs.from_rows.put_lanes.Goals as goal

pub loop-j-preserved : goal.loop-j-preserved
loop-j-preserved g c front len start =
    let rows = c.args.rows.now in
    let j = c.loop-j.j in
    let gives = FnReturnsAt g.F.Fn c.args.test.now in
    let at = c.args.at + j in
    let few : length (take j rows) ≡ j = length-take-le j rows (omega (arith, c.loop-j-test.true)) in
    subst (λ rs. ArePacked g.row.N gives rs (set c.loop-j.lanes at (bool_byte c.test.result)))
    (append_assoc front (take j rows) _ ∙ ap (λ rs. front ++ rs) (sym (take_more rows j c.index-rows-j.result c.loop-j-test.true)))
    (packed_one_more g.row.N gives (front ++ take j rows) at c.loop-j.lanes _ c.test.result (omega (arith, length-append front (take j rows), len, few))
    (omega (arith, c.loop-j-test.true, c.requires.room)) (record { shown = _; shows = c.index-rows-j.is; says = record { met = c.test.ensures } }) (c.loop-j.invariant front len start))
