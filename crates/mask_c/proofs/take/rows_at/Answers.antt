use Rattle.mask_c.proofs.Common.{◌≡◌, ◌<◌, ◌+◌, Option, Some, drop, length, slice_get, take, refl, sym, ap, ◌∙◌, arith}
use Rattle.mask_c.proofs.ChooseLemmas.{behind-more, rows_at-more}
use Rattle.mask_c.proofs.take.rows_at.Goals as goal

pub loop-k-preserved : goal.loop-k-preserved
loop-k-preserved g c =
    let k = c.loop-k.k in
    let rows = c.args.rows.now in
    let indices = c.args.indices.now in
    let index = c.index-indices-k.result in
    let row = c.item.result in
    let few : k < length indices = omega (arith, c.loop-k-test.true) in
    let room : k < length c.loop-k.out = omega (arith, few, c.loop-k.auto.out, c.requires.room) in
    let read : slice_get rows (g.N.RowIndex.row_number index) ≡ Some row = ap (slice_get rows) (sym c.get.ensures) ∙ c.item.ensures in
    let f : g.row.N.Denot → Option g.row.T.Denot = λ i. slice_get rows (g.N.RowIndex.row_number i) in
    record {
      rows = ap (take (k + 1)) c.put.ensures ∙ rows_at-more f indices c.loop-k.out k index row few (sym c.index-indices-k.is) room c.loop-k.invariant.rows read;
      behind = ap (drop (k + 1)) c.put.ensures ∙ behind-more c.loop-k.out c.args.out.now k (k + 1) row refl c.loop-k.invariant.behind;
    }
