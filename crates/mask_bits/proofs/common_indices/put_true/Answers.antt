use Rattle.mask_bits.proofs.Common.{◌≡◌, ◌+◌, ◌<◌, ℕ, Bool, false, List, length, get_or, take, drop, bitmap, ap, ◌∙◌, arith, drop-set-lt}
use Rattle.mask_bits.proofs.Lists.CommonLemmas.{bool_byte-le, filtered-more}
use Rattle.mask_bits.proofs.common_indices.put_true.Goals as goal
use mir.Val.{bool_byte}

pub loop-k-preserved : goal.loop-k-preserved
loop-k-preserved g c =
    let row = g.N.RowIndex.row_number in
    let f : g.row.N.Denot → Bool = λ i. get_or (bitmap c.args.bytes.now c.args.offset c.args.len) (row i) false in
    let k : ℕ = c.loop-k.k in
    let found : ℕ = c.loop-k.found in
    let out : List g.row.N.Denot = c.loop-k.out in
    let x : g.row.N.Denot = c.item-index.result in
    let so_far = c.loop-k.invariant in
    let room : found < length out = omega (arith, so_far.fewer, c.requires.room, c.loop-k.auto.out) in
    let is : c.is_true.result ≡ f x = c.is_true.ensures ∙ ap (λ n. get_or (bitmap c.args.bytes.now c.args.offset c.args.len) n false) c.get.ensures in
    let more = filtered-more f c.args.indices.now out k found x c.item-index.ensures room so_far.found in
    record {
      fewer = omega (arith, so_far.fewer, bool_byte-le c.is_true.result);
      found = ap (λ b. take (found + bool_byte b) c.put.new.out) is ∙ ap (take (found + bool_byte (f x))) c.put.ensures ∙ more;
      behind = ap (drop (length c.args.indices.now)) c.put.ensures ∙ drop-set-lt (length c.args.indices.now) out found x (omega (arith, so_far.fewer)) ∙ so_far.behind;
    }
