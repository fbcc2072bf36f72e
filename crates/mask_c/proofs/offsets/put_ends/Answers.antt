use Rattle.mask_c.proofs.Common.{◌+◌, ◌<◌, length, take, drop, map, ap, ◌∙◌, arith, length-map, sizes}
use Rattle.mask_c.proofs.StringLemmas.{behind-step, ends-step, sum-first, sum-more}
use Rattle.mask_c.proofs.offsets.put_ends.Goals as goal

pub overflow_add-end : goal.overflow_add-end
overflow_add-end g c =
    let ls = sizes (map g.O.Offset.number c.args.offsets.now) in
    omega (arith, c.requires.in_usize, c.loop-k.invariant.total, sum-more ls c.args.indices.now c.loop-k.k c.size_at-end.result (omega arith) c.size_at-end.ensures, sum-first ls c.args.indices.now (c.loop-k.k + 1))

pub set_offset-requires-clause-fits : goal.set_offset-requires-clause-fits
set_offset-requires-clause-fits g c =
    let ls = sizes (map g.O.Offset.number c.args.offsets.now) in
    omega (arith, c.requires.fits, c.loop-k.invariant.total, sum-more ls c.args.indices.now c.loop-k.k c.size_at-end.result (omega arith) c.size_at-end.ensures, sum-first ls c.args.indices.now (c.loop-k.k + 1))

pub loop-k-preserved : goal.loop-k-preserved
loop-k-preserved g c =
    let numbers = map g.O.Offset.number in
    let ls = sizes (numbers c.args.offsets.now) in
    let indices = c.args.indices.now in
    let k = c.loop-k.k in
    let at = c.args.at in
    let size = c.size_at-end.result in
    let few : k < length indices = omega arith in
    let room : at + k < length (numbers c.loop-k.out) = omega (arith, length-map c.loop-k.out g.O.Offset.number, c.loop-k.auto.out, c.requires.room) in
    record {
      ends = ap (take (at + (k + 1))) c.set_offset.ensures
          ∙ ends-step ls indices (numbers c.loop-k.out) (numbers c.args.out.now) c.args.from at k c.loop-k.end size few room c.size_at-end.ensures c.loop-k.invariant.total c.loop-k.invariant.ends;
      total = omega (arith, c.loop-k.invariant.total, sum-more ls indices k size few c.size_at-end.ensures);
      behind = ap (drop (at + (k + 1))) c.set_offset.ensures ∙ behind-step (numbers c.loop-k.out) (numbers c.args.out.now) at k (c.loop-k.end + size) c.loop-k.invariant.behind;
    }
