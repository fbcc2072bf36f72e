use Rattle.mask_c.proofs.Common.{◌≡◌, ◌+◌, ◌-◌, map, take, ap, arith, sum, items_at, sizes}
use Rattle.mask_c.proofs.StringLemmas.{sum-more}
use Rattle.mask_c.proofs.short_strings.before_last.Goals as goal

pub overflow_add-behind : goal.overflow_add-behind
overflow_add-behind g c =
    let ls = sizes (map g.O.Offset.number c.args.offsets.now) in
    let indices = c.args.indices.now in
    let k = c.loop-behind.first - 1 in
    let next : k + 1 ≡ c.loop-behind.first = omega arith in
    omega (arith, c.loop-behind.invariant.all, ap (λ n. sum (items_at ls (take n indices))) next, sum-more ls indices k c.size_at-behind.result (omega arith) c.size_at-behind.ensures, c.requires.fits)

pub loop-behind-preserved : goal.loop-behind-preserved
loop-behind-preserved g c =
    let ls = sizes (map g.O.Offset.number c.args.offsets.now) in
    let indices = c.args.indices.now in
    let k = c.loop-behind.first - 1 in
    let next : k + 1 ≡ c.loop-behind.first = omega arith in
    record {
      within = omega arith;
      all = omega (arith, c.loop-behind.invariant.all, ap (λ n. sum (items_at ls (take n indices))) next, sum-more ls indices k c.size_at-behind.result (omega arith) c.size_at-behind.ensures);
    }
