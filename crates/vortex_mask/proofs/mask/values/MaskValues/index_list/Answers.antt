use Rattle.vortex_mask.proofs.Common.{values, arith, rules}
use Rattle.vortex_mask.proofs.Masks.CachedLemmas.{cached-runs, runs-hold, nonempty-cached, inside-cached}
use Rattle.vortex_mask.proofs.mask.values.MaskValues.index_list.Goals as goal

pub indices_in-requires-clause-nonempty : goal.indices_in-requires-clause-nonempty
indices_in-requires-clause-nonempty c =
    nonempty-cached (values c.args.self.now.buffer) c.in-Some.ranges.now (cached-runs (values c.args.self.now.buffer) c.args.self.now.caches c.in-Some.ranges.now c.in-Some.ensures.cached c.in-Some.ensures.whole)

pub indices_in-requires-clause-counted : goal.indices_in-requires-clause-counted
indices_in-requires-clause-counted c =
    runs-hold (values c.args.self.now.buffer) c.in-Some.ranges.now c.self.inside.true_count
    (cached-runs (values c.args.self.now.buffer) c.args.self.now.caches c.in-Some.ranges.now c.in-Some.ensures.cached c.in-Some.ensures.whole) (search rules)

pub returns-in-Some : goal.returns-in-Some
returns-in-Some c =
    let all = inside-cached (values c.args.self.now.buffer) c.in-Some.ranges.now (cached-runs (values c.args.self.now.buffer) c.args.self.now.caches c.in-Some.ranges.now c.in-Some.ensures.cached c.in-Some.ensures.whole) in
    grind (arith, all, c.indices_in.ensures)
