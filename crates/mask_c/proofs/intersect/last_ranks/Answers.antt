use Rattle.mask_c.proofs.Common.{◌-◌, ◌<◌, get_or, length, arith, one_shl}
use Rattle.mask_c.proofs.LastRankLemmas.{gathered-more, gathered-none, gathered-split}
use Rattle.mask_c.proofs.intersect.last_ranks.Goals as goal

pub loop-cut-init : goal.loop-cut-init
loop-cut-init c = gathered-none c.args.ranks.now c.args.from

pub loop-cut-preserved : goal.loop-cut-preserved
loop-cut-preserved c =
    let ranks = c.args.ranks.now in
    let cut = c.loop-cut.cut in
    let inside : cut - 1 < length ranks = omega (arith, c.loop-cut.invariant.within, c.loop-cut-test.true) in
    let few : get_or ranks (cut - 1) 0 - c.args.from < 64 = omega (arith, c.requires.few (cut - 1) 0 inside) in
    gathered-more ranks c.args.from cut c.loop-cut.bits _ c.loop-cut-test.true c.if-ranks-cut.true
    (one_shl (get_or ranks (cut - 1) 0 - c.args.from) 64 few) c.loop-cut.invariant

pub returns-else-ranks-cut-clause-split : goal.returns-else-ranks-cut-clause-split
returns-else-ranks-cut-clause-split c =
    gathered-split c.args.ranks.now c.args.from c.loop-cut.cut c.loop-cut.bits c.requires.ascending (λ h. c.if-ranks-cut.false) c.loop-cut.invariant
