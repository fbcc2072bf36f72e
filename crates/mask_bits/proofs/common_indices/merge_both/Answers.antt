use Rattle.mask_bits.proofs.Common.{map, arith, length-map}
use Rattle.mask_bits.proofs.Lists.CommonLemmas.{found-from_fronts, goes-further}
use Rattle.mask_bits.proofs.common_indices.merge_both.Goals as goal

pub loop-last-preserved : goal.loop-last-preserved
loop-last-preserved g c =
    let row = g.N.RowIndex.row_number in
    let at = c.loop-last.at in
    let last_at = c.loop-last.last_at in
    let next = c.eight_steps-at.result in
    let last_next = c.eight_steps-last_at.result in
    record {
      first = goes-further (map row c.args.first.now) (map row c.loop-last.first) (map row c.eight_steps-at.new.list) (map row c.args.other.now) 0 0 0 at.list at.other at.found next.list next.other next.found
          c.loop-last.invariant.first c.eight_steps-at.ensures.merged;
      last = goes-further (map row c.args.last.now) (map row c.loop-last.last) (map row c.eight_steps-last_at.new.list) (map row c.args.last_other.now) 0 0 0 last_at.list last_at.other last_at.found last_next.list last_next.other last_next.found
          c.loop-last.invariant.last c.eight_steps-last_at.ensures.merged;
    }

pub returns-clause-first : goal.returns-clause-first
returns-clause-first g c =
    let row = g.N.RowIndex.row_number in
    let at = c.loop-last.at in
    let done = c.merge_rest-found in
    found-from_fronts (map row c.args.first.now) (map row c.loop-last.first) (map row done.new.list) (map row c.args.other.now) at.list at.other at.found done.result c.loop-last.invariant.first (omega (arith, done.ensures.within, length-map done.new.list row)) done.ensures.found

pub returns-clause-last : goal.returns-clause-last
returns-clause-last g c =
    let row = g.N.RowIndex.row_number in
    let at = c.loop-last.last_at in
    let done = c.merge_rest in
    found-from_fronts (map row c.args.last.now) (map row c.loop-last.last) (map row done.new.list) (map row c.args.last_other.now) at.list at.other at.found done.result c.loop-last.invariant.last (omega (arith, done.ensures.within, length-map done.new.list row)) done.ensures.found
