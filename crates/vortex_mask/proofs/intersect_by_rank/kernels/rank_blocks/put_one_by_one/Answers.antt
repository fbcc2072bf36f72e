use Rattle.vortex_mask.proofs.Common.{◌+◌, ◌-◌, ◌<◌, ◌≤◌, ℕ, length, nat_eq, get_or, take, sym, ◌∙◌, arith, get_or-take, length-take, list_any_more}
use Rattle.vortex_mask.proofs.Kernels.RankBlockLemmas.{backing_bit-set, nat_eq-from, among-first}
use Rattle.vortex_mask.proofs.Lists.PlaceListLemmas.{none-is, rises_to}
use Rattle.vortex_mask.proofs.intersect_by_rank.kernels.rank_blocks.put_one_by_one.Goals as goal

pub loop-next-init : goal.loop-next-init
loop-next-init c = record {
  within = c.requires.room.from.within;
  from = c.requires.room.from.after;
  bits = λ k h. c.requires.clear k ∙ sym (none-is (c.args.base + k) (take c.args.next c.args.ranks.now)
      (λ i inside same. omega (arith, length-take c.args.next c.args.ranks.now, get_or-take c.args.next c.args.ranks.now i 0 (omega (arith, length-take c.args.next c.args.ranks.now)), c.requires.room.from.before i (omega (arith, length-take c.args.next c.args.ranks.now)))));
}

pub loop-next-preserved : goal.loop-next-preserved
loop-next-preserved c =
    let ranks = c.args.ranks.now in
    let n = c.loop-next.next in
    let rank : ℕ = get_or ranks n 0 in
    let from : c.args.base ≤ rank = c.loop-next.invariant.from n (omega arith) (omega (arith, c.loop-next-test.true)) in
    record {
      within = omega (arith, c.loop-next-test.true);
      from = λ j h inside. c.loop-next.invariant.from j (omega arith) inside;
      bits = λ k h.
          backing_bit-set c.loop-next.block (rank - c.args.base) k (omega (arith, c.if-ranks-next-lt4096.true, c.requires.room.room))
          ∙ grind (arith, nat_eq-from c.args.base k rank from, c.loop-next.invariant.bits k h, list_any_more (nat_eq (c.args.base + k)) ranks n 0 (omega (arith, c.loop-next-test.true)));
    }

pub returns-else-ranks-next-lt4096 : goal.returns-else-ranks-next-lt4096
returns-else-ranks-next-lt4096 c =
    let past : (k : ℕ) → c.loop-next.next ≤ k → k < length c.args.ranks.now → c.args.base + 4096 ≤ get_or c.args.ranks.now k 0
    = λ k later inside. omega (arith, c.if-ranks-next-lt4096.false, rises_to c.args.ranks.now c.loop-next.next k c.requires.room.ascending later inside) in
    record {
      holds = record {
        room = omega (arith, c.requires.room.room);
        bits = λ k h small. c.loop-next.invariant.bits k h ∙ among-first c.args.ranks.now c.loop-next.next (c.args.base + k) (λ j later inside. omega (arith, past j later inside));
      };
      within = c.loop-next.invariant.within;
      passed = past;
    }
