use Rattle.mask_bits.proofs.Common.{◌≡◌, ℕ, List, length, map, arith, length-map}
use Rattle.mask_bits.proofs.Lists.CommonLemmas.{goes-past_list, goes-past_other, goes-further}
use Rattle.mask_bits.proofs.common_indices.eight_steps.Goals as goal

pub returns-then-number_at-clause-merged : goal.returns-then-number_at-clause-merged
returns-then-number_at-clause-merged g c =
    let row = g.N.RowIndex.row_number in
    let xs : List ℕ = map row c.args.list.now in
    let ys : List ℕ = map row c.args.other.now in
    let len : length xs ≡ length c.args.list.now = length-map c.args.list.now row in
    let len_other : length ys ≡ length c.args.other.now = length-map c.args.other.now row in
    goes-past_list xs ys c.args.at.list c.args.at.other c.args.at.found 7 c.requires.under_way (omega (arith, c.requires.left_list)) (omega (arith, c.requires.left_other)) (omega (arith, c.number_at.ensures.index, c.number_at-2.ensures.index, c.if-number_at.true))

pub returns-then-number_at-2-clause-merged : goal.returns-then-number_at-2-clause-merged
returns-then-number_at-2-clause-merged g c =
    let row = g.N.RowIndex.row_number in
    let xs : List ℕ = map row c.args.list.now in
    let ys : List ℕ = map row c.args.other.now in
    let len : length xs ≡ length c.args.list.now = length-map c.args.list.now row in
    let len_other : length ys ≡ length c.args.other.now = length-map c.args.other.now row in
    goes-past_other xs ys c.args.at.list c.args.at.other c.args.at.found 7 c.requires.under_way (omega (arith, c.requires.left_list)) (omega (arith, c.requires.left_other)) (omega (arith, c.number_at-3.ensures.index, c.number_at-4.ensures.index, c.if-number_at-2.true))

pub loop-k-preserved : goal.loop-k-preserved
loop-k-preserved g c =
    let row = g.N.RowIndex.row_number in
    let so_far = c.loop-k.invariant in
    let on = c.step-next.ensures in
    record {
      merged = goes-further (map row c.args.list.now) (map row c.loop-k.list) (map row c.step-next.new.list) (map row c.args.other.now) c.args.at.list c.args.at.other c.args.at.found c.loop-k.next.list c.loop-k.next.other c.loop-k.next.found
          c.step-next.result.list c.step-next.result.other c.step-next.result.found so_far.merged on.merged;
      few_list = omega (arith, so_far.few_list, on.list_by_one);
      few_other = omega (arith, so_far.few_other, on.other_by_one);
      some = omega (arith, so_far.some, on.goes_on);
    }
