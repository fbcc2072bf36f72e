use Rattle.mask_bits.proofs.Common.{arith, rules}
use Rattle.mask_bits.proofs.ranks.count_up_to.Goals as goal
use Rattle.std.proofs.Common.{leb, leb-true}
use Rattle.std.proofs.lemmas.Bool.{leb-false}
use Rattle.std.proofs.lemmas.List.Sorted.{IsPartitionPoint-from_clause, IsPartitionedBy-leb}

pub returns : goal.returns
returns c =
    let parted = IsPartitionedBy-leb (λ x. x) c.args.numbers.now c.args.most c.requires in
    let point = IsPartitionPoint-from_clause (λ x. leb x c.args.most) _ _ c.partition_point.ensures.partitioned parted (λ a r q k. search rules) in
    record {
      bound = c.partition_point.ensures.bound;
      passed = λ k h. leb-true _ _ (point.0 k 0 (omega arith) h);
      left = λ k h inside. leb-false _ _ (point.1 k 0 h inside);
    }
