use Rattle.mask_bits.proofs.Common.{map}
use Rattle.mask_bits.proofs.Lists.CommonLemmas.{goes-by}
use Rattle.mask_bits.proofs.common_indices.step.Goals as goal

pub returns-clause-merged : goal.returns-clause-merged
returns-clause-merged g c =
    let row = g.N.RowIndex.row_number in
    goes-by (map row c.args.list.now) (map row c.args.other.now) (map row c.copy_to-left.new.items) c.args.at.list c.args.at.other c.args.at.found c.copy_to-left.result c.number_at-right.result c.requires.under_way c.copy_to-left.ensures.read c.number_at-right.ensures.read c.copy_to-left.ensures.written
