use Rattle.mask_bits.proofs.Common.{◌∙◌, sym, take-map}
use Rattle.mask_bits.proofs.common_indices.keep_common.Goals as goal

pub returns-clause-indices : goal.returns-clause-indices
returns-clause-indices g c = λ a b. sym (take-map g.N.RowIndex.row_number c.move_found.result c.move_found.new.list) ∙ c.move_found.ensures.found a b
