use Rattle.mask_bits.proofs.Lists.LawLemmas.{rank_intersection_is_the_list}
use Rattle.mask_bits.proofs.laws.rank_intersection.rank_intersection_is_the_list.Goals as goal

pub returns : goal.returns
returns c = record { only = rank_intersection_is_the_list }
