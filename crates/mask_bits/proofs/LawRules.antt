-- The proofs that the functions of `laws` cite.
use Rattle.mask_bits.proofs.Lists.LawLemmas.{positions_determine_list, rank_intersection_is_the_list, rank_intersection_value, choosing_twice, rank_intersection_associative, all_true_left_unit, all_true_right_unit, rank_intersection_count, rank_intersection_position}
use Rattle.mask_bits.proofs.Lists.Runs.RunLemmas.{runs_exist, runs_are_unique, runs_are_ranges}

pub ruleset laws = (positions_determine_list, rank_intersection_is_the_list, rank_intersection_value, choosing_twice, rank_intersection_associative, all_true_left_unit, all_true_right_unit, rank_intersection_count, rank_intersection_position, runs_exist, runs_are_unique, runs_are_ranges)
