-- What the proofs below cite of std, of `mask_bits` and of `specs`, from one place.
unfoldable pub use Rattle.mask_bits.proofs.Common.{repeated, true_at, values, window, word_bits}
pub use Rattle.mask_bits.proofs.Common.{All-cons, All-get_or, All-head, All-nil, All-tail, All-weaker, AllAdjacentBelow, AreLanes, AreRanges, AreRuns, Bool, Each1, Each1-from_get_or, Each1-get_or, Err, Fits, HasWritten, IfOk-weaker}
pub use Rattle.mask_bits.proofs.Common.{IsPlainFormatter, IsStack, IsStrictlyIncreasing, IsTrue, List, None, Ok, Option, Packed, Result, Some, T, YieldsFirst, YieldsInOrder, [], add-zero, add_comm, and_le_l, and_le_r, and_mask, and_not_of}
pub use Rattle.mask_bits.proofs.Common.{and_of, ap, append-nil, append_assoc, ap₂, arith, as_is, at_indices, backing_bit, below_from_Fits, bit_and, bit_at, bit_at-lt, bit_at-pow_other, bit_at-pow_same, bit_at-suc, bit_at-zero, bit_at_and}
pub use Rattle.mask_bits.proofs.Common.{bit_at_cat_high, bit_at_cat_low, bit_at_lowest, bit_at_ones, bit_at_or, bit_at_set_other, bit_at_set_same, bit_or, bit_xor, bitmap, cases_eq, cases_lt, chunk, common_steps, concat, cond, count}
pub use Rattle.mask_bits.proofs.Common.{count_below, count_ones, digit, digits_l, div_ceil, drop, drop-replicate, drop_all, drop_more, eq-zero-or-pos, eqb, false, fold, folded_left, from_front, get_or, get_or-append_right}
pub use Rattle.mask_bits.proofs.Common.{get_or-append_seam, get_or-chunk, get_or-drop, get_or-map, get_or-map-range_with_len, get_or-range_with_len, get_or-replicate, get_or-set_at, get_or-set_other, get_or-take, get_or_append_left}
pub use Rattle.mask_bits.proofs.Common.{get_or_default, get_or_from_slice_get, get_or_past, get_or_wider, group, if◌then◌else◌, indices_from, inl, inr, is_inside, le-leb, leading_zeros, length, length-append, length-between, length-map}
pub use Rattle.mask_bits.proofs.Common.{length-map-range_with_len, length-range_with_len, length-replicate, length-set, list_any, lt-ltb, lt_of_le_of_lt, ltb, map, map-id, min, mod-eq_of_lt, mod-lt, mod-pow-add, mul_assoc, mul_comm, nat_eq}
pub use Rattle.mask_bits.proofs.Common.{nat_le, nat_lt, nat_tests, ne_eqb, nil_from_length, not, not_of, number_l, one_shl, ones-le, ones_cat, or-false, or_assoc, or_comm, or_of, padded_part, padded_remainder, positions, pow-add, pow-suc}
pub use Rattle.mask_bits.proofs.Common.{pow_mono, range_with_len, rank_intersection, refl, replicate, rules, runs, same_from_bits, set, shr_split, slice_eq-Decides, slice_get, slice_get-get_or, slice_get_past, slice_get_within, slice_range, started_words}
pub use Rattle.mask_bits.proofs.Common.{subst, suc, sum_by, sum_by-cons, swz_l, sym, take, take-append-drop, take-replicate, take-take, take_at, take_more, true, w16, w64, w8, word_part, zero, zip2, ℕ, ◌%◌, ◌&&◌, ◌*◌, ◌++◌, ◌+◌, ◌-◌, ◌/◌}
pub use Rattle.mask_bits.proofs.Common.{◌<◌, ◌^◌, ◌||◌, ◌↔◌, ◌∙◌, ◌∷◌, ◌≡◌, ◌≢◌, ◌≤◌, ◌⊎◌}
pub use Rattle.mask_bits.proofs.Lists.BooleanLemmas.{combined-left, combined-right, combined_itself, length-combined, length-not_of, map-itself, map-one, not_of-repeated}
pub use Rattle.mask_bits.proofs.Lists.BooleanValueLemmas.{count_of_complement, value_of_true_at}
pub use Rattle.mask_bits.proofs.Lists.CountLemmas.{All-repeated, all_false_from_count, all_true-count, all_true_from_count, count-append, count-repeated_false, count-repeated_true, count_below-le, get_or-repeated, length-repeated, list_all-count, list_all-count_less, list_any-count, list_any-count_zero, nil-repeated, positions-all_false, positions-all_true, positions-repeated_true_at, repeated_from_All, slice_get-repeated}
pub use Rattle.mask_bits.proofs.Lists.LawLemmas.{folding_keeps_a_stack, length-chosen, length-rank_intersection, positions-rank_intersection, rank_intersection-none, rank_intersection_count, rank_intersection_is_the_list, rank_intersection_value}
pub use Rattle.mask_bits.proofs.Lists.Places.AscendingLemmas.{positions-ascending, positions-full, positions-true_at}
pub use Rattle.mask_bits.proofs.Lists.Places.IndexLemmas.{all_false_has_no_run, all_true_is_one_run}
pub use Rattle.mask_bits.proofs.Lists.Places.PlaceLemmas.{count-le-length, count-trues, length-indices_from, positions-within, trues}
pub use Rattle.mask_bits.proofs.Lists.Places.SelectLemmas.{count-part_further, count-word_more, high, no_index, place_in_word}
pub use Rattle.mask_bits.proofs.Lists.RankLemmas.{All-at_indices, length-true_at, rank_intersection-all_true, rank_intersection-by_all_true}
pub use Rattle.mask_bits.proofs.Lists.Runs.RangeLemmas.{Ordered, Ordered-of, Ordered-top, ranges_add_up_to_the_count}
pub use Rattle.mask_bits.proofs.Lists.Runs.RunLemmas.{AreRuns-runs_from, Spread, runs_are_ranges, runs_from-RunsOf}
pub use Rattle.mask_bits.proofs.Lists.Words.BackingBitLemmas.{get_or-bitmap, length-bitmap, no_values}
pub use Rattle.mask_bits.proofs.Lists.Words.FrontLemmas.{get_or-front, get_or-put_mid_above, get_or-put_mid_below, get_or-put_mid_inside, get_or-window, length-window, window-drop, window_from_bits}
pub use Rattle.mask_bits.proofs.Lists.Words.LaneLemmas.{AreLanes-itself, AreLanes-map, AreLanes-same, AreLanes-splat, AreLanes-swz_l, AreLanes-zip2, SwzOk-lanes}
pub use Rattle.mask_bits.proofs.Lists.Words.PaddedLemmas.{get_or-padded_part, padded_part-remainder, padded_part-whole, padded_part_from_values}
pub use Rattle.mask_bits.proofs.Lists.Words.ShiftLemmas.{bit_at-mod, get_or-word_bits_and, get_or-word_bits_or, get_or-word_bits_shl_high, get_or-word_bits_shl_low, get_or-word_bits_shr}
pub use Rattle.mask_bits.proofs.Lists.Words.TableLemmas.{agree, all_below, every_below, less_below, same_below}
pub use Rattle.mask_bits.proofs.Lists.Words.WordLemmas.{count-word_bits, count_below-word_bits, get_or-word_bits, length-word_bits, ones_below-more}
pub use Rattle.mask_bits.proofs.Lists.Words.WideLaneLemmas.{low_split}
pub use lib.Bits.{and_self, and_step, and_zero_r, or_step, or_zero_r}
pub use lib.Count.{ones_step}
pub use Rattle.std.proofs.Common.{max, mul-one, mul-zero, mul_right_comm, tests, zero-mul}
pub use Rattle.std.proofs.Math.Bool.{and-false, and-true, or-true}
pub use Rattle.std.proofs.Math.Nat.{div-div-eq-div-mul, zero-div}
pub use Rattle.std.proofs.Math.Pow.{field, mod-mod-pow, split}
pub use Rattle.std.proofs.Math.Seq.{paste, take-add}
pub use Rattle.std.proofs.iter.runs.Consumers.{total_runs}
pub use Rattle.std.proofs.iter.runs.Made.{run_of_exit, run_of_turn}
pub use Rattle.std.proofs.lemmas.Bool.{cases_order, eq-eqb, eqb-false, eqb-true, lt-leb}
pub use Rattle.std.proofs.lemmas.Grind.{take-set_at}
pub use Rattle.std.proofs.lemmas.Iterator.{YieldsList, YieldsList-from_slice}
pub use Rattle.std.proofs.lemmas.Iterator.Consumers.{YieldsList-at, YieldsList-end, YieldsList-from_copied, YieldsList-from_first, YieldsList-so_far}
pub use Rattle.std.proofs.lemmas.Iterator.Search.{position_from_yields_List}
pub use Rattle.std.proofs.lemmas.List.{at_drop_all, at_drop_more, drop-drop, drop-set-lt, ext_get_or, length-drop, length-take, map-append, map_more, same_lists, set-get_or, take-set, take_all}
pub use Rattle.std.proofs.lemmas.List.Concat.{length-flat_map}
pub use Rattle.std.proofs.lemmas.List.Edits.{take-paste}
pub use Rattle.std.proofs.lemmas.List.Elements.{All-append, All-from_get_or, All-take, filter-append, filter_more}
pub use Rattle.std.proofs.lemmas.List.Folds.{list_any-append, list_any-from_Any, list_any_more, list_any_none}
pub use Rattle.std.proofs.lemmas.List.FromFn.{map-range_with_len_more}
pub use Rattle.std.proofs.lemmas.List.Kept.{AllPairs-from_increasing, IsStrictlyIncreasing-filter}
pub use Rattle.std.proofs.lemmas.List.Sums.{prefix_len_passes, sum_by_push}
pub use Rattle.std.proofs.lemmas.Nat.{and-not, and_comm, le_or_l, le_or_r, pow_below, pow_pos, shl-shr, shl_below, shr-shr, zero_from_ones}
pub use Rattle.std.proofs.lemmas.Simd.{Each1-chunk, get_or_narrower, map-map, shifts_fit_splat, widens}
pub use Rattle.std.specs.Bool.{MatchBool, then_some}
pub use Rattle.std.specs.Borrow.{Bor}
pub use Rattle.std.specs.Cmp.{booleans_Decides}
pub use Rattle.std.specs.Iterator.{Drains, DrainsIf, Yields}
pub use Rattle.std.specs.Iterator.Runs.{EachRunFrom, Run, WholeRun}
pub use Rattle.std.specs.List.{All, copy_within, position, prefix_len}
pub use Rattle.std.specs.List.Retain.{DedupsAll, DedupsFrom, IsDeduped}
pub use Rattle.std.specs.Option.{IfSome, SomeIff, option_map, option_or}
pub use Rattle.std.specs.Rc.{rc_with_value}
pub use Rattle.std.specs.Result.{IfErr, IfOk, OnErr}
pub use Rattle.vortex_mask.specs.AllOr.{IsListOf}
pub use Rattle.vortex_mask.specs.Bitops.{and_caches, and_not_caches, or_caches}
unfoldable pub use Rattle.vortex_mask.specs.Bytes.{byte_at, clear_below, halved, landed_in, moved_down, moved_up, nibble_moved_up, odd_places, packed_after, place_after, stays_in, with_moved}
pub use Rattle.vortex_mask.specs.Bytes.{EachLane, byte_of_two}
pub use Rattle.vortex_mask.specs.Caches.{caches, where_mixed}
pub use Rattle.vortex_mask.specs.Concat.{AreAll, Joins, lists_of, total_len}
pub use Rattle.vortex_mask.specs.Deposit.{Deposits, selected}
pub use Rattle.vortex_mask.specs.Faults.{bad_range, first_pair_from, first_past, first_repeated, first_unsorted, index_fault, neighbor_fault, neighbors_fault_from, out_of_bounds, range_fault}
pub use Rattle.vortex_mask.specs.Fraction.{share, share_by_variant}
pub use Rattle.vortex_mask.specs.Iter.{indices_left, ranges_left, values_left}
pub use Rattle.vortex_mask.specs.Lend.{IfLent, ReachesShare}
pub use Rattle.vortex_mask.specs.Mask.{IsUniform, Variant, all_false, all_true, contents, fitting_variant, mixed, same_truth, truth, variant, variant_and, variant_not, variant_of_no_part, variant_or}
pub use Rattle.vortex_mask.specs.MaskValues.{AreOf, Contents, no_caches, only_indices, only_ranges, with_indices, with_ranges}
pub use Rattle.mask_bits.specs.CommonIndices.{AreSplit, common}
pub use Rattle.vortex_mask.specs.Path.{AreNarrowingSteps, AreStepsOf, is_deposited_by_loop, narrowed_caches, path, path_caches, path_of}
pub use Rattle.vortex_mask.specs.Ranges.{rows_held}
unfoldable pub use Rattle.vortex_mask.specs.Ranks.{first_bits}
pub use Rattle.vortex_mask.specs.Ranks.{AreBitsFrom, AreRanks, HasRead, HoldsRanks, IsGathered, is_listed, narrowed_by}
pub use Rattle.vortex_mask.specs.SetRanges.{AreSet}
pub use Rattle.vortex_mask.specs.StackFold.{first_mixed}
pub use Rattle.vortex_mask.specs.Steps.{IsDeposited, StepCounts, driven_steps, no_steps, word_steps}
pub use Rattle.vortex_mask.specs.declared.mask.error.MaskError.TheVariants.{BadRange, IndexOutOfBounds, OverlappingRanges, RepeatedIndex, UnsortedIndices, UnsortedRanges}
pub use Rattle.vortex_mask.specs.declared.mask.Mask.{Mask}
pub use Rattle.vortex_mask.specs.declared.mask.Mask.TheVariants.{AllFalse, AllTrue, Values}
