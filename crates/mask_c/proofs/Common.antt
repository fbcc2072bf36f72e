-- What the proofs below cite of std and of `specs`, from one place.
unfoldable pub use Rattle.vortex_mask.proofs.Common.{repeated, true_at, values, window, word_bits}
pub use Rattle.vortex_mask.proofs.Common.{All-from_get_or, All-get_or, All-head, All-tail, All-weaker, AreSplit, Bool, IsStrictlyIncreasing, List, None, Option, Packed, Some, [], add-zero, and_not_of, and_of, ap, append-nil, append_assoc}
pub use Rattle.vortex_mask.proofs.Common.{ap₂, arith, at_indices, backing_bit, bit_at, bit_at-zero, bit_at_ones, bit_at_or, bitmap, cases_eq, cases_lt, common_steps, count, count_below, count_ones, div_ceil, drop, drop-drop, drop-set-lt}
pub use Rattle.vortex_mask.proofs.Common.{drop_more, ext_get_or, false, get_or, get_or-append_right, get_or-drop, get_or-map, get_or-map-range_with_len, get_or-replicate, get_or-set_at, get_or-take, get_or_append_left}
pub use Rattle.vortex_mask.proofs.Common.{get_or_from_slice_get, get_or_past, indices_from, inl, inr, length, length-append, length-between, length-drop, length-map, length-map-range_with_len, length-replicate, length-set, length-take}
pub use Rattle.vortex_mask.proofs.Common.{list_any, list_any-append, list_any_more, list_any_none, map, map-append, map-id, map-map, min, nat_eq, nat_tests, ne_eqb, nil_from_length, not, not_of, one_shl, option_map, or-false, or_comm}
pub use Rattle.vortex_mask.proofs.Common.{padded_part, padded_remainder, positions, range_with_len, rank_intersection, refl, replicate, set, slice_get, slice_get-get_or, slice_range, subst, suc, sym, take, take-add, take-append-drop}
pub use Rattle.vortex_mask.proofs.Common.{bit_at-lt, bit_at_and, w64, ◌⊎◌, take_all, take_at, take_more, true, zero, ℕ, ◌%◌, ◌&&◌, ◌*◌, ◌++◌, ◌+◌, ◌-◌, ◌/◌, ◌<◌, ◌^◌, ◌||◌, ◌↔◌, ◌∙◌, ◌∷◌, ◌≡◌, ◌≢◌, ◌≤◌}
unfoldable pub use Rattle.mask_bits.proofs.Common.{chosen}
pub use Rattle.mask_bits.proofs.Common.{bit_at_not, bit_at_ones_above, bit_not, IsNonDecreasing, bits_of_words, combined, cons_option, drop-put_mid, get_or-between, items_where_true, runs_from, shr_and_one, slice_get-map, take-append-le, take_rest, values_so_far}
pub use Rattle.mask_c.specs.Bitmap.{AreClearBehind, IsFilled, IsNarrowed, IsSubset, IsWritten}
unfoldable pub use Rattle.mask_c.specs.Strings.{sizes, strings}
pub use Rattle.mask_c.specs.Strings.{ends_from, items_at, offsets_of}
pub use Rattle.std.proofs.Common.{add_assoc, below_more, get_or-set_other, get_or-set_same, slice_set, rules}
pub use Rattle.std.proofs.Math.ListN.{drop_of_length-le}
pub use Rattle.std.proofs.Math.Seq.{drop-append_seam, take-append_seam, take-suc-set}
pub use Rattle.std.proofs.lemmas.Bool.{false≢true}
pub use Rattle.std.proofs.lemmas.List.{drop_at, length-take-le, map-set, take_more_set, take-take}
pub use Rattle.std.proofs.lemmas.List.Elements.{filter_map-append, All-append, All-take}
pub use Rattle.std.proofs.lemmas.List.Folds.{concat-append}
pub use Rattle.std.proofs.lemmas.List.Sums.{sum_by-append, sum_by_more}
pub use Rattle.std.proofs.lemmas.Option.{unwrap_or-slice_get}
pub use Rattle.std.specs.Bool.{IsTrue}
pub use Rattle.std.specs.Int.RustNames.{bit_and, bit_or}
pub use Rattle.std.specs.List.{All, concat, sum}
pub use Rattle.std.specs.Option.{unwrap_or}
pub use Rattle.mask_bits.proofs.Lists.BooleanLemmas.{combined-append, combined-take, get_or-combined, length-combined}
pub use Rattle.mask_bits.proofs.Lists.BooleanValueLemmas.{value_of_true_at}
pub use Rattle.mask_bits.proofs.Lists.ChooseLemmas.{chosen_at_positions}
pub use Rattle.mask_bits.proofs.Lists.CountLemmas.{all_false_from_count, all_true_from_count, count-append, count-repeated_false, count_below-le, get_or-padded, get_or-repeated, length-repeated}
pub use Rattle.mask_bits.proofs.Lists.LawLemmas.{chosen-items_where_true, length-chosen, length-rank_intersection, rank_intersection_value}
pub use Rattle.mask_bits.proofs.Lists.Places.PlaceLemmas.{count-le-length, count-trues, positions-within, trues}
pub use Rattle.mask_bits.proofs.Lists.Places.SelectLemmas.{count-part_further, count-word_more, indices_from-append, indices_from-moved, places-word_more}
pub use Rattle.mask_bits.proofs.Lists.RankLemmas.{length-true_at, narrow, rank_intersection-all_true, rank_intersection-narrow}
pub use Rattle.mask_bits.proofs.Lists.Runs.RunLemmas.{runs_from-moved}
pub use Rattle.mask_bits.proofs.Lists.Words.BackingBitLemmas.{bit-window, bitmap-append, bitmap-drop, front-split, get_or-bitmap, length-bitmap, no_values}
pub use Rattle.mask_bits.proofs.Lists.Words.BlockLemmas.{block-more, indices-none}
pub use Rattle.mask_bits.proofs.Lists.Words.FrontLemmas.{behind-further, behind-later, front-same, front-taken, get_or-put_mid_above, get_or-put_mid_below, get_or-put_mid_inside, get_or-window, length-window, put-before, window-take, window_from_bits, words-more}
pub use Rattle.mask_bits.proofs.Lists.Words.PaddedLemmas.{get_or-padded_part, length-padded_part, padded_part-whole, padded_part_from_values}
pub use Rattle.mask_bits.proofs.Lists.Words.ShiftLemmas.{bit_at-low_mask, bit_at-mod, bit_at-past_mask, bit_at-shl_high, bit_at-shl_low, get_or-word_bits_and, get_or-word_bits_or}
pub use Rattle.mask_bits.proofs.Lists.Words.WordLemmas.{count-word_bits, get_or-word_bits, length-word_bits}
pub use Rattle.mask_c.specs.declared.runs.RowMaskRun.{RowMaskRun}
pub use Rattle.vortex_mask.proofs.Lists.DepositLawLemmas.{deposit_is_rank_intersection}
pub use Rattle.vortex_mask.proofs.Lists.DepositedWordLemmas.{deposit_is_word_of_rank_intersection, started_words_are_the_list}
pub use Rattle.vortex_mask.proofs.Lists.PlaceListLemmas.{ascending-take, bit_of_pow, narrowed_at, none-is, rises_to}
pub use Rattle.vortex_mask.proofs.Lists.StartedWordLemmas.{IsAt, count_below-within, list-from_bits, part-same, place-after_within, place-next, place-within, places-same, rank_place-fits}
