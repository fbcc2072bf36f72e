-- What the proofs below cite of std and of `specs`, from one place.
pub use Rattle.mask_bits.specs.Bitmap.{bitmap}
unfoldable pub use Rattle.mask_bits.specs.Buffer.{values}
pub use Rattle.mask_bits.specs.Buffer.{IsWithinBytes, Packed, backing_bit, same_values}
pub use Rattle.mask_bits.specs.BufferMut.{AreClearFrom, IsRoom, IsWrittenBehind}
pub use Rattle.mask_bits.specs.ChosenBits.{AreChosenSoFar, values_so_far}
pub use Rattle.mask_bits.specs.CommonIndices.{AreSplit, common}
pub use Rattle.mask_bits.specs.Merges.{GoesOn, IsAt, IsFound, comes_to}
pub use Rattle.mask_bits.specs.Combine.{AreCombined, IsCombinedBetween, IsNoneTrue}
unfoldable pub use Rattle.mask_bits.specs.Extract.{closed_up, gathered}
pub use Rattle.mask_bits.specs.Extract.{Extracts, two_words}
pub use Rattle.mask_bits.specs.Lanes.{AreLanes, AreLanesOf, ArePacked}
unfoldable pub use Rattle.mask_bits.specs.Lists.{limited, without_first}
pub use Rattle.mask_bits.specs.Lists.{and_not_of, and_of, combined, concat, group, not_of, or_of, xor_of}
pub use Rattle.mask_bits.specs.Number.{number}
unfoldable pub use Rattle.mask_bits.specs.Positions.{chosen, repeated, true_at}
pub use Rattle.mask_bits.specs.Positions.{IsFirstFrom, at_indices, count, count_below, indices_from, positions, rank_intersection}
unfoldable pub use Rattle.mask_bits.specs.Pushed.{runs_between}
pub use Rattle.mask_bits.specs.Pushed.{AreEdges, ArePushed, begins, runs_behind, starts_of}
pub use Rattle.mask_bits.specs.Ranks.{AreCountsBefore}
pub use Rattle.mask_bits.specs.Rows.{AreAnswers, AreAsComputed, AreLeft, AreLeftAsComputed, leaves}
pub use Rattle.mask_bits.specs.RunScan.{runs, runs_from, with_index}
pub use Rattle.mask_bits.specs.Runs.{AreRanges, AreRuns, is_inside}
pub use Rattle.mask_bits.specs.Stacks.{IsStack, folded_left, folded_right}
pub use Rattle.mask_bits.specs.Text.{digit}
unfoldable pub use Rattle.mask_bits.specs.Walk.{left_of}
pub use Rattle.mask_bits.specs.Walk.{IsLeft, PassesTrue}
pub use Rattle.mask_bits.specs.WordItems.{items_of}
unfoldable pub use Rattle.mask_bits.specs.Words.{padded_parts, window, word_bits, word_parts}
pub use Rattle.mask_bits.specs.Words.{IsPlaceOf, bits_of_words, padded_part, padded_remainder, started_words, word_part}
pub use Rattle.std.proofs.Common.{All, Bool, Bor, Err, Fits, IfOk, IfSome, List, None, Ok, OnErr, Option, Result, Some, T, [], add-mul, add-one, add-zero, add_comm, ap, append-nil, append_assoc, ap₂, arith, bit_and, bit_or, bit_xor, cond}
pub use Rattle.std.proofs.Common.{count_by, count_ones, drop, drop-drop, eq-eqb, eq-zero-or-pos, eqb, eqb-true, eqb→eq, ext_get_or, false, get_or, if◌then◌else◌, inl, inr, length, length-drop, length-take, length-take-le, lit<}
pub use Rattle.std.proofs.Common.{lt_of_le_of_lt, lt_of_lt_of_le, ltb, ltb→lt, map, min, mod-eq_of_lt, mod-lt, mul_assoc, mul_comm, nat_eq, nat_le, nat_lt, not, option_map, pow-add, pow-suc, pow_mono, pow_pos, refl}
pub use Rattle.std.proofs.Common.{replicate, rules, set, shr-shr, slice_get, slice_range, subst, suc, sym, take, take-add, take_all, true, vec_capacity, vec_len, w16, w32, w64, w8, zero, zero-add, zip, ℕ, ◌%◌, ◌&&◌, ◌*◌, ◌++◌, ◌+◌, ◌-◌}
pub use Rattle.std.proofs.Common.{◌/◌, ◌<◌, ◌^◌, ◌||◌, ◌↔◌, ◌∙◌, ◌∷◌, ◌≡◌, ◌≢◌, ◌≤◌, ◌⊎◌}
pub use Rattle.std.proofs.Math.Arith.{digits_lt}
pub use Rattle.std.proofs.lemmas.List.Kept.{AllPairs-from_increasing}
pub use Rattle.std.proofs.lemmas.Bool.{cases_order, lt-leb}
pub use Rattle.std.specs.List.{copy_within}
pub use Rattle.std.proofs.lemmas.List.{drop-map, drop-set-lt, map-append, map-set, set-get_or, take-map, take-set}
pub use Rattle.std.proofs.lemmas.List.Elements.{filter-append, filter_more}
pub use Rattle.std.proofs.lemmas.List.Folds.{list_any-append, list_any-from_Any, list_any_none}
pub use Rattle.std.proofs.Math.Seq.{paste}
pub use Rattle.std.proofs.lemmas.List.Edits.{take-paste}
pub use Rattle.std.proofs.lemmas.Grind.{take-set_at}
pub use Rattle.std.proofs.Math.Bool.{and-not_self, and-or_distrib_left, and_assoc, and_comm, beq, or-and_distrib_left, or-false, or-not_self, or_assoc, or_comm}
pub use Rattle.std.proofs.Math.Nat.{add-mul-mod_self_left, div-eq_of_lt, one-le-pow, pow-zero}
pub use Rattle.std.proofs.Math.Pow.{pow-lt}
pub use Rattle.std.proofs.Math.Seq.{get_or-append_seam, take-append-add, take-suc-set}
pub use Rattle.std.proofs.iter.runs.Sources.{as_is, from_front}
pub use Rattle.std.proofs.lemmas.Bool.{agree_below, agree_below_at, and_from, and_right, cases_eq, cases_lt, cond-false, cond-true, le-leb, le-ltb, lt-ltb, ne_eqb, or_left, true≢false}
pub use Rattle.std.proofs.lemmas.Bool.Decides.{nat_tests}
pub use Rattle.std.proofs.lemmas.Grind.{common_steps, get_or-set_at, one_shifted}
pub use Rattle.std.proofs.lemmas.List.{drop-append-le, drop-replicate, drop-take, drop_all, drop_more, get_or-append_right, get_or-drop, get_or-map, get_or-replicate, get_or-set_other, get_or-set_same, get_or-take, get_or_append_left}
pub use Rattle.std.proofs.lemmas.List.{get_or_default, get_or_past, length-append, length-map, length-replicate, length-set, map-id, nil_from_length, replicate-append-replicate, take-append-drop, take-append-le, take-replicate, take-take}
pub use Rattle.std.proofs.lemmas.List.{take_at, take_more, take_rest, with_items_is}
pub use Rattle.std.proofs.lemmas.List.Concat.{flat_map-append}
pub use Rattle.std.proofs.lemmas.List.Edits.{get_or-between, length-between}
pub use Rattle.std.proofs.lemmas.List.Elements.{All-cons, All-get_or, All-head, All-map, All-nil, All-tail, All-weaker}
pub use Rattle.std.proofs.lemmas.List.Folds.{drop_split}
pub use Rattle.std.proofs.lemmas.List.FromFn.{fill_by_all, get_or-map-range_with_len, get_or-range_with_len, length-map-range_with_len, length-range_with_len}
pub use Rattle.std.proofs.lemmas.List.Sorted.{IsNonDecreasingBy-from_all_adjacent}
pub use Rattle.std.proofs.lemmas.List.Sums.{sum_by-cons}
pub use Rattle.std.proofs.lemmas.Map.Keys.{le_from_is_le}
pub use Rattle.std.proofs.lemmas.Nat.{and_le_l, and_le_r, and_mask, and_shr, from_le_bytes-to_le_bytes_8, le_bytes_8, leading_top, mod-mul-add, mod-pow-add, mul-mod_first, mul-mod_second, one_shl, ones-le, ones_cat, or_lt, shr_high, shr_split, trailing_le}
pub use Rattle.std.proofs.lemmas.Nat.Bits.{and_high_mask, and_pow, bit_at-lt, bit_at-pow_other, bit_at-pow_same, bit_at-suc, bit_at-trailing_ones, bit_at-trailing_zeros, bit_at-zero, bit_at_above, bit_at_and, bit_at_cat_high}
pub use Rattle.std.proofs.lemmas.Nat.Bits.{bit_at_cat_low, bit_at_clear_other, bit_at_clear_same, bit_at_lowest, bit_at_not, bit_at_ones, bit_at_ones_above, bit_at_or, bit_at_set_other, bit_at_set_same, bit_at_xor, ones_shr, same_from_bits}
pub use Rattle.std.proofs.lemmas.Nat.Bits.{same_from_bits_below, shr_and_one}
pub use Rattle.std.proofs.lemmas.Option.{get_or_from_slice_get, slice_get-get_or, slice_get-map, slice_get_cases, slice_get_past, slice_get_within}
pub use Rattle.std.proofs.lemmas.Result.{IfOk-weaker}
pub use Rattle.std.proofs.lemmas.Simd.{Each1-from_get_or, Each1-get_or, SwzOk, SwzOk-from_below, below_from_Fits, bit_mask_l, bitmask_splat, get_or-chunk, get_or-swz_l_below, get_or-zip2, get_or_wider, length-chunk, length-swz_l}
pub use Rattle.std.proofs.lemmas.Simd.{length-zip2, swz_l}
pub use Rattle.std.proofs.lemmas.Slice.{between-put_mid, drop-put_mid, take-put_mid, take-put_mid_below}
pub use Rattle.std.proofs.lemmas.Slice.Eq.{slice_eq-Decides}
pub use Rattle.std.proofs.lemmas.Slice.Zip.{length-zip}
pub use Rattle.std.specs.Cmp.Lexicographic.{pointwise}
pub use Rattle.std.specs.Fmt.{HasWritten, IsPlainFormatter}
pub use Rattle.std.specs.Fn.{FnReturnsAt, Shared}
pub use Rattle.std.specs.Int.{bit_at, bit_not, byte_at, byte_worth, bytes_low_first, div_ceil, from_le_bytes, leading_ones, leading_zeros, sum_through, to_le_bytes, trailing_ones, trailing_zeros}
pub use Rattle.std.specs.Int.Bits.{and_zero_r, or_zero_l, or_zero_r, xor_zero_r}
pub use Rattle.std.specs.Int.Count.{leading_of_zero, trailing_of_zero}
pub use Rattle.std.specs.Iterator.{MakesProgress, YieldsFirst, YieldsFirstBy, item_count}
pub use Rattle.std.specs.Iterator.Runs.{EveryRun, ItemsMapTo, YieldsInOrder}
pub use Rattle.std.specs.List.{AllAdjacentBelow, between, cons_option, filter, filter_map, flat_map, items_where_true, list_all, list_any, range_with_len, sum_by}
pub use Rattle.std.specs.List.Sorted.{IsNonDecreasing, IsStrictlyIncreasing}
pub use Rattle.std.specs.Option.{IsSome}
pub use Rattle.std.specs.Ordering.{nat_cmp, partial_le}
pub use Rattle.std.specs.Prelude.{IsTrue, fold, slice_index, slice_index_or}
pub use Rattle.std.specs.Simd.Lanes.{Each1, chunk, digits_l, number_l, zip2}
pub use borrow.Rule.Slice.PartMut.{put_mid}
pub use mir.Val.{bool_byte}
