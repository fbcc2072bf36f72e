-- Worked rows of the terms that masks are described in, computed by the checker.
use Rattle.vortex_mask.proofs.Common.{ℕ, ◌≡◌, ◌+◌, ◌^◌, Bool, true, false, List, [], ◌∷◌, map, Some, None, refl, ap, inl, inr, arith, bit_at, positions, repeated, count_below, word_bits, and_caches, or_caches, and_not_caches, Deposits, selected, index_fault, out_of_bounds, common, range_fault, share, share_by_variant, ReachesShare, caches, where_mixed, Variant, truth, variant, contents, all_true, all_false, mixed, fitting_variant, variant_and, variant_or, variant_not, variant_of_no_part, IsUniform, AreOf, Contents, no_caches, only_indices, only_ranges, with_indices, with_ranges, path, path_of, is_deposited_by_loop, path_caches, narrowed_caches, AreStepsOf, first_mixed, StepCounts, no_steps, word_steps, driven_steps, Mask, AllTrue, AllFalse, Values, UnsortedIndices, RepeatedIndex, IndexOutOfBounds, BadRange, UnsortedRanges, OverlappingRanges}
use Rattle.vortex_mask.specs.declared.intersect_by_rank.path.RankPath.TheVariants.{Indices, MaskDriven, BitBuffers, RankIndices}

-- each row has what the function is given, and what it gives
abbrev Gives : {A B : Type 0} → (A → B) → List (A × B) → Type 0
Gives f rows = map (λ row. f row.0) rows ≡ map (λ row. row.1) rows

-- ---- index lists of a mask of five values

index_faults : Gives (index_fault 5) (
    (0 ∷ 2 ∷ 4 ∷ [], None)
    ∷ (0 ∷ 2 ∷ 2 ∷ [], Some (RepeatedIndex 2))
    ∷ (3 ∷ 3 ∷ 1 ∷ [], Some (UnsortedIndices 2))  -- order goes before repeats
    ∷ (2 ∷ 0 ∷ 9 ∷ [], Some (UnsortedIndices 1))  -- and before bounds
    ∷ (3 ∷ 1 ∷ 2 ∷ 0 ∷ [], Some (UnsortedIndices 1))  -- the first of two
    ∷ (1 ∷ 1 ∷ 2 ∷ 2 ∷ [], Some (RepeatedIndex 1))
    ∷ (9 ∷ 9 ∷ [], Some (RepeatedIndex 1))
    ∷ (1 ∷ 7 ∷ 9 ∷ [], Some (IndexOutOfBounds 7 5))
    ∷ (0 ∷ 2 ∷ 5 ∷ [], Some (IndexOutOfBounds 5 5))
    ∷ [])
index_faults = refl

-- the first past the end is the first in the list, and not the smallest
first_out_of_bounds : out_of_bounds 5 (3 ∷ 9 ∷ 7 ∷ []) ≡ Some (IndexOutOfBounds 9 5)
first_out_of_bounds = refl

in_common : common (1 ∷ 3 ∷ 6 ∷ 8 ∷ []) (3 ∷ 4 ∷ 8 ∷ 9 ∷ []) ≡ 3 ∷ 8 ∷ []
in_common = refl

nothing_in_common : common (1 ∷ 6 ∷ []) (2 ∷ 9 ∷ []) ≡ []
nothing_in_common = refl

-- ---- range lists of a mask of five values

range_faults : Gives (range_fault 5) (
    ((0, 1) ∷ (1, 3) ∷ (4, 5) ∷ [], None)
    ∷ ((2, 2) ∷ [], Some (BadRange 0))
    ∷ ((0, 6) ∷ [], Some (BadRange 0))
    ∷ ((2, 4) ∷ (0, 1) ∷ (3, 9) ∷ [], Some (BadRange 2))  -- bad ranges go before order
    ∷ ((2, 3) ∷ (0, 1) ∷ [], Some (UnsortedRanges 1))
    ∷ ((1, 2) ∷ (1, 3) ∷ [], Some (UnsortedRanges 1))
    ∷ ((0, 3) ∷ (2, 4) ∷ [], Some (OverlappingRanges 1))
    ∷ ((2, 2) ∷ (3, 3) ∷ [], Some (BadRange 0))  -- the first of two
    ∷ ((0, 3) ∷ (2, 4) ∷ (1, 5) ∷ [], Some (OverlappingRanges 1))
    ∷ ((2, 3) ∷ (1, 5) ∷ (4, 5) ∷ [], Some (UnsortedRanges 1))
    ∷ [])
range_faults = refl

-- ---- variants

-- what an empty list is held as, and a list
fitting_variants : Gives (λ (row : Variant × List Bool). fitting_variant row.0 row.1) (
    ((all_false, true ∷ false ∷ []), mixed)
    ∷ ((all_false, true ∷ true ∷ []), all_true)
    ∷ ((all_true, false ∷ []), all_false)
    ∷ ((all_true, []), all_true)
    ∷ [])
fitting_variants = refl

variants_by_or : Gives (λ (v : Variant × Variant). variant_or v.0 v.1) (
    ((all_true, all_true), all_true)
    ∷ ((all_true, all_false), all_true)
    ∷ ((all_false, all_true), all_true)
    ∷ ((all_false, all_false), all_false)
    ∷ ((mixed, all_true), all_true)
    ∷ ((mixed, all_false), mixed)
    ∷ ((mixed, mixed), mixed)
    ∷ ((all_true, mixed), all_true)
    ∷ ((all_false, mixed), mixed)
    ∷ [])
variants_by_or = refl

variants_by_and : Gives (λ (v : Variant × Variant). variant_and v.0 v.1) (
    ((all_true, all_true), all_true)
    ∷ ((all_true, all_false), all_false)
    ∷ ((all_false, all_true), all_false)
    ∷ ((all_false, all_false), all_false)
    ∷ ((mixed, all_true), mixed)
    ∷ ((mixed, all_false), all_false)
    ∷ ((mixed, mixed), mixed)
    ∷ ((all_true, mixed), mixed)
    ∷ ((all_false, mixed), all_false)
    ∷ [])
variants_by_and = refl

negated_variants : Gives variant_not ((all_true, all_false) ∷ (all_false, all_true) ∷ (mixed, mixed) ∷ [])
negated_variants = refl

parts_with_no_values : Gives variant_of_no_part ((all_true, all_true) ∷ (all_false, all_false) ∷ (mixed, all_false) ∷ [])
parts_with_no_values = refl

-- ---- cached lists of what boolean calls make

beside_all_true : (a : Mask) (n : ℕ) → (and_caches (AllTrue n) a ≡ caches a) × (and_caches a (AllTrue n) ≡ caches a) × (or_caches a (AllTrue n) ≡ no_caches) × (and_not_caches a (AllTrue n) ≡ no_caches)
beside_all_true (AllTrue k) n = (refl, refl, refl, refl)
beside_all_true (AllFalse k) n = (refl, refl, refl, refl)
beside_all_true (Values v) n = (refl, refl, refl, refl)

beside_all_false : (a : Mask) (n : ℕ) → (and_caches a (AllFalse n) ≡ no_caches) × (or_caches (AllFalse n) a ≡ caches a) × (or_caches a (AllFalse n) ≡ caches a) × (and_not_caches a (AllFalse n) ≡ caches a)
beside_all_false (AllTrue k) n = (refl, refl, refl, refl)
beside_all_false (AllFalse k) n = (refl, refl, refl, refl)
beside_all_false (Values v) n = (refl, refl, refl, refl)

nothing_of_two_mixed : (a b : Mask) → variant a ≡ mixed → variant b ≡ mixed → (and_caches a b ≡ no_caches) × (or_caches a b ≡ no_caches)
nothing_of_two_mixed (Values v) (Values w) held also = (refl, refl)
nothing_of_two_mixed a b held also = absurd (cc)

nothing_without_a_mixed_one : (a b : Mask) → variant b ≡ mixed → and_not_caches a b ≡ no_caches
nothing_without_a_mixed_one a (Values w) held = refl
nothing_without_a_mixed_one a b held = absurd (cc)

-- ---- uniform lists

uniform_lists : IsUniform (true ∷ true ∷ []) × IsUniform (false ∷ false ∷ []) × IsUniform []
uniform_lists = (inr refl, inl refl, inl refl)

mixed_is_not_uniform : IsUniform (true ∷ false ∷ []) → ⊥
mixed_is_not_uniform uniform = elim uniform [ inl none ↦ omega arith | inr all ↦ omega arith ]

-- ---- lists that are lent

-- three of five values are true: that is as much as three of five asks, and less than seven of ten
reaches_three_of_five : ReachesShare (true ∷ false ∷ true ∷ true ∷ false ∷ []) 3 5
reaches_three_of_five = omega arith

not_seven_of_ten : ReachesShare (true ∷ false ∷ true ∷ true ∷ false ∷ []) 7 10 → ⊥
not_seven_of_ten reached = omega arith

-- ranges that touch are not kept
touching_are_not_kept : AreOf (true ∷ true ∷ false ∷ []) (only_ranges ((0, 1) ∷ (1, 2) ∷ [])) → ⊥
touching_are_not_kept kept = cc (kept.ranges ((0, 1) ∷ (1, 2) ∷ []) refl)

-- a list that is kept stays beside the new one
places_beside_ranges : with_indices (0 ∷ []) (only_ranges ((0, 1) ∷ [])) ≡ with_ranges ((0, 1) ∷ []) (only_indices (0 ∷ []))
places_beside_ranges = refl

-- ---- paths: self's values and true ones, the rank mask's, and whether the true places of each are kept

paths : Gives (λ (m : ℕ × ℕ × ℕ × ℕ × Bool × Bool). path m.0 m.1 m.2 m.3 m.4 m.5) (
    ((130, 6, 6, 3, true, true), BitBuffers)  -- as many ranks as words
    ∷ ((130, 6, 6, 1, true, true), Indices)  -- and fewer
    ∷ ((130, 6, 6, 1, true, false), BitBuffers)
    ∷ ((130, 6, 6, 1, false, true), RankIndices)
    ∷ ((128, 64, 64, 3, false, true), RankIndices)
    ∷ ((128, 64, 64, 16, false, true), RankIndices)  -- a fourth of the ranks
    ∷ ((128, 64, 64, 17, false, true), BitBuffers)  -- and above it
    ∷ ((128, 64, 64, 1, false, true), MaskDriven)  -- below one rank in 32
    ∷ ((128, 64, 64, 2, false, false), BitBuffers)  -- and one in 32
    ∷ ((128, 2, 2, 1, false, false), BitBuffers)  -- one row in 64
    ∷ ((129, 2, 2, 1, false, false), Indices)  -- and below that
    ∷ [])
paths = refl

paths_on_both_sides_of_each_comparison : Gives (λ (m : ℕ × ℕ × ℕ × ℕ × Bool × Bool). path m.0 m.1 m.2 m.3 m.4 m.5) (
    ((128, 64, 64, 1, true, true), Indices)  -- with the ranks kept: their count beside self's started words
    ∷ ((128, 64, 64, 2, true, true), RankIndices)
    ∷ ((129, 64, 64, 2, true, true), Indices)
    ∷ ((129, 64, 64, 3, true, true), RankIndices)
    ∷ ((129, 64, 64, 2, true, false), BitBuffers)
    ∷ ((129, 2, 2, 1, false, true), Indices)  -- self's count beside one in 64
    ∷ ((128, 2, 2, 1, false, true), BitBuffers)
    ∷ ((129, 2, 2, 1, true, false), Indices)
    ∷ ((130, 65, 65, 2, false, true), MaskDriven)  -- the ranks' count beside one in 32
    ∷ ((128, 64, 64, 2, false, true), RankIndices)
    ∷ ((130, 65, 65, 2, false, false), MaskDriven)
    ∷ ((130, 65, 65, 2, true, false), MaskDriven)
    ∷ ((128, 64, 64, 2, true, false), BitBuffers)
    ∷ ((128, 64, 64, 16, true, true), RankIndices)  -- beside one in four, with self's list kept too
    ∷ ((128, 64, 64, 17, true, true), BitBuffers)
    ∷ ((2 ^ 63, 2 ^ 62, 2 ^ 62, 2 ^ 61, false, false), BitBuffers)  -- no product wraps
    ∷ [])
paths_on_both_sides_of_each_comparison = refl

paths_of_thousands_of_values : Gives (λ (m : ℕ × ℕ × ℕ × ℕ × Bool × Bool). path m.0 m.1 m.2 m.3 m.4 m.5) (
    ((128, 2, 2, 1, true, false), BitBuffers)  -- self's list alone is cached, and no test of it counts
    ∷ ((128, 97, 97, 3, true, true), MaskDriven)
    ∷ ((128, 96, 96, 3, true, true), RankIndices)
    ∷ ((1280, 20, 20, 1, false, false), BitBuffers)
    ∷ ((1281, 20, 20, 1, false, false), Indices)
    ∷ ((4096, 640, 640, 20, false, false), BitBuffers)
    ∷ ((4096, 641, 641, 20, false, false), MaskDriven)
    ∷ ((4096, 2000, 2000, 500, false, true), RankIndices)
    ∷ ((4096, 2000, 2000, 501, false, true), BitBuffers)
    ∷ ((65536, 4096, 4096, 1023, true, true), Indices)  -- 1,024 words are started
    ∷ ((65536, 4096, 4096, 1024, true, true), RankIndices)
    ∷ ((65537, 4096, 4096, 1024, true, true), Indices)
    ∷ [])
paths_of_thousands_of_values = refl

-- one value in 16 is not fewer
deposited_by_loop : Gives (λ (m : ℕ × ℕ). is_deposited_by_loop m.0 m.1) (
    ((16, 1), false)
    ∷ ((17, 1), true)
    ∷ ((32, 2), false)
    ∷ ((33, 2), true)
    ∷ ((0, 0), false)
    ∷ ((1, 0), true)
    ∷ ((1048576, 65536), false)
    ∷ ((1048577, 65536), true)
    ∷ ((2 ^ 63, 2 ^ 59), false)  -- no product wraps
    ∷ [])
deposited_by_loop = refl

-- ---- cached lists of what a rank intersection makes, by its path

cached_by_path : Gives (λ path. path_caches path (true ∷ false ∷ true ∷ [])) (
    (Indices, only_indices (0 ∷ 2 ∷ []))
    ∷ (MaskDriven, only_indices (0 ∷ 2 ∷ []))
    ∷ (BitBuffers, no_caches)
    ∷ (RankIndices, no_caches)
    ∷ [])
cached_by_path = refl

narrowed_by_one_value : (a : Mask) (n : ℕ) (m : Mask) → (narrowed_caches a (AllTrue n) m ≡ caches a) × (narrowed_caches a (AllFalse n) m ≡ no_caches)
narrowed_by_one_value (AllTrue k) n m = (refl, refl)
narrowed_by_one_value (AllFalse k) n m = (refl, refl)
narrowed_by_one_value (Values v) n m = (refl, refl)

narrowed_from_one_value : (n : ℕ) (b m : Mask) → (narrowed_caches (AllTrue n) b m ≡ caches b) × (narrowed_caches (AllFalse n) b m ≡ no_caches)
narrowed_from_one_value n b m = (refl, refl)

-- two mixed ones by their path, where the result is mixed too
two_mixed_narrowed : (a b m : Mask) (v w : Contents) → contents a ≡ Some v → contents b ≡ Some w → narrowed_caches a b m ≡ where_mixed m (path_caches (path_of v w) (truth m))
two_mixed_narrowed (Values x) (Values y) m v w held also = cc
two_mixed_narrowed a b m v w held also = absurd (cc)

-- ---- whether the fold of a stack begins by lists

first_of_mixed : (a b m : Mask) (v w : Contents) → contents a ≡ Some v → contents b ≡ Some w → (first_mixed (AllTrue 3 ∷ a ∷ b ∷ []) ≡ Some v) × (first_mixed (AllTrue 3 ∷ AllFalse 3 ∷ []) ≡ None)
first_of_mixed (Values x) b m v w held also = (held, refl)
first_of_mixed a b m v w held also = absurd (cc)

-- ---- steps

-- 10110 and 00100
abbrev rows : List Bool
rows = true ∷ false ∷ true ∷ true ∷ false ∷ []

abbrev left : List Bool
left = false ∷ false ∷ true ∷ false ∷ false ∷ []

deposits_of_five : word_steps rows left ≡ record { deposits = 1; words = 1; selections = 0; offered = 3; placed = 1; spots = 0 }
deposits_of_five = refl

deposits_of_65 : word_steps (repeated 65 true) (repeated 65 false) ≡ record { deposits = 2; words = 2; selections = 0; offered = 65; placed = 0; spots = 0 }
unfolding repeated
deposits_of_65 = refl

-- indices 1 and 65 are both at bit 1 of their words
selections_in_two_words : driven_steps 2 2 (1 ∷ 65 ∷ []) ≡ record { deposits = 0; words = 2; selections = 2; offered = 0; placed = 0; spots = 2 }
selections_in_two_words = refl

no_step_of_indices : AreStepsOf Indices rows (false ∷ true ∷ false ∷ []) left no_steps
no_step_of_indices = refl

one_selection_of_five : AreStepsOf MaskDriven rows (false ∷ true ∷ false ∷ []) left (driven_steps 1 1 (positions left))
one_selection_of_five = (refl, omega arith)

no_more_words_than_are_started : AreStepsOf MaskDriven rows (false ∷ true ∷ false ∷ []) left (driven_steps 2 1 (positions left)) → ⊥
no_more_words_than_are_started steps = omega (arith, steps.1)

no_other_number_of_selections : AreStepsOf MaskDriven rows (false ∷ true ∷ false ∷ []) left (driven_steps 1 2 (positions left)) → ⊥
no_other_number_of_selections steps =
    let number : ◌≡◌ {A = ℕ} 2 1 = ap (λ (s : StepCounts). s.selections) steps.0 in
    omega arith

one_deposit_of_five : AreStepsOf BitBuffers rows (false ∷ true ∷ false ∷ []) left (word_steps rows left) × AreStepsOf RankIndices rows (false ∷ true ∷ false ∷ []) left (word_steps rows left)
one_deposit_of_five = (refl, refl)

-- ---- deposits and selections, also at the last bit

the_last_bit_is_deposited : Deposits 1 (2 ^ 63) 0 → ⊥
unfolding word_bits
the_last_bit_is_deposited are =
    let set : bit_at 0 63 ≡ 1 = (are.bits 63 (omega arith)).1 (refl, refl) in
    absurd (cc)

no_bit_of_none_is_deposited : Deposits 0 (2 ^ 63) (2 ^ 63) → ⊥
unfolding word_bits
no_bit_of_none_is_deposited are =
    let given : bit_at 0 (count_below (word_bits (2 ^ 63)) 63) ≡ 1 = ((are.bits 63 (omega arith)).0 refl).1 in
    absurd (cc)

no_bit_is_deposited_elsewhere : Deposits 1 2 1 → ⊥
no_bit_is_deposited_elsewhere are =
    let held : bit_at 2 0 ≡ 1 = ((are.bits 0 (omega arith)).0 refl).0 in
    absurd (cc)

selections : Gives (λ (row : ℕ × ℕ). selected row.0 row.1) (((26, 2), 4) ∷ ((2 ^ 63, 0), 63) ∷ ((2 ^ 63 + 1, 1), 63) ∷ ((65280, 3), 11) ∷ [])
unfolding word_bits
selections = refl

-- ---- shares

three_of_five : share (true ∷ false ∷ true ∷ true ∷ false ∷ []) ≡ record { num = 3; den = 5 }
three_of_five = refl

of_no_values : (share_by_variant (AllTrue 0) ≡ record { num = 1; den = 1 }) × (share_by_variant (AllFalse 0) ≡ record { num = 0; den = 1 })
of_no_values = (refl, refl)
