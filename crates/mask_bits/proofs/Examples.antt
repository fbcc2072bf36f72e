-- Worked examples of the words that make lists of truth values, computed by the checker.
use Rattle.mask_bits.proofs.Common.{ℕ, ◌≡◌, ◌<◌, Bool, true, false, List, [], ◌∷◌, Option, None, Some, slice_range, refl, arith, beq, pointwise, true_at, IsFirstFrom, AreRanges, AreRuns, IsStack, folded_left, folded_right, word_bits, window, and_of, or_of, not_of, and_not_of, concat, limited, without_first, positions, count_below, rank_intersection, repeated, chosen, values}
use Rattle.mask_bits.specs.Nullable.{and_kleene_of, or_kleene_of, not_kleene_of, is_true_of, is_not_false_of, is_null_of, nullable}
use Rattle.mask_bits.proofs.Lists.Runs.RangeLemmas.{ranges_add_up_to_the_count}
use Rattle.mask_bits.proofs.Lists.Runs.RunLemmas.{AreRuns-runs_from, runs_are_ranges}

-- 1100 and 1010
abbrev a : List Bool
a = true ∷ true ∷ false ∷ false ∷ []

abbrev b : List Bool
b = true ∷ false ∷ true ∷ false ∷ []

and_example : and_of a b ≡ true ∷ false ∷ false ∷ false ∷ []
and_example = refl

or_example : or_of a b ≡ true ∷ true ∷ true ∷ false ∷ []
or_example = refl

and_not_example : and_not_of a b ≡ false ∷ true ∷ false ∷ false ∷ []
and_not_example = refl

not_example : not_of a ≡ false ∷ false ∷ true ∷ true ∷ []
not_example = refl

-- each three values with each three: true, false and null
abbrev x : List (Option Bool)
x = Some true ∷ Some true ∷ Some true ∷ Some false ∷ Some false ∷ Some false ∷ None ∷ None ∷ None ∷ []

abbrev y : List (Option Bool)
y = Some true ∷ Some false ∷ None ∷ Some true ∷ Some false ∷ None ∷ Some true ∷ Some false ∷ None ∷ []

and_kleene_example : and_kleene_of x y ≡ Some true ∷ Some false ∷ None ∷ Some false ∷ Some false ∷ Some false ∷ None ∷ Some false ∷ None ∷ []
and_kleene_example = refl

or_kleene_example : or_kleene_of x y ≡ Some true ∷ Some true ∷ Some true ∷ Some true ∷ Some false ∷ None ∷ Some true ∷ None ∷ None ∷ []
or_kleene_example = refl

nullable_example : not_kleene_of (nullable a (Some b)) ≡ Some false ∷ None ∷ Some true ∷ None ∷ []
nullable_example = refl

kept_example : is_true_of (nullable a (Some b)) ≡ true ∷ false ∷ false ∷ false ∷ []
kept_example = refl

let_pass_example : is_not_false_of (nullable a (Some b)) ≡ true ∷ true ∷ false ∷ true ∷ []
let_pass_example = refl

null_example : is_null_of (nullable a (Some b)) ≡ false ∷ true ∷ false ∷ true ∷ []
null_example = refl

-- and-not takes the second list's values away, and not the first's
and_not_turned : pointwise beq (and_not_of a b) (and_not_of b a) ≡ false
and_not_turned = refl

concat_example : concat (a ∷ [] ∷ (true ∷ []) ∷ []) ≡ true ∷ true ∷ false ∷ false ∷ true ∷ []
concat_example = refl

part_example : slice_range (concat (a ∷ b ∷ [])) 4 8 ≡ b
part_example = refl

-- 01101 limited to two true values, to none, and to more than it has
abbrev m : List Bool
m = false ∷ true ∷ true ∷ false ∷ true ∷ []

limited_example : limited m 2 ≡ false ∷ true ∷ true ∷ false ∷ false ∷ []
unfolding limited
limited_example = refl

limited_to_none : limited m 0 ≡ false ∷ false ∷ false ∷ false ∷ false ∷ []
unfolding limited
limited_to_none = refl

limited_to_more : limited m 9 ≡ m
unfolding limited
limited_to_more = refl

-- a limit counts true values, and not places
limited_by_places : pointwise beq (limited m 2) (false ∷ true ∷ false ∷ false ∷ false ∷ []) ≡ false
unfolding limited
limited_by_places = refl

-- and without its first two true values, its first none, and more than it has
without_first_example : without_first m 2 ≡ false ∷ false ∷ false ∷ false ∷ true ∷ []
unfolding without_first
without_first_example = refl

without_first_none : without_first m 0 ≡ m
unfolding without_first
without_first_none = refl

without_more : without_first m 9 ≡ false ∷ false ∷ false ∷ false ∷ false ∷ []
unfolding without_first
without_more = refl

-- it leaves out true values, and not places
without_first_by_places : pointwise beq (without_first m 2) (false ∷ false ∷ true ∷ false ∷ true ∷ []) ≡ false
unfolding without_first
without_first_by_places = refl

-- ---- runs and ranges of 10110

abbrev r : List Bool
r = true ∷ false ∷ true ∷ true ∷ false ∷ []

runs_example : AreRuns r ((0, 1) ∷ (2, 4) ∷ [])
runs_example = AreRuns-runs_from r

-- runs are ranges
ranges_example : AreRanges r ((0, 1) ∷ (2, 4) ∷ [])
ranges_example = runs_are_ranges r ((0, 1) ∷ (2, 4) ∷ []) runs_example

-- ranges that touch are no runs
touching_are_no_runs : AreRuns r ((0, 1) ∷ (2, 3) ∷ (3, 4) ∷ []) → ⊥
touching_are_no_runs are =
    let past : 3 < 3 = are.apart 1 (0, 0) (omega arith) in
    omega arith

-- ranges that overlap are no ranges of a list, and neither are those that leave a true place out
overlapping_are_none : AreRanges r ((0, 1) ∷ (2, 4) ∷ (3, 4) ∷ []) → ⊥
overlapping_are_none are =
    let total : ◌≡◌ {A = ℕ} 4 3 = ranges_add_up_to_the_count r ((0, 1) ∷ (2, 4) ∷ (3, 4) ∷ []) are in
    omega arith

fewer_are_none : AreRanges r ((0, 1) ∷ (2, 3) ∷ []) → ⊥
fewer_are_none are =
    let total : ◌≡◌ {A = ℕ} 2 3 = ranges_add_up_to_the_count r ((0, 1) ∷ (2, 3) ∷ []) are in
    omega arith

-- an empty range holds no place
empty_are_none : AreRanges r ((0, 1) ∷ (2, 2) ∷ (2, 4) ∷ []) → ⊥
empty_are_none are =
    let some : 2 < 2 = are.nonempty 1 (0, 0) (omega arith) in
    omega arith

-- ---- the first place of a value, from place 1 on

-- a place that holds the other value is not it
not_first : IsFirstFrom r 1 true 4 → ⊥
not_first first =
    let other : false ≡ true = first.holds (omega arith) in
    absurd (cc)

-- nor is one past the first
past_first : IsFirstFrom r 1 true 3 → ⊥
past_first first =
    let passed : true ≡ false = first.passed 2 (omega arith) (omega arith) in
    absurd (cc)

-- ---- stacks

a_stack : IsStack (r ∷ (true ∷ false ∷ true ∷ []) ∷ (false ∷ true ∷ []) ∷ [])
a_stack = (refl, (refl, tt))

no_stack : IsStack (r ∷ (true ∷ false ∷ []) ∷ []) → ⊥
no_stack stack = omega (arith, stack.0)

stack_folded : folded_left (r ∷ (true ∷ false ∷ true ∷ []) ∷ (false ∷ true ∷ []) ∷ []) ≡ false ∷ false ∷ false ∷ true ∷ false ∷ []
unfolding true_at
stack_folded = refl

stack_folded_from_the_right : folded_right (r ∷ (true ∷ false ∷ true ∷ []) ∷ (false ∷ true ∷ []) ∷ []) ≡ false ∷ false ∷ false ∷ true ∷ false ∷ []
unfolding true_at
stack_folded_from_the_right = refl

none_folded : (folded_left [] ≡ []) × (folded_right [] ≡ [])
none_folded = (refl, refl)

-- ---- words

low_bits_first : slice_range (word_bits 6) 0 4 ≡ false ∷ true ∷ true ∷ false ∷ []
unfolding word_bits
low_bits_first = refl

bits_from_the_offset : slice_range (window (180 ∷ 255 ∷ []) 2) 0 5 ≡ true ∷ false ∷ true ∷ true ∷ false ∷ []
unfolding window
bits_from_the_offset = refl

-- ---- 10011101 and 00101: true indices, one list narrowed by another, and rows 10 to 17 chosen by one and then by the other

abbrev first : List Bool
first = true ∷ false ∷ false ∷ true ∷ true ∷ true ∷ false ∷ true ∷ []

abbrev second : List Bool
second = false ∷ false ∷ true ∷ false ∷ true ∷ []

positions_of_first : positions first ≡ 0 ∷ 3 ∷ 4 ∷ 5 ∷ 7 ∷ []
positions_of_first = refl

count_below_of_first : count_below first 5 ≡ 3
count_below_of_first = refl

first_narrowed_by_second : rank_intersection first second ≡ false ∷ false ∷ false ∷ false ∷ true ∷ false ∷ false ∷ true ∷ []
unfolding true_at
first_narrowed_by_second = refl

narrowed_by_nothing : rank_intersection (repeated 3 false) [] ≡ repeated 3 false
unfolding true_at repeated
narrowed_by_nothing = refl

rows_by_first : chosen {X = ℕ} (10 ∷ 11 ∷ 12 ∷ 13 ∷ 14 ∷ 15 ∷ 16 ∷ 17 ∷ []) first ≡ 10 ∷ 13 ∷ 14 ∷ 15 ∷ 17 ∷ []
unfolding chosen
rows_by_first = refl

rows_by_both : chosen {X = ℕ} (10 ∷ 13 ∷ 14 ∷ 15 ∷ 17 ∷ []) second ≡ 14 ∷ 17 ∷ []
unfolding chosen
rows_by_both = refl

-- bits 2 to 6 of the bytes 0xB4 and 0xFF, and the last bit of 0x80
bits_at_an_odd_offset : values (record { bytes = 180 ∷ 255 ∷ []; offset = 2; len = 5 }) ≡ true ∷ false ∷ true ∷ true ∷ false ∷ []
unfolding values
bits_at_an_odd_offset = refl

the_last_bit : values (record { bytes = 128 ∷ []; offset = 7; len = 1 }) ≡ true ∷ []
unfolding values
the_last_bit = refl
