-- What the laws that stand for themselves say of lists that are known: each row takes a law, and computes one instance of it.
use Rattle.mask_bits.proofs.Common.{ℕ, ◌≡◌, Bool, true, false, List, [], ◌∷◌, length, nat_lt, slice_range, slice_get, Option, None, Some, refl, sym, arith, slice_index, slice_index_or, and_of, or_of, not_of, and_not_of, concat, limited, without_first, take, drop, positions, count, count_below, rank_intersection, repeated, AreAnswers, AreAsComputed, AreRanges, AreRuns}
use Rattle.mask_bits.specs.Laws.Boolean.{IsFreeOfOrder, DistributesOver, Absorbs, HasComplements, AndNotIsAndOfNot}
use Rattle.mask_bits.specs.Laws.Indices.{PositionsDetermineList, CountBelowPosition, PositionOfCountBelow}
use Rattle.mask_bits.specs.Laws.Nullable.{IsDeMorgan, IsTrueOfParts, KeepsNoNull, IsNotTwice, IsNotFalseOfNot, IsPlainWithoutNulls, IsByParts}
use Rattle.mask_bits.specs.Laws.Parts.{PartOfPart, PartOfConcat, LimitOfLimit, HasLimitCount, HasCountWithoutFirst, AreSplitAtLimit}
use Rattle.mask_bits.specs.Laws.RankIntersection.{IsRankIntersection, RankIntersectionIsTheList, RankIntersectionValue, AllTrueLeftUnit, AllTrueRightUnit, RankIntersectionPosition, RankIntersectionOfAnd, RankIntersectionOfNot}
use Rattle.mask_bits.specs.Nullable.{and_kleene_of, or_kleene_of, not_kleene_of, is_true_of, is_not_false_of, is_null_of, nullable}
use Rattle.mask_bits.specs.Laws.Runs.{RunsExist, RunsAreUnique, RunsAreRanges}

-- 10101, and 011 and 010 over its true values
abbrev m : List Bool
m = true ∷ false ∷ true ∷ false ∷ true ∷ []

abbrev b : List Bool
b = false ∷ true ∷ true ∷ []

abbrev c : List Bool
c = false ∷ true ∷ false ∷ []

-- ---- true indices and words

positions_determine_list : PositionsDetermineList → (xs : List Bool) → length xs ≡ 3 → positions xs ≡ 1 ∷ [] → xs ≡ c
positions_determine_list law xs len at = law xs c len at

count_below_position : CountBelowPosition → count_below m (slice_index (positions m) 2) ≡ 2
count_below_position law = law m 2 (omega arith)

position_of_count_below : PositionOfCountBelow → slice_get (positions m) 1 ≡ Some 2
position_of_count_below law = law m 2 refl

-- ---- rank intersection

only_rank_intersection : RankIntersectionIsTheList → (r : List Bool) → IsRankIntersection m b r → r ≡ rank_intersection m b
only_rank_intersection law r is = (law m b r refl).1 is

rank_intersection_value : RankIntersectionValue → slice_index_or (rank_intersection m b) 2 false ≡ true
rank_intersection_value law = law m b 2 refl

rank_intersection_position : RankIntersectionPosition → slice_index (positions (rank_intersection m b)) 1 ≡ 4
rank_intersection_position law = law m b 1 refl (omega arith)

all_true_left_unit : AllTrueLeftUnit → rank_intersection (repeated 3 true) b ≡ b
all_true_left_unit law = law b

all_true_right_unit : AllTrueRightUnit → rank_intersection m (repeated 3 true) ≡ m
all_true_right_unit law = law m

rank_intersection_of_and : RankIntersectionOfAnd → and_of (rank_intersection m b) (rank_intersection m c) ≡ rank_intersection m (false ∷ true ∷ false ∷ [])
rank_intersection_of_and law = law m b c refl refl

rank_intersection_of_not : RankIntersectionOfNot → rank_intersection m (true ∷ false ∷ false ∷ []) ≡ and_not_of m (rank_intersection m b)
rank_intersection_of_not law = law m b refl

-- ---- runs

runs_exist : RunsExist → (rs : List (ℕ × ℕ)) × AreRuns m rs
runs_exist law = law m

runs_are_unique : RunsAreUnique → (rs ss : List (ℕ × ℕ)) → AreRuns m rs → AreRuns m ss → rs ≡ ss
runs_are_unique law = law m

runs_are_ranges : RunsAreRanges → (rs : List (ℕ × ℕ)) → AreRuns m rs → AreRanges m rs
runs_are_ranges law = law m

-- ---- value by value, of a list that isn't known and one that is

and_commutes : IsFreeOfOrder and_of → (a : List Bool) → and_of a b ≡ and_of b a
and_commutes law a = law.commutes a b

and_regroups : IsFreeOfOrder and_of → (a : List Bool) → and_of (and_of a b) c ≡ and_of a (false ∷ true ∷ false ∷ [])
and_regroups law a = law.regroups a b c

or_commutes : IsFreeOfOrder or_of → (a : List Bool) → or_of a b ≡ or_of b a
or_commutes law a = law.commutes a b

or_regroups : IsFreeOfOrder or_of → (a : List Bool) → or_of (or_of a b) c ≡ or_of a (false ∷ true ∷ true ∷ [])
or_regroups law a = law.regroups a b c

and_distributes : DistributesOver and_of or_of → (a : List Bool) → and_of a (false ∷ true ∷ true ∷ []) ≡ or_of (and_of a b) (and_of a c)
and_distributes law a = law a b c

or_distributes : DistributesOver or_of and_of → (a : List Bool) → or_of a (false ∷ true ∷ false ∷ []) ≡ and_of (or_of a b) (or_of a c)
or_distributes law a = law a b c

and_absorbs : Absorbs and_of or_of → (a : List Bool) → length a ≡ 3 → and_of a (or_of a b) ≡ a
and_absorbs law a len = law a b len

or_absorbs : Absorbs or_of and_of → (a : List Bool) → length a ≡ 3 → or_of a (and_of a b) ≡ a
or_absorbs law a len = law a b len

none_is_both : HasComplements → (a : List Bool) → and_of a (not_of a) ≡ repeated (length a) false
none_is_both law = law.none_is_both

each_is_one : HasComplements → (a : List Bool) → or_of a (not_of a) ≡ repeated (length a) true
each_is_one law = law.each_is_one

complement_twice : HasComplements → (a : List Bool) → not_of (not_of a) ≡ a
complement_twice law = law.twice

and_not_is_and_of_not : AndNotIsAndOfNot → (a : List Bool) → and_not_of a b ≡ and_of a (true ∷ false ∷ false ∷ [])
and_not_is_and_of_not law a = law a b

-- ---- with nulls, of a list that isn't known and one that is

-- true, false and null
abbrev n : List (Option Bool)
n = Some true ∷ Some false ∷ None ∷ []

not_and_of_nulls : IsDeMorgan → (a : List (Option Bool)) → not_kleene_of (and_kleene_of a n) ≡ or_kleene_of (not_kleene_of a) (Some false ∷ Some true ∷ None ∷ [])
not_and_of_nulls law a = law.not_and a n

not_or_of_nulls : IsDeMorgan → (a : List (Option Bool)) → not_kleene_of (or_kleene_of a n) ≡ and_kleene_of (not_kleene_of a) (Some false ∷ Some true ∷ None ∷ [])
not_or_of_nulls law a = law.not_or a n

kept_of_and : IsTrueOfParts → (a : List (Option Bool)) → is_true_of (and_kleene_of a n) ≡ and_of (is_true_of a) (true ∷ false ∷ false ∷ [])
kept_of_and law a = law.and a n

kept_of_or : IsTrueOfParts → (a : List (Option Bool)) → is_true_of (or_kleene_of a n) ≡ or_of (is_true_of a) (true ∷ false ∷ false ∷ [])
kept_of_or law a = law.or a n

null_is_not_kept : KeepsNoNull → (a : List (Option Bool)) → slice_get a 2 ≡ Some None → slice_get (is_true_of (not_kleene_of a)) 2 ≡ Some false
null_is_not_kept law a null = law.not a 2 null

not_of_nulls_twice : IsNotTwice → (a : List (Option Bool)) → not_kleene_of (not_kleene_of a) ≡ a
not_of_nulls_twice law = law

let_pass : IsNotFalseOfNot → is_not_false_of n ≡ true ∷ false ∷ true ∷ []
let_pass law = law n

and_without_nulls : IsPlainWithoutNulls → and_kleene_of (nullable b None) (nullable c None) ≡ nullable (false ∷ true ∷ false ∷ []) None
and_without_nulls law = law.and b c

kept_by_parts : IsByParts → (a : List Bool) → is_true_of (nullable a (Some b)) ≡ and_of a b
kept_by_parts law a = law.is_true a b

nulls_by_parts : IsByParts → (a : List Bool) → length a ≡ 3 → is_null_of (nullable a (Some b)) ≡ true ∷ false ∷ false ∷ []
nulls_by_parts law a len = law.is_null a b (sym len)

-- ---- parts and limits

part_of_part : PartOfPart → (xs : List Bool) → slice_range (slice_range xs 1 4) 1 3 ≡ slice_range xs 2 4
part_of_part law xs = law xs 1 4 1 3 (omega arith)

part_of_concat : PartOfConcat → (xs : List Bool) → slice_range (concat (m ∷ b ∷ xs ∷ [])) 5 8 ≡ b
part_of_concat law xs = law (m ∷ []) (xs ∷ []) b

limit_of_limit : LimitOfLimit → (xs : List Bool) → limited (limited xs 2) 1 ≡ limited xs 1
limit_of_limit law xs = law xs 2 1

length_of_limit : HasLimitCount → (xs : List Bool) → length (limited xs 2) ≡ length xs
length_of_limit law xs = law.len xs 2

count_of_limit : HasLimitCount → count (limited m 2) ≡ 2
count_of_limit law = law.count m 2

count_of_limit_past_the_count : HasLimitCount → count (limited m 9) ≡ 3
count_of_limit_past_the_count law = law.count m 9

count_without_first : HasCountWithoutFirst → count (without_first m 2) ≡ 1
count_without_first law = law.count m 2

length_without_first : HasCountWithoutFirst → (xs : List Bool) → length (without_first xs 2) ≡ length xs
length_without_first law xs = law.len xs 2

places_of_a_limit : AreSplitAtLimit → (xs : List Bool) → positions (limited xs 2) ≡ take 2 (positions xs)
places_of_a_limit law xs = law.first xs 2

places_of_the_others : AreSplitAtLimit → (xs : List Bool) → positions (without_first xs 2) ≡ drop 2 (positions xs)
places_of_the_others law xs = law.others xs 2

-- ---- answers of a test

one_answer : (gives : ℕ → Bool → Type 0) → AreAnswers gives (7 ∷ []) (true ∷ []) → gives 7 true
one_answer gives are = are.each 0 (7, true) (omega arith)

as_many_answers : (gives : ℕ → Bool → Type 0) (xs : List Bool) → AreAnswers gives (7 ∷ 8 ∷ []) xs → length xs ≡ 2
as_many_answers gives xs are = are.len

answers_of_a_function : (xs : List Bool) → AreAsComputed (λ row answer. answer ≡ nat_lt 2 row.now) (3 ∷ 1 ∷ 4 ∷ []) xs → xs ≡ true ∷ false ∷ true ∷ []
answers_of_a_function xs are = are (nat_lt 2) (λ row answer same. same)
