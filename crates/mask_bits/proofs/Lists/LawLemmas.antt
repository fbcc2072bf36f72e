-- The laws of rank intersection and of choosing, by recursion on the first list.
use Rattle.mask_bits.proofs.Common.{◌≡◌, ℕ, suc, ◌&&◌, Bool, true, false, List, [], ◌∷◌, length, get_or, take, map, slice_get, refl, sym, ap, ◌∙◌, arith, ap₂, cons_option, filter_map, items_where_true, get_or-map, positions, count, true_at, at_indices, rank_intersection, chosen, repeated, IsStack}
use Rattle.mask_bits.specs.Laws.Indices.{PositionsDetermineList}
use Rattle.mask_bits.specs.Laws.RankIntersection.{RankIntersectionIsTheList, RankIntersectionValue, ChoosingTwice, RankIntersectionAssociative, AllTrueLeftUnit, AllTrueRightUnit, RankIntersectionCount, RankIntersectionPosition}
use Rattle.mask_bits.proofs.Lists.Places.PlaceLemmas.{positions-true, positions-false, trues, count-trues}
use Rattle.mask_bits.proofs.Lists.RankLemmas.{narrow, rank_intersection-narrow, positions-fit, at_indices-map_suc, at_indices-cons_suc, true_at-suc, true_at-zero_suc, length-true_at, rank_intersection-all_true, rank_intersection-by_all_true}
use Rattle.mask_bits.proofs.Lists.CountLemmas.{all_false_from_count}

-- ---- a list by its true places

-- a list is true exactly at its true places
pub true_at-positions : (m : List Bool) → true_at (length m) (positions m) ≡ m
unfolding true_at
true_at-positions [] = refl
true_at-positions (v ∷ m) = grind (arith, true_at-positions m, positions-true, true_at-zero_suc, positions-false, true_at-suc)

pub positions_determine_list : PositionsDetermineList
positions_determine_list a b len places = sym (true_at-positions a) ∙ ap₂ true_at len places ∙ true_at-positions b

-- ---- the true places of a rank intersection

positions-narrow : (a b : List Bool) → length b ≡ trues a → positions (narrow a b) ≡ at_indices (positions a) (positions b)
positions-narrow [] [] fits = refl
positions-narrow [] (v ∷ b) fits = absurd (omega arith)
positions-narrow (false ∷ a) b fits = grind (arith, positions-narrow a b fits, positions-false, narrow, at_indices-map_suc, positions-fit)
positions-narrow (true ∷ a) [] fits = absurd (omega arith)
positions-narrow (true ∷ a) (v ∷ b) fits =
    grind (arith, positions-narrow a b (omega arith), trues, narrow, at_indices-cons_suc, at_indices-map_suc, positions-fit, positions-true, positions-false)

pub positions-rank_intersection : (a b : List Bool) → length b ≡ count a → positions (rank_intersection a b) ≡ at_indices (positions a) (positions b)
positions-rank_intersection a b fits = grind (arith, rank_intersection-narrow, positions-narrow, count-trues)

pub length-rank_intersection : (a b : List Bool) → length (rank_intersection a b) ≡ length a
length-rank_intersection a b = length-true_at (length a) (at_indices (positions a) (positions b))

pub rank_intersection_is_the_list : RankIntersectionIsTheList
rank_intersection_is_the_list a b r fits = grind (arith, length-rank_intersection, positions-rank_intersection, positions_determine_list)

-- ---- values

get_or-narrow : (a b : List Bool) (i : ℕ) → length b ≡ trues a → get_or (narrow a b) i false ≡ (get_or a i false && get_or b (trues (take i a)) false)
get_or-narrow [] b i fits = refl
get_or-narrow (v ∷ a) b i fits = grind (arith, get_or-narrow a)

pub rank_intersection_value : RankIntersectionValue
rank_intersection_value a b i fits = grind (arith, rank_intersection-narrow, get_or-narrow, count-trues)

-- ---- choosing

-- rows at places one further on, of a list with one more row in front
filter_map-map_suc : {X : Type 0} (r : X) (rows : List X) (ps : List ℕ) → filter_map (λ i. slice_get (r ∷ rows) i) (map suc ps) ≡ filter_map (λ i. slice_get rows i) ps
filter_map-map_suc r rows [] = refl
filter_map-map_suc r rows (p ∷ ps) = ap (cons_option (slice_get rows p)) (filter_map-map_suc r rows ps)

-- no row is at any place of no rows
filter_map-none : {X : Type 0} (ps : List ℕ) → filter_map (λ i. slice_get {X = X} [] i) ps ≡ []
filter_map-none [] = refl
filter_map-none {X} (p ∷ ps) = filter_map-none {X = X} ps

pub chosen-items_where_true : {X : Type 0} (rows : List X) (m : List Bool) → chosen rows m ≡ items_where_true m rows
unfolding chosen
chosen-items_where_true rows [] = refl
chosen-items_where_true {X} [] (v ∷ m) = filter_map-none {X = X} (positions (v ∷ m))
chosen-items_where_true {X} (r ∷ rows) (v ∷ m) = grind (arith, positions-true m, positions-false m, filter_map-map_suc r rows (positions m), chosen-items_where_true rows m)

length-items_where_true : {X : Type 0} (rows : List X) (m : List Bool) → length rows ≡ length m → length (items_where_true m rows) ≡ trues m
length-items_where_true [] [] len = refl
length-items_where_true [] (v ∷ m) len = absurd (omega arith)
length-items_where_true (r ∷ rows) [] len = absurd (omega arith)
length-items_where_true (r ∷ rows) (v ∷ m) len = grind (arith, length-items_where_true rows m)

-- as many rows are chosen as values are true
pub length-chosen : {X : Type 0} (rows : List X) (m : List Bool) → length rows ≡ length m → length (chosen rows m) ≡ count m
length-chosen rows m len = grind (arith, chosen-items_where_true, length-items_where_true, count-trues)

items_where_true-narrow : {X : Type 0} (rows : List X) (a b : List Bool) → length rows ≡ length a → length b ≡ trues a → items_where_true (narrow a b) rows ≡ items_where_true b (items_where_true a rows)
items_where_true-narrow [] [] [] len fits = refl
items_where_true-narrow [] [] (v ∷ b) len fits = absurd (omega arith)
items_where_true-narrow [] (v ∷ a) b len fits = absurd (omega arith)
items_where_true-narrow (r ∷ rows) [] b len fits = absurd (omega arith)
items_where_true-narrow (r ∷ rows) (v ∷ a) b len fits = grind (arith, items_where_true-narrow rows a)

pub choosing_twice : (X : Type 0) → ChoosingTwice X
choosing_twice X rows a b len fits = grind (arith, rank_intersection-narrow, chosen-items_where_true, items_where_true-narrow, count-trues)

-- ---- counts and groupings

trues-narrow : (a b : List Bool) → length b ≡ trues a → trues (narrow a b) ≡ trues b
trues-narrow [] [] fits = refl
trues-narrow [] (v ∷ b) fits = absurd (omega arith)
trues-narrow (v ∷ a) b fits = grind (arith, trues-narrow a)

pub rank_intersection_count : RankIntersectionCount
rank_intersection_count a b fits = grind (arith, rank_intersection-narrow, count-trues, trues-narrow)

narrow_assoc : (a b c : List Bool) → length b ≡ trues a → length c ≡ trues b → narrow (narrow a b) c ≡ narrow a (narrow b c)
narrow_assoc [] b c fits fits' = refl
narrow_assoc (v ∷ a) b c fits fits' = grind (arith, narrow_assoc a)

pub rank_intersection_associative : RankIntersectionAssociative
rank_intersection_associative a b c fits fits' = grind (arith, rank_intersection-narrow, length-rank_intersection, rank_intersection_count, narrow_assoc, count-trues)

pub all_true_left_unit : AllTrueLeftUnit
all_true_left_unit b = rank_intersection-all_true (length b) b refl

pub all_true_right_unit : AllTrueRightUnit
all_true_right_unit a = rank_intersection-by_all_true a (count a) refl

pub rank_intersection_position : RankIntersectionPosition
rank_intersection_position a b n fits below = grind (arith, positions-rank_intersection, get_or-map)

-- ---- stacks

-- a stack whose first two masks are made one is a stack
pub folding_keeps_a_stack : (a b : List Bool) (ms : List (List Bool)) → IsStack (a ∷ b ∷ ms) → IsStack (rank_intersection a b ∷ ms)
folding_keeps_a_stack a b [] stack = tt
folding_keeps_a_stack a b (c ∷ ms) stack = (stack.1.0 ∙ sym (rank_intersection_count a b stack.0), stack.1.1)

-- where the second chooses nothing, nothing stays
pub rank_intersection-none : (a b : List Bool) → length b ≡ count a → count b ≡ 0 → rank_intersection a b ≡ repeated (length a) false
rank_intersection-none a b fits none = grind (arith, all_false_from_count 0 (rank_intersection a b), rank_intersection_count, length-rank_intersection a b)
