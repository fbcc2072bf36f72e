-- The laws of stacks, by recursion on the masks.
use Rattle.mask_bits.proofs.Common.{◌≡◌, Bool, List, [], ◌∷◌, length, refl, sym, subst, ◌∙◌, arith, count, rank_intersection, chosen, IsStack, folded_left, fold}
use Rattle.mask_bits.specs.Laws.Stacks.{StackFoldsAlike}
use Rattle.mask_bits.proofs.Lists.LawLemmas.{length-rank_intersection, rank_intersection_associative, choosing_twice, folding_keeps_a_stack, rank_intersection-none}
use Rattle.mask_bits.proofs.Lists.CountLemmas.{all_false_from_count}
use Rattle.mask_bits.proofs.Lists.Places.PlaceLemmas.{count-le-length}

-- a stack whose second and third mask are made one is a stack
keeps_a_stack_above : (a b c : List Bool) (ms : List (List Bool)) → IsStack (a ∷ b ∷ c ∷ ms) → IsStack (a ∷ rank_intersection b c ∷ ms)
keeps_a_stack_above a b c ms stack = (length-rank_intersection b c ∙ stack.0, folding_keeps_a_stack b c ms stack.1)

-- the fold of a stack of two masks or more is the first narrowed by the fold of the rest
pub folded_by_the_first : (first second : List Bool) (ms : List (List Bool)) → IsStack (first ∷ second ∷ ms) → folded_left (first ∷ second ∷ ms) ≡ rank_intersection first (folded_left (second ∷ ms))
folded_by_the_first a b [] stack = refl
folded_by_the_first a b (c ∷ ms) stack = grind (arith, folded_by_the_first a (rank_intersection b c) ms (keeps_a_stack_above a b c ms stack), rank_intersection_associative)

pub stack_folds_alike : StackFoldsAlike
stack_folds_alike [] stack = refl
stack_folds_alike (v ∷ ms) stack = grind (arith, stack_folds_alike ms, folded_by_the_first)

-- the fold is as long as the first mask
pub length_of_fold : (first : List Bool) (ms : List (List Bool)) → length (folded_left (first ∷ ms)) ≡ length first
length_of_fold first [] = refl
length_of_fold first (m ∷ ms) = length_of_fold (rank_intersection first m) ms ∙ length-rank_intersection first m

-- a list with no true value stays as it is
narrowed_none : (a b : List Bool) → count a ≡ 0 → length b ≡ count a → rank_intersection a b ≡ a
narrowed_none a b none fits = grind (arith, count-le-length, rank_intersection-none, all_false_from_count)

-- a stack whose first mask has no true value folds to that mask
pub fold_of_no_row : (first : List Bool) (ms : List (List Bool)) → count first ≡ 0 → IsStack (first ∷ ms) → folded_left (first ∷ ms) ≡ first
fold_of_no_row first [] none stack = refl
fold_of_no_row first (m ∷ ms) none stack =
    grind (arith, fold_of_no_row first ms none (subst (λ (a : List Bool). IsStack (a ∷ ms)) (narrowed_none first m none stack.0) (folding_keeps_a_stack first m ms stack)), narrowed_none)

-- choosing by the fold of a stack is choosing by each of its masks in turn
pub choosing_in_turn : (X : Type 0) → (rows : List X) (first : List Bool) (ms : List (List Bool)) → length rows ≡ length first → IsStack (first ∷ ms)
    → chosen rows (folded_left (first ∷ ms)) ≡ fold chosen rows (first ∷ ms)
choosing_in_turn X rows first [] len stack = refl
choosing_in_turn X rows first (m ∷ ms) len stack =
    grind (arith, choosing_in_turn X rows (rank_intersection first m) ms (len ∙ sym (length-rank_intersection first m)) (folding_keeps_a_stack first m ms stack), choosing_twice)
