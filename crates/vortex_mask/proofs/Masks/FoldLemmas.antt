-- The variant of a fold, and folds that need no memory.
use Rattle.vortex_mask.proofs.Common.{common_steps, ◌≡◌, ◌≢◌, ℕ, zero, suc, ◌+◌, ◌<◌, Bool, List, [], ◌∷◌, length, get_or, drop, map, refl, ap, ◌∙◌, arith, fold, drop_more, length-drop, length-map, All-head, count, rank_intersection, IsStack, folded_left, truth, Variant, variant, variant_and, fitting_variant, all_false, mixed, count-repeated_true, count-repeated_false, length-repeated, rank_intersection_count, folding_keeps_a_stack, count-le-length, rank_intersection-all_true, Mask, AllTrue, AllFalse, Values, All}
use Rattle.mask_bits.proofs.Lists.StackLemmas.{folded_by_the_first, length_of_fold}
use Rattle.vortex_mask.proofs.Masks.MaskLemmas.{fitting_variant-all_false, fitting_variant-repeated_true}

-- how a fold is held goes by the variants of its masks alone where no list has values, and by its list elsewhere
pub fold_variant : (v w : Variant) (vs : List Variant) (m t : List Bool) → length t ≡ length m → v ≡ fitting_variant w m → fitting_variant (fold variant_and v vs) t ≡ fitting_variant (fold variant_and w vs) t
fold_variant v w vs [] [] same is = ap (λ (x : Variant). fitting_variant (fold variant_and x vs) []) is
fold_variant v w vs [] (y ∷ t) same is = absurd (omega arith)
fold_variant v w vs (x ∷ m) [] same is = absurd (omega arith)
fold_variant v w vs (x ∷ m) (y ∷ t) same is = refl

-- r is mask a narrowed by mask b
pub record IsNarrowed (a b r : Mask) : Type 0 where
  pub fits : length (truth b) ≡ count (truth a)
  pub list : truth r ≡ rank_intersection (truth a) (truth b)
  pub held : variant r ≡ fitting_variant (variant_and (variant a) (variant b)) (truth r)

-- what is held as all false stays so
pub stays_all_false : (a b r : Mask) → IsNarrowed a b r → variant a ≡ all_false → variant r ≡ all_false
stays_all_false (AllFalse n) b r is held = grind (arith, common_steps, fitting_variant-all_false, rank_intersection_count, count-repeated_false, count-le-length)
stays_all_false a b r is held = absurd (cc)

-- two masks of one value each narrow to one
pub stays_of_one_value : (a b r : Mask) → IsNarrowed a b r → variant a ≢ mixed → variant b ≢ mixed → variant r ≢ mixed
stays_of_one_value (Values v) b r is one other = absurd (one refl)
stays_of_one_value a (Values w) r is one other = absurd (other refl)
stays_of_one_value (AllFalse n) b r is one other = λ same. let held = stays_all_false (AllFalse n) b r is refl in cc
stays_of_one_value (AllTrue n) (AllFalse k) r is one other = grind (arith, common_steps, fitting_variant-all_false, rank_intersection_count, count-repeated_false)
stays_of_one_value (AllTrue n) (AllTrue k) r is one other = grind (arith, common_steps, rank_intersection-all_true, fitting_variant-repeated_true, length-repeated, count-repeated_true)

-- ---- the fold, mask by mask

-- r stands in the place of the first mask and of i more, below those to come
pub record IsFoldSoFar (first : Mask) (masks : List Mask) (i : ℕ) (r : Mask) : Type 0 where
  pub stack : IsStack (truth r ∷ map truth (drop i masks))
  pub folded : folded_left (truth r ∷ map truth (drop i masks)) ≡ folded_left (truth first ∷ map truth masks)
  pub held : fitting_variant (fold variant_and (variant r) (map variant (drop i masks))) (folded_left (truth first ∷ map truth masks))
      ≡ fitting_variant (fold variant_and (variant first) (map variant masks)) (folded_left (truth first ∷ map truth masks))
  pub uniform : variant first ≢ mixed → All (λ m. variant m ≢ mixed) masks → variant r ≢ mixed
  pub none : variant first ≡ all_false → variant r ≡ all_false

pub fold_more : (first : Mask) (masks : List Mask) (i : ℕ) (a b r : Mask) → i < length masks → b ≡ get_or masks i b → IsFoldSoFar first masks i a
    → truth r ≡ rank_intersection (truth a) (truth b) → variant r ≡ fitting_variant (variant_and (variant a) (variant b)) (truth r) → IsFoldSoFar first masks (i + 1) r
fold_more first masks i a b r within at so_far list held = grind (arith, drop_more, folding_keeps_a_stack, fold_variant, length_of_fold, stays_of_one_value, stays_all_false)

-- ---- the fold from the last mask down

-- the masks from one of them on are a stack
stack_from : (a : List Bool) (masks : List Mask) (i : ℕ) → i < length masks → IsStack (a ∷ map truth masks) → IsStack (map truth (drop i masks))
stack_from a [] i within stack = absurd (omega arith)
stack_from a (m ∷ masks) zero within stack = stack.1
stack_from a (m ∷ masks) (suc i) within stack = stack_from (truth m) masks i (omega arith) stack.1

-- a first list narrowed by the fold of those above it
pub fold_above : (a : List Bool) (ms : List (List Bool)) → IsStack (a ∷ ms) → 0 < length ms → (length (folded_left ms) ≡ count a) × (folded_left (a ∷ ms) ≡ rank_intersection a (folded_left ms))
fold_above a [] stack some = absurd (omega arith)
fold_above a (b ∷ ms) stack some = (length_of_fold b ms ∙ stack.0, folded_by_the_first a b ms stack)

-- the masks from number i on, of which there is one above it
below : (a : List Bool) (masks : List Mask) (i : ℕ) (m : Mask) → IsStack (a ∷ map truth masks) → i + 1 < length masks → m ≡ get_or masks i m
    → (drop i masks ≡ m ∷ drop (i + 1) masks) × IsStack (truth m ∷ map truth (drop (i + 1) masks)) × (0 < length (map truth (drop (i + 1) masks)))
below a masks i m stack within is = grind (arith, common_steps, drop_more masks i m (omega arith), stack_from a masks i (omega arith) stack, length-map (drop (i + 1) masks) truth, length-drop (i + 1) masks)

-- the fold from a mask on has a value for each row that the mask below it chooses
pub fold_fits : (a : List Bool) (masks : List Mask) (i : ℕ) (m above : Mask) → IsStack (a ∷ map truth masks) → i + 1 < length masks → m ≡ get_or masks i m
    → truth above ≡ folded_left (map truth (drop (i + 1) masks)) → length (truth above) ≡ count (truth m)
fold_fits a masks i m above stack within is folded = grind (arith, common_steps, below a masks i m stack within is, fold_above (truth m) (map truth (drop (i + 1) masks)) (below a masks i m stack within is).1 (below a masks i m stack within is).2)

-- and that mask narrowed by it is the fold from there on
pub fold_below : (a : List Bool) (masks : List Mask) (i : ℕ) (m above r : Mask) → IsStack (a ∷ map truth masks) → i + 1 < length masks → m ≡ get_or masks i m
    → truth above ≡ folded_left (map truth (drop (i + 1) masks)) → truth r ≡ rank_intersection (truth m) (truth above) → truth r ≡ folded_left (map truth (drop i masks))
fold_below a masks i m above r stack within is folded narrowed = grind (arith, common_steps, below, fold_above)

-- a mask below masks that choose rows has rows
pub some_rows : (a : List Bool) (masks : List Mask) → IsStack (a ∷ map truth masks) → 0 < length masks → All (λ m. 0 < count (truth m)) masks → 0 < length a
some_rows a [] stack some choose = absurd (omega arith)
some_rows a (m ∷ masks) stack some choose = omega (arith, stack.0, count-le-length a, count-le-length (truth m), All-head (λ (x : Mask). 0 < count (truth x)) m masks choose)

-- a list that has a value is held in one way
pub one_way : (v w : Variant) (m : List Bool) → 0 < length m → fitting_variant v m ≡ fitting_variant w m
one_way v w [] some = absurd (omega arith)
one_way v w (x ∷ m) some = refl
