-- The rank intersection of two lists, by recursion on the first.
use Rattle.mask_bits.proofs.Common.{◌≡◌, ℕ, zero, suc, ◌+◌, ◌<◌, ◌≤◌, Bool, true, false, List, [], ◌∷◌, length, get_or, map, nat_eq, refl, ap, ◌∙◌, arith, list_any, range_with_len, get_or-map, length-replicate, All-head, All-tail, All-map, All-weaker, All-get_or, length-map-range_with_len, positions, count, true_at, at_indices, rank_intersection, repeated, All}
use Rattle.mask_bits.proofs.Lists.CountLemmas.{count-repeated_true}
use Rattle.mask_bits.proofs.Lists.Places.PlaceLemmas.{positions-true, positions-false, trues, count-trues, positions-within}

-- ---- lists that are true at some places, by their first value

map_range_suc : {X : Type 0} (f : ℕ → X) (a n : ℕ) → map f (range_with_len (suc a) n) ≡ map (λ i. f (suc i)) (range_with_len a n)
map_range_suc f a zero = refl
map_range_suc {X} f a (suc n) = grind (arith, map_range_suc f (a + 1) n)

pub map_range_same : {X : Type 0} (f g : ℕ → X) (a n : ℕ) → ((i : ℕ) → a ≤ i → f i ≡ g i) → map f (range_with_len a n) ≡ map g (range_with_len a n)
map_range_same f g a zero same = refl
map_range_same {X} f g a (suc n) same = grind (arith, map_range_same f g (a + 1) n (λ i h. same i (omega arith)))

-- a place past the first is among places that are one further on just where the one before it is among them
list_any-map_suc : (i : ℕ) (ps : List ℕ) → list_any (nat_eq (suc i)) (map suc ps) ≡ list_any (nat_eq i) ps
list_any-map_suc i [] = refl
list_any-map_suc i (p ∷ ps) = grind (arith, list_any-map_suc i ps)

list_any-map_suc_zero : (ps : List ℕ) → list_any (nat_eq 0) (map suc ps) ≡ false
list_any-map_suc_zero [] = refl
list_any-map_suc_zero (p ∷ ps) = grind (arith, list_any-map_suc_zero ps)

pub true_at-suc : (n : ℕ) (ps : List ℕ) → true_at (suc n) (map suc ps) ≡ false ∷ true_at n ps
unfolding true_at
true_at-suc n ps = grind (arith, list_any-map_suc_zero, map_range_suc, list_any-map_suc)

pub true_at-zero_suc : (n : ℕ) (ps : List ℕ) → true_at (suc n) (0 ∷ map suc ps) ≡ true ∷ true_at n ps
unfolding true_at
true_at-zero_suc n ps = grind (arith, map_range_suc (λ i. list_any (nat_eq i) (0 ∷ map suc ps)) 0 n, map_range_same (λ i. list_any (nat_eq (suc i)) (0 ∷ map suc ps)) (λ i. list_any (nat_eq i) ps) 0 n (λ i h. grind (arith, list_any-map_suc i ps)))

-- ---- entries at places

-- of a list raised by one, at places within it
pub at_indices-map_suc : (ps qs : List ℕ) → All (λ q. q < length ps) qs → at_indices (map suc ps) qs ≡ map suc (at_indices ps qs)
at_indices-map_suc ps [] all = refl
at_indices-map_suc ps (q ∷ qs) all = grind (arith, at_indices-map_suc ps qs (All-tail (λ k. k < length ps) q qs all), All-head, get_or-map)

-- of a list past its first entry
pub at_indices-cons_suc : (p : ℕ) (ps qs : List ℕ) → at_indices (p ∷ ps) (map suc qs) ≡ at_indices ps qs
at_indices-cons_suc p ps [] = refl
at_indices-cons_suc p ps (q ∷ qs) = ap (λ (xs : List ℕ). get_or ps q 0 ∷ xs) (at_indices-cons_suc p ps qs)

-- ---- the recursion

-- b's values at a's true places, and false elsewhere
abbrev pub narrow : List Bool → List Bool → List Bool
narrow [] b = []
narrow (false ∷ a) b = false ∷ narrow a b
narrow (true ∷ a) [] = false ∷ narrow a []
narrow (true ∷ a) (v ∷ b) = v ∷ narrow a b

-- the positions of b are within those of a, which are as many as b is long
pub positions-fit : (a b : List Bool) → length b ≡ trues a → All (λ q. q < length (positions a)) (positions b)
positions-fit a b fits = grind (arith, count-trues, positions-within)

rank_intersection-false : (a b : List Bool) → length b ≡ trues a → rank_intersection (false ∷ a) b ≡ false ∷ rank_intersection a b
rank_intersection-false a b fits =
    grind (arith, positions-false a, at_indices-map_suc (positions a) (positions b) (positions-fit a b fits), true_at-suc (length a) (at_indices (positions a) (positions b)))

rank_intersection-true : (a : List Bool) (v : Bool) (b : List Bool) → length b ≡ trues a → rank_intersection (true ∷ a) (v ∷ b) ≡ v ∷ rank_intersection a b
rank_intersection-true a true b fits =
    grind (arith, positions-true a, positions-true b, at_indices-cons_suc 0 (map suc (positions a)) (positions b), at_indices-map_suc (positions a) (positions b) (positions-fit a b fits), true_at-zero_suc (length a) (at_indices (positions a) (positions b)))
rank_intersection-true a false b fits =
    grind (arith, positions-true a, positions-false b, at_indices-cons_suc 0 (map suc (positions a)) (positions b), at_indices-map_suc (positions a) (positions b) (positions-fit a b fits), true_at-suc (length a) (at_indices (positions a) (positions b)))

narrows : (a b : List Bool) → length b ≡ trues a → rank_intersection a b ≡ narrow a b
unfolding true_at
narrows [] b fits = refl
narrows (v ∷ a) b fits = grind (arith, narrows a, rank_intersection-false, rank_intersection-true)

-- where b is as long as a has true values, the rank intersection is that recursion
pub rank_intersection-narrow : (a b : List Bool) → length b ≡ count a → rank_intersection a b ≡ narrow a b
rank_intersection-narrow a b fits = narrows a b (fits ∙ count-trues a)

-- ---- the arms that need no work

-- an all-true list is a left unit
narrow-all_true : (b : List Bool) → narrow (repeated (length b) true) b ≡ b
unfolding repeated
narrow-all_true [] = refl
narrow-all_true (v ∷ b) = ap (λ (xs : List Bool). v ∷ xs) (narrow-all_true b)

pub rank_intersection-all_true : (n : ℕ) (b : List Bool) → length b ≡ n → rank_intersection (repeated n true) b ≡ b
rank_intersection-all_true n b len = grind (arith, rank_intersection-narrow, count-repeated_true, narrow-all_true)

-- and a right unit
narrow-by_all_true : (a : List Bool) → narrow a (repeated (trues a) true) ≡ a
unfolding repeated
narrow-by_all_true [] = refl
narrow-by_all_true (v ∷ a) = grind (arith, narrow-by_all_true a)

pub rank_intersection-by_all_true : (a : List Bool) (n : ℕ) → n ≡ count a → rank_intersection a (repeated n true) ≡ a
unfolding repeated
rank_intersection-by_all_true a n fits = grind (arith, rank_intersection-narrow, length-replicate, count-trues, narrow-by_all_true)

-- ---- bounds and lengths

pub length-true_at : (n : ℕ) (places : List ℕ) → length (true_at n places) ≡ n
unfolding true_at
length-true_at n places = length-map-range_with_len (λ i. list_any (nat_eq i) places) 0 n

-- each entry at places within a list has what each entry of the list has
pub All-at_indices : (P : ℕ → Type 0) (ps qs : List ℕ) → All P ps → All (λ q. q < length ps) qs → All P (at_indices ps qs)
All-at_indices P ps qs all within =
    All-map P (λ q. get_or ps q 0) qs (All-weaker (λ q. q < length ps) (λ q. P (get_or ps q 0)) (λ q h. All-get_or P ps q 0 h all) qs within)
