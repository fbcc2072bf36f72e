-- Rows at the true places: all of them, none of them, and one more.
use Rattle.mask_bits.proofs.Common.{◌≡◌, ◌≤◌, ℕ, zero, suc, Bool, true, false, List, [], ◌∷◌, length, take, slice_get, refl, ap, sym, ◌∙◌, arith, filter_map, items_where_true, positions, count, repeated, chosen}
use Rattle.mask_bits.proofs.Lists.LawLemmas.{chosen-items_where_true, length-chosen}
use Rattle.mask_bits.proofs.Lists.Places.PlaceLemmas.{trues, count-trues}

items_where_true-all_true : {X : Type 0} (rows : List X) → items_where_true (repeated (length rows) true) rows ≡ rows
unfolding repeated
items_where_true-all_true [] = refl
items_where_true-all_true {X} (r ∷ rows) = ap (λ (xs : List X). r ∷ xs) (items_where_true-all_true rows)

items_where_true-all_false : {X : Type 0} (rows : List X) (n : ℕ) → items_where_true (repeated n false) rows ≡ []
unfolding repeated
items_where_true-all_false rows zero = refl
items_where_true-all_false [] (suc n) = refl
items_where_true-all_false (r ∷ rows) (suc n) = items_where_true-all_false rows n

-- an all-true list chooses every row
pub chosen-all_true : {X : Type 0} (rows : List X) (n : ℕ) → length rows ≡ n → chosen rows (repeated n true) ≡ rows
chosen-all_true rows n len = grind (arith, chosen-items_where_true, items_where_true-all_true)

-- an all-false list chooses none
pub chosen-all_false : {X : Type 0} (rows : List X) (n : ℕ) → chosen rows (repeated n false) ≡ []
chosen-all_false rows n = grind (arith, chosen-items_where_true, items_where_true-all_false)

pub chosen_by_all_true : {X : Type 0} (rows : List X) → chosen rows (repeated (length rows) true) ≡ rows
chosen_by_all_true rows = chosen-all_true rows (length rows) refl

pub chosen_at_positions : {X : Type 0} (rows : List X) (m : List Bool) → chosen rows m ≡ filter_map (λ i. slice_get rows i) (positions m)
unfolding chosen
chosen_at_positions rows m = refl

pub ruleset choosing_facts = (chosen_by_all_true, chosen-all_false, length-chosen, chosen_at_positions)

-- ---- among the first n rows, which are as many as the list has values

items_where_true-front : {X : Type 0} (rows : List X) (m : List Bool) (n : ℕ) → length m ≤ n → items_where_true m (take n rows) ≡ items_where_true m rows
items_where_true-front rows [] n enough = refl
items_where_true-front rows (v ∷ m) zero enough = absurd (omega arith)
items_where_true-front [] (v ∷ m) (suc n) enough = refl
items_where_true-front (r ∷ rows) (v ∷ m) (suc n) enough = grind (arith, items_where_true-front rows m n (omega arith))

pub chosen-of_front : {X : Type 0} (rows : List X) (m : List Bool) (n : ℕ) → length m ≤ n → chosen (take n rows) m ≡ chosen rows m
chosen-of_front {X} rows m n enough = grind (arith, chosen-items_where_true, items_where_true-front)

-- ---- of a list of one value, one for each true value

items_where_true-repeated : (v : Bool) (m : List Bool) → items_where_true m (repeated (length m) v) ≡ repeated (trues m) v
unfolding repeated
items_where_true-repeated v [] = refl
items_where_true-repeated v (x0 ∷ m) = grind (arith, items_where_true-repeated v m)

pub chosen_of_repeated : (n : ℕ) (v : Bool) (m : List Bool) → n ≡ length m → chosen (repeated n v) m ≡ repeated (count m) v
chosen_of_repeated n v m len = ap (λ k. chosen (repeated k v) m) len ∙ chosen-items_where_true (repeated (length m) v) m ∙ items_where_true-repeated v m ∙ ap (λ k. repeated k v) (sym (count-trues m))
