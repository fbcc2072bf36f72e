-- The rows that a list chooses, by recursion on the list: those that pass a test, the first of them, rows in chunks, and rows that are truth values.
use Rattle.mask_bits.proofs.Common.{◌≡◌, ℕ, Bool, List, [], ◌∷◌, ◌++◌, length, map, refl, ◌∙◌, arith, filter, items_where_true, and_of, limited, count, rank_intersection, chosen}
use Rattle.mask_bits.proofs.Lists.LawLemmas.{chosen-items_where_true, length-chosen}
use Rattle.mask_bits.proofs.Lists.LimitLemmas.{kept, limited-kept, length-limited}
use Rattle.mask_bits.proofs.Lists.Places.PlaceLemmas.{trues, count-trues}
use Rattle.mask_bits.proofs.Lists.RankLemmas.{narrow, rank_intersection-narrow}

-- ---- rows that pass a test

items_where_true-map : {X : Type 0} (test : X → Bool) (rows : List X) → items_where_true (map test rows) rows ≡ filter test rows
items_where_true-map test [] = refl
items_where_true-map {X} test (r ∷ rows) = grind (arith, items_where_true-map test rows)

-- choosing the rows that pass a test is filtering them by it
pub chosen_by_test : {X : Type 0} (rows : List X) (test : X → Bool) → chosen rows (map test rows) ≡ filter test rows
chosen_by_test rows test = chosen-items_where_true rows (map test rows) ∙ items_where_true-map test rows

-- ---- rows in chunks

items_where_true-append : {X : Type 0} (rows more : List X) (a b : List Bool) → length rows ≡ length a → items_where_true (a ++ b) (rows ++ more) ≡ items_where_true a rows ++ items_where_true b more
items_where_true-append [] more [] b len = refl
items_where_true-append [] more (v ∷ a) b len = absurd (omega arith)
items_where_true-append (r ∷ rows) more [] b len = absurd (omega arith)
items_where_true-append (r ∷ rows) more (v ∷ a) b len = grind (arith, items_where_true-append rows more a b)

-- two chunks of rows, each chosen by its own list, are the rows chosen by both lists, one after the other
pub chosen_of_two_chunks : {X : Type 0} (rows more : List X) (a b : List Bool) → length rows ≡ length a
    → chosen (rows ++ more) (a ++ b) ≡ chosen rows a ++ chosen more b
chosen_of_two_chunks {X} rows more a b len = grind (arith, chosen-items_where_true, items_where_true-append)

-- ---- of a rank intersection

kept-narrow : (a b : List Bool) (k : ℕ) → length b ≡ trues a → kept (narrow a b) k ≡ narrow a (kept b k)
kept-narrow [] b k fits = refl
kept-narrow (v ∷ a) b k fits = grind (arith, kept-narrow a)

-- a limit of a rank intersection is one of the second list
pub limit_of_rank_intersection : (a b : List Bool) (k : ℕ) → length b ≡ count a
    → limited (rank_intersection a b) k ≡ rank_intersection a (limited b k)
limit_of_rank_intersection a b k fits = grind (arith, limited-kept, rank_intersection-narrow, kept-narrow, count-trues, length-limited)

-- ---- rows that are truth values

narrow-chosen : (a c : List Bool) → length c ≡ length a → narrow a (items_where_true a c) ≡ and_of a c
narrow-chosen [] c len = grind arith
narrow-chosen (v ∷ a) c len = grind (arith, narrow-chosen a)

-- a narrowed by the values of c at a's true indices is true where both are
pub narrowed_by_chosen : (a c : List Bool) → length c ≡ length a → rank_intersection a (chosen c a) ≡ and_of a c
narrowed_by_chosen a c len = grind (arith, chosen-items_where_true, length-chosen, rank_intersection-narrow, narrow-chosen)
