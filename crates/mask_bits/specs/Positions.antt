-- A mask is a list of truth values. These terms say where its true values stand and how many there are.
use Rattle.std.specs.Prelude.{ℕ, ◌+◌, ◌≡◌, ◌<◌, ◌≤◌, Bool, true, false, not, nat_eq, List, [], ◌∷◌, length, take, map, replicate, slice_index_or, slice_get}
use Rattle.std.specs.List.{list_any, range_with_len, filter_map}

-- n values, each v
unfoldable pub repeated : ℕ → Bool → List Bool
repeated n v = replicate n v

-- the indices from n on of the true values, where the list's first index is n
abbrev pub indices_from : ℕ → List Bool → List ℕ
indices_from n [] = []
indices_from n (true ∷ m) = n ∷ indices_from (n + 1) m
indices_from n (false ∷ m) = indices_from (n + 1) m

-- the indices of the true values, ascending
abbrev pub positions : List Bool → List ℕ
positions m = indices_from 0 m

-- the first index from n on of this value, or the length where there is none
pub record IsFirstFrom (m : List Bool) (n : ℕ) (value : Bool) (index : ℕ) : Type 0 where
  pub not_before : n ≤ index
  pub within : index ≤ length m
  pub passed : (i : ℕ) → n ≤ i → i < index → slice_index_or m i false ≡ not value
  pub holds : index < length m → slice_index_or m index false ≡ value

-- how many values are true
abbrev pub count : List Bool → ℕ
count m = length (positions m)

-- how many of the first n values are true
abbrev pub count_below : List Bool → ℕ → ℕ
count_below m n = count (take n m)

-- the list of n values that is true exactly at these indices
unfoldable pub true_at : ℕ → List ℕ → List Bool
true_at n indices = map (λ i. list_any (nat_eq i) indices) (range_with_len 0 n)

-- the entries of a list at these indices, in their order
abbrev pub at_indices : List ℕ → List ℕ → List ℕ
at_indices xs indices = map (λ k. slice_index_or xs k 0) indices

-- where b is as long as a has true values: the list of a's length that is true at a's true indices taken at b's
abbrev pub rank_intersection : List Bool → List Bool → List Bool
rank_intersection a b = true_at (length a) (at_indices (positions a) (positions b))

-- the rows at the true indices, in their order
unfoldable pub chosen : {X : Type 0} → List X → List Bool → List X
chosen rows m = filter_map (λ i. slice_get rows i) (positions m)
