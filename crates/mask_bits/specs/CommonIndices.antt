-- Two ascending lists of indices: where one of them passes a number, and the indices that both have.
use Rattle.std.specs.Prelude.{ℕ, ◌<◌, ◌≤◌, nat_eq, List, length, slice_index}
use Rattle.std.specs.List.{filter, list_any}

-- those of the one list that the other has too
abbrev pub common : List ℕ → List ℕ → List ℕ
common xs ys = filter (λ x. list_any (nat_eq x) ys) xs

-- the first n of these indices are those below `limit`
pub record AreSplit (indices : List ℕ) (n limit : ℕ) : Type 0 where
  pub within : n ≤ length indices
  pub before : (k : ℕ) → k < n → slice_index indices k < limit
  pub after : (k : ℕ) → n ≤ k → k < length indices → limit ≤ slice_index indices k
