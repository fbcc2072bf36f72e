-- Ranges of indices, and the maximal ones. A range is a pair: its first index, and the index past its last.
-- `RunScan` has `runs`, the list of the maximal ones.
use Rattle.std.specs.Prelude.{ℕ, ◌≡◌, ◌<◌, ◌≤◌, ◌&&◌, Bool, false, List, length, All, nat_lt, nat_le, slice_index_or}
use Rattle.std.specs.List.{AllAdjacentBelow, list_any}

-- index i lies in a range
abbrev pub is_inside : ℕ → ℕ × ℕ → Bool
is_inside i r = nat_le r.0 i && nat_lt i r.1

-- nonempty ranges within the list, in order and with none over another, that hold exactly the true indices
pub record AreRanges (m : List Bool) (rs : List (ℕ × ℕ)) : Type 0 where
  pub nonempty : All (λ r. r.0 < r.1) rs
  pub within : All (λ r. r.1 ≤ length m) rs
  pub ordered : AllAdjacentBelow (λ r s. r.1 ≤ s.0) rs (length rs)
  pub exact : (i : ℕ) → i < length m → slice_index_or m i false ≡ list_any (is_inside i) rs

-- the maximal ones: such ranges with at least one false value between each and the next
pub record AreRuns (m : List Bool) (rs : List (ℕ × ℕ)) : Type 0 where
  pub nonempty : All (λ r. r.0 < r.1) rs
  pub within : All (λ r. r.1 ≤ length m) rs
  pub apart : AllAdjacentBelow (λ r s. r.1 < s.0) rs (length rs)
  pub exact : (i : ℕ) → i < length m → slice_index_or m i false ≡ list_any (is_inside i) rs
