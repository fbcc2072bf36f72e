-- Vectors lane by lane, and truth values with a lane each.
use Rattle.std.specs.Prelude.{ℕ, ◌≡◌, ◌<◌, Bool, false, List, length, nat_eq, slice_index, slice_index_or, take}
use Rattle.mask_bits.specs.Rows.{AreAnswers}

-- v has n lanes, and lane j holds f j
pub record AreLanes (n : ℕ) (v : List ℕ) (f : ℕ → ℕ) : Type 0 where
  pub lanes : length v ≡ n
  pub each : (j : ℕ) → j < n → slice_index v j ≡ f j

-- n lanes, each of them 1 where one of the first j values is true
pub record AreLanesOf (n : ℕ) (m : List Bool) (j : ℕ) (lanes : List ℕ) : Type 0 where
  pub len : length lanes ≡ n
  pub each : (k : ℕ) → k < n → nat_eq (slice_index_or lanes k 0) 1 ≡ slice_index_or (take j m) k false

-- n lanes with the answers at the rows so far
pub record ArePacked {T : Type 0} (n : ℕ) (gives : T → Bool → Type 0) (rows : List T) (lanes : List ℕ) : Type 0 where
  pub list : List Bool
  pub answers : AreAnswers gives rows list
  pub packed : AreLanesOf n list (length rows) lanes
