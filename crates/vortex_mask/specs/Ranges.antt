-- How many rows ranges hold.
use Rattle.std.specs.Prelude.{ℕ, ◌-◌, List}
use Rattle.std.specs.List.{sum_by}

-- how many rows ranges hold that do not overlap: the sum of their lengths
abbrev pub rows_held : List (ℕ × ℕ) → ℕ
rows_held rs = sum_by (λ r. r.1 - r.0) rs
