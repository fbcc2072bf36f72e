-- The runs of a list, found one value at a time: the one list that `AreRuns` holds of.
use Rattle.std.specs.Prelude.{ℕ, ◌+◌, Bool, true, false, List, [], ◌∷◌, nat_eq, if◌then◌else◌}

-- a true value at n in front of the runs past it: it lengthens a run that begins right after it, or is a run of its own
abbrev pub with_index : ℕ → List (ℕ × ℕ) → List (ℕ × ℕ)
with_index n [] = (n, n + 1) ∷ []
with_index n (r ∷ rs) = if nat_eq r.0 (n + 1) then (n, r.1) ∷ rs else (n, n + 1) ∷ r ∷ rs

-- the runs of a list whose first index is n, one value at a time
abbrev pub runs_from : ℕ → List Bool → List (ℕ × ℕ)
runs_from n [] = []
runs_from n (true ∷ m) = with_index n (runs_from (n + 1) m)
runs_from n (false ∷ m) = runs_from (n + 1) m

-- the runs, ascending
abbrev pub runs : List Bool → List (ℕ × ℕ)
runs m = runs_from 0 m
