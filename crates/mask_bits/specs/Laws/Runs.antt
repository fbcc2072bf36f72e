-- What holds of runs, and of ranges that hold exactly the true indices.
use Rattle.std.specs.Prelude.{ℕ, ◌≡◌, Bool, List, ◌↔◌}
use Rattle.mask_bits.specs.RunScan.{runs}
use Rattle.mask_bits.specs.Runs.{AreRanges, AreRuns}

-- every list of truth values has runs
abbrev pub RunsExist : Type 0
RunsExist = (m : List Bool) → (rs : List (ℕ × ℕ)) × AreRuns m rs

-- no two lists of ranges are a list's runs
abbrev pub RunsAreUnique : Type 0
RunsAreUnique = (m : List Bool) (rs ss : List (ℕ × ℕ)) → AreRuns m rs → AreRuns m ss → rs ≡ ss

-- runs are ranges that hold exactly the true indices
abbrev pub RunsAreRanges : Type 0
RunsAreRanges = (m : List Bool) (rs : List (ℕ × ℕ)) → AreRuns m rs → AreRanges m rs

-- a list's runs are what `runs` gives, and no other list of ranges
abbrev pub RunsAreTheList : Type 0
RunsAreTheList = (m : List Bool) (rs : List (ℕ × ℕ)) → (rs ≡ runs m) ↔ AreRuns m rs
