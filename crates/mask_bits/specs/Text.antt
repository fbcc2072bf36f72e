-- Truth values as they are printed.
use Rattle.std.specs.Prelude.{ℕ, Bool, true, false, List, ◌++◌, map, codes}

-- `1` for true and `0` for false
abbrev pub digit : Bool → ℕ
digit true = 49
digit false = 48

-- what `Debug` writes of a buffer: its name, and in parentheses a digit for each value
abbrev pub buffer_text : List Bool → List ℕ
buffer_text m = codes "BitBuffer(" ++ map digit m ++ codes ")"
