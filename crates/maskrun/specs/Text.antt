-- A list as it is printed.
use Rattle.std.specs.Prelude.{ℕ, List, [], ◌∷◌, ◌++◌, codes}
use Rattle.std.specs.Fmt.{decimal}
use Rattle.std.specs.List.{join_by}

-- `-` for the empty list, else the texts of the items with a space between each and the next
abbrev pub list_text : {T : Type 0} → (T → List ℕ) → List T → List ℕ
list_text item [] = codes "-"
list_text item (x ∷ xs) = join_by item (codes " ") (x ∷ xs)

-- a range: its first index, and the index past its last
abbrev pub range_text : ℕ × ℕ → List ℕ
range_text r = decimal r.0 ++ codes ".." ++ decimal r.1
