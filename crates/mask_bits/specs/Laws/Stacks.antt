-- What holds of stacks of lists.
use Rattle.std.specs.Prelude.{◌≡◌, ◌∷◌, Bool, List}
use Rattle.mask_bits.specs.Positions.{rank_intersection}
use Rattle.mask_bits.specs.Stacks.{IsStack, folded_left, folded_right}

-- a stack folds alike from the left and from the right
abbrev pub StackFoldsAlike : Type 0
StackFoldsAlike = (ms : List (List Bool)) → IsStack ms → folded_left ms ≡ folded_right ms

-- the fold of a stack of two masks or more is the first narrowed by the fold of the rest
abbrev pub FoldedByTheFirst : Type 0
FoldedByTheFirst = (first second : List Bool) (ms : List (List Bool)) → IsStack (first ∷ second ∷ ms) → folded_left (first ∷ second ∷ ms) ≡ rank_intersection first (folded_left (second ∷ ms))
