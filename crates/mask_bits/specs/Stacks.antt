-- Masks that are stacked: each after the first has a value for each row that the one before it chooses.
use Rattle.std.specs.Prelude.{◌≡◌, Bool, List, [], ◌∷◌, length, fold}
use Rattle.mask_bits.specs.Positions.{count, rank_intersection}

-- each mask after the first is as long as the one before it has true values
abbrev pub IsStack : List (List Bool) → Type 0
IsStack [] = Unit {0}
IsStack (a ∷ []) = Unit {0}
IsStack (a ∷ b ∷ ms) = (length b ≡ count a) × IsStack (b ∷ ms)

-- the first mask narrowed by each of the others in turn, and the empty list where there is none
abbrev pub folded_left : List (List Bool) → List Bool
folded_left [] = []
folded_left (a ∷ ms) = fold rank_intersection a ms

-- the first mask narrowed by the fold of the rest, a single mask itself, and the empty list where there is none
abbrev pub folded_right : List (List Bool) → List Bool
folded_right [] = []
folded_right (a ∷ []) = a
folded_right (a ∷ b ∷ ms) = rank_intersection a (folded_right (b ∷ ms))
