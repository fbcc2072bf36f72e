-- Worked examples of strings, computed by the checker.
use Rattle.mask_c.proofs.Common.{◌≡◌, ℕ, true, false, List, [], ◌∷◌, refl, concat, chosen, offsets_of, sizes, strings}

-- three strings, of which the second has no bytes, behind two bytes of no string
abbrev offsets : List ℕ
offsets = 2 ∷ 4 ∷ 4 ∷ 7 ∷ []

abbrev bytes : List ℕ
bytes = 9 ∷ 9 ∷ 1 ∷ 2 ∷ 3 ∷ 4 ∷ 5 ∷ []

strings_example : strings offsets bytes ≡ (1 ∷ 2 ∷ []) ∷ [] ∷ (3 ∷ 4 ∷ 5 ∷ []) ∷ []
unfolding strings
strings_example = refl

sizes_example : sizes offsets ≡ 2 ∷ 0 ∷ 3 ∷ []
unfolding sizes
sizes_example = refl

-- the offsets of the second and the third
offsets_example : offsets_of (chosen (sizes offsets) (false ∷ true ∷ true ∷ [])) ≡ 0 ∷ 0 ∷ 3 ∷ []
unfolding sizes chosen
offsets_example = refl

-- and their bytes
bytes_example : concat (chosen (strings offsets bytes) (false ∷ true ∷ true ∷ [])) ≡ 3 ∷ 4 ∷ 5 ∷ []
unfolding strings chosen
bytes_example = refl

no_strings : strings (7 ∷ []) bytes ≡ []
unfolding strings
no_strings = refl
