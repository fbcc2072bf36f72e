-- What is wrong with a list of indices, or of ranges, that is to make a mask of a length. Places count from 0.
use Rattle.std.specs.Prelude.{ℕ, ◌+◌, Bool, not, ◌&&◌, List, [], ◌∷◌, Option, Some, None, nat_eq, nat_lt, nat_le, position, find, if◌then◌else◌}
use Rattle.std.specs.Option.{option_map, option_or}
use Rattle.std.specs.List.{filter, list_any}
use Rattle.vortex_mask.specs.declared.mask.error.MaskError.{MaskError}
use Rattle.vortex_mask.specs.declared.mask.error.MaskError.TheVariants.{UnsortedIndices, RepeatedIndex, IndexOutOfBounds, BadRange, UnsortedRanges, OverlappingRanges}

-- the first place whose index, held to the one before it, passes the test, where the first of the list stands at place n
abbrev pub first_pair_from : (ℕ → ℕ → Bool) → ℕ → List ℕ → Option ℕ
first_pair_from test n [] = None
first_pair_from test n (x ∷ []) = None
first_pair_from test n (x ∷ y ∷ xs) = if test x y then Some (n + 1) else first_pair_from test (n + 1) (y ∷ xs)

-- the first place whose index is below the one before it
abbrev pub first_unsorted : List ℕ → Option ℕ
first_unsorted xs = first_pair_from (λ x y. nat_lt y x) 0 xs

-- the first place whose index equals the one before it
abbrev pub first_repeated : List ℕ → Option ℕ
first_repeated xs = first_pair_from (λ x y. nat_eq y x) 0 xs

-- the first index that is not below the length
abbrev pub first_past : ℕ → List ℕ → Option ℕ
first_past len xs = find (λ x. nat_le len x) xs

-- the fault of the first index that is not below the length, where there is one
abbrev pub out_of_bounds : ℕ → List ℕ → Option MaskError
out_of_bounds len xs = option_map (λ x. IndexOutOfBounds x len) (first_past len xs)

-- order over the whole list first, then repeats, then bounds
abbrev pub index_fault : ℕ → List ℕ → Option MaskError
index_fault len xs = option_or (option_map (λ at. UnsortedIndices at) (first_unsorted xs)) (option_or (option_map (λ at. RepeatedIndex at) (first_repeated xs)) (out_of_bounds len xs))

-- the first range that is empty or passes the length
abbrev pub bad_range : ℕ → List (ℕ × ℕ) → Option MaskError
bad_range len rs = option_map (λ at. BadRange at) (position (λ r. not (nat_lt r.0 r.1 && nat_le r.1 len)) rs)

-- a range that does not start after the one before it, or starts below its end, where it stands at a place
abbrev pub neighbor_fault : ℕ × ℕ → ℕ × ℕ → ℕ → Option MaskError
neighbor_fault r s at = if nat_le s.0 r.0 then Some (UnsortedRanges at) else (if nat_lt s.0 r.1 then Some (OverlappingRanges at) else None)

-- the first such of neighbors in turn, where the first of these stands at place n
abbrev pub neighbors_fault_from : ℕ → List (ℕ × ℕ) → Option MaskError
neighbors_fault_from n [] = None
neighbors_fault_from n (r ∷ []) = None
neighbors_fault_from n (r ∷ s ∷ rs) = option_or (neighbor_fault r s (n + 1)) (neighbors_fault_from (n + 1) (s ∷ rs))

-- bad ranges over all of them first, then neighbors in turn
abbrev pub range_fault : ℕ → List (ℕ × ℕ) → Option MaskError
range_fault len rs = option_or (bad_range len rs) (neighbors_fault_from 0 rs)
