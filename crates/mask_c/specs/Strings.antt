-- Strings as Arrow has them: their bytes, one string behind another, and offsets, one more than there are strings.
use Rattle.std.specs.Prelude.{ℕ, ◌+◌, ◌-◌, List, [], ◌∷◌, length, map, slice_get, slice_index, slice_range}
use Rattle.std.specs.List.{concat, filter_map, range_with_len, sum}

-- string i has the bytes from offset i to offset i + 1
unfoldable pub strings : List ℕ → List ℕ → List (List ℕ)
strings offsets bytes = map (λ i. slice_range bytes (slice_index offsets i) (slice_index offsets (i + 1))) (range_with_len 0 (length offsets - 1))

-- how many bytes each string has
unfoldable pub sizes : List ℕ → List ℕ
sizes offsets = map (λ i. slice_index offsets (i + 1) - slice_index offsets i) (range_with_len 0 (length offsets - 1))

-- where each of strings of these sizes ends, if the first begins at byte n
abbrev pub ends_from : ℕ → List ℕ → List ℕ
ends_from n [] = []
ends_from n (size ∷ sizes) = (n + size) ∷ ends_from (n + size) sizes

-- the offsets of strings of these sizes
abbrev pub offsets_of : List ℕ → List ℕ
offsets_of sizes = 0 ∷ ends_from 0 sizes

-- the items at these indices, in their order
abbrev pub items_at : {X : Type 0} → List X → List ℕ → List X
items_at xs indices = filter_map (λ i. slice_get xs i) indices

-- how many bytes the strings at these indices have
abbrev pub size_of : List ℕ → List ℕ → ℕ
size_of offsets indices = sum (items_at (sizes offsets) indices)

-- their bytes, one string behind another
abbrev pub bytes_of : List ℕ → List ℕ → List ℕ → List ℕ
bytes_of offsets bytes indices = concat (items_at (strings offsets bytes) indices)
