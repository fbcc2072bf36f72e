-- Lists of truth values that are made of others: value by value, one after another, in groups, and cut to the first true values
-- or to those behind them.
use Rattle.std.specs.Prelude.{ℕ, ◌+◌, ◌-◌, ◌*◌, Bool, false, not, ◌&&◌, ◌||◌, nat_lt, min, List, length, map, zip, flat_map, slice_index_or, slice_range}
use Rattle.std.specs.List.{range_with_len}
use Rattle.mask_bits.specs.Positions.{count_below}

-- f of the two values at each index, of lists of one length
abbrev pub combined : (Bool → Bool → Bool) → List Bool → List Bool → List Bool
combined f a b = map (λ v. f v.0 v.1) (zip a b)

-- both true
abbrev pub and_of : List Bool → List Bool → List Bool
and_of a b = combined (λ x y. x && y) a b

-- one or both true
abbrev pub or_of : List Bool → List Bool → List Bool
or_of a b = combined (λ x y. x || y) a b

-- the first true, and not the second
abbrev pub and_not_of : List Bool → List Bool → List Bool
and_not_of a b = combined (λ x y. x && not y) a b

-- one true, and not the other
abbrev pub xor_of : List Bool → List Bool → List Bool
xor_of a b = combined (λ x y. x && not y || not x && y) a b

-- each value negated
abbrev pub not_of : List Bool → List Bool
not_of a = map not a

-- the lists one after another
abbrev pub concat : List (List Bool) → List Bool
concat ms = flat_map (λ m. m) ms

-- of a list in groups of one size, of which the last may have fewer values: the values of group number g
abbrev pub group : List Bool → ℕ → ℕ → List Bool
group m size g = slice_range m (size * g) (size * g + min size (length m - size * g))

-- value i is true exactly if m's is and fewer than k of the values before it are true
unfoldable pub limited : List Bool → ℕ → List Bool
limited m k = map (λ i. slice_index_or m i false && nat_lt (count_below m i) k) (range_with_len 0 (length m))

-- value i is true exactly if m's is and not fewer than k of the values before it are true
unfoldable pub without_first : List Bool → ℕ → List Bool
without_first m k = map (λ i. slice_index_or m i false && not (nat_lt (count_below m i) k)) (range_with_len 0 (length m))
