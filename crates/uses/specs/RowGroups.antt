-- Groups of rows of one size, of which the last may have fewer: whether a row is chosen.
use Rattle.std.specs.Prelude.{ℕ, Bool, List, nat_lt}
use Rattle.mask_bits.specs.Lists.{group}
use Rattle.mask_bits.specs.Positions.{count}

-- whether a row of group g is chosen
abbrev pub is_chosen_of : List Bool → ℕ → ℕ → Bool
is_chosen_of m size g = nat_lt 0 (count (group m size g))
