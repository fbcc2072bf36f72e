-- What the set bits of a word yield.
use Rattle.std.specs.Prelude.{ℕ, Bool, List, Option}
use Rattle.std.specs.List.{filter_map}
use Rattle.mask_bits.specs.Positions.{positions}

-- the items of the true values, in their order, where `at` has the item of each place
abbrev pub items_of : {X : Type 0} → (ℕ → Option X) → List Bool → List X
items_of at m = filter_map at (positions m)
