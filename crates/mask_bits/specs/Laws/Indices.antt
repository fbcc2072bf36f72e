-- What holds of true indices, how many there are, and how many below an index.
use Rattle.std.specs.Prelude.{ℕ, ◌≡◌, ◌<◌, Bool, true, List, length, Some, slice_get, slice_index}
use Rattle.mask_bits.specs.Positions.{count, positions, count_below}

-- lists of one length with the same true indices are one list
abbrev pub PositionsDetermineList : Type 0
PositionsDetermineList = (a b : List Bool) → length a ≡ length b → positions a ≡ positions b → a ≡ b

-- as many true values stand below true value number n as its number says
abbrev pub CountBelowPosition : Type 0
CountBelowPosition = (m : List Bool) (n : ℕ) → n < count m → count_below m (slice_index (positions m) n) ≡ n

-- a true value stands at the true index whose number is how many are true below it
abbrev pub PositionOfCountBelow : Type 0
PositionOfCountBelow = (m : List Bool) (i : ℕ) → slice_get m i ≡ Some true → slice_get (positions m) (count_below m i) ≡ Some i
