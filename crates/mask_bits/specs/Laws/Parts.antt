-- What holds of parts, groups and limits.
use Rattle.std.specs.Prelude.{ℕ, ◌+◌, ◌≡◌, ◌≤◌, Bool, List, ◌∷◌, ◌++◌, length, take, drop, ◌-◌, min, slice_range}
use Rattle.mask_bits.specs.Lists.{limited, without_first, concat}
use Rattle.mask_bits.specs.Positions.{count, positions}

-- a part of a part is one part, with the starts added
abbrev pub PartOfPart : Type 0
PartOfPart = (m : List Bool) (s e t u : ℕ) → u ≤ e - s
    → slice_range (slice_range m s e) t u ≡ slice_range m (s + t) (s + u)

-- the part of a concatenation where one of its lists stands is that list
abbrev pub PartOfConcat : Type 0
PartOfConcat = (before after : List (List Bool)) (m : List Bool)
    → slice_range (concat (before ++ m ∷ after)) (length (concat before)) (length (concat before) + length m) ≡ m

-- a limit of a limit is the smaller of the two
abbrev pub LimitOfLimit : Type 0
LimitOfLimit = (m : List Bool) (k j : ℕ) → limited (limited m k) j ≡ limited m (min k j)

-- a limited list is as long, and has as many true values as the list and the limit both allow
pub record HasLimitCount : Type 0 where
  pub len : (m : List Bool) (k : ℕ) → length (limited m k) ≡ length m
  pub count : (m : List Bool) (k : ℕ) → count (limited m k) ≡ min k (count m)

-- a list without its first true values is as long, and has the others
pub record HasCountWithoutFirst : Type 0 where
  pub len : (m : List Bool) (k : ℕ) → length (without_first m k) ≡ length m
  pub count : (m : List Bool) (k : ℕ) → count (without_first m k) ≡ count m - k

-- of the indices of the true values a limited list has the first k, and a list without these has the others
pub record AreSplitAtLimit : Type 0 where
  pub first : (m : List Bool) (k : ℕ) → positions (limited m k) ≡ take k (positions m)
  pub others : (m : List Bool) (k : ℕ) → positions (without_first m k) ≡ drop k (positions m)
