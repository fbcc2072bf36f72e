-- What a contract sees of a `NullableBitBuffer`, and the list of truth values with nulls that it holds.
use Rattle.std.specs.Prelude.{◌≡◌, Bool, List, Option, length, option_map}
use Rattle.std.specs.Option.{ForSome}
use Rattle.mask_bits.specs.Buffer.{Packed, values}
use Rattle.mask_bits.specs.Nullable.{nullable}

-- a buffer of values, and one of their validity, where there is one
pub record NullablePacked : Type 0 where
  pub values : Packed
  pub validity : Option Packed

-- the values with their validity
abbrev pub nullable_values : NullablePacked → List (Option Bool)
nullable_values b = nullable (values b.values) (option_map values b.validity)

-- the validity, where there is one, is as long as the values
abbrev pub AreInStep : Packed → Option Packed → Type 0
AreInStep b validity = ForSome validity (λ v. length (values v) ≡ length (values b))
