-- Truth values with nulls as C passes them: a bitmap of the values, and one of their validity.
use Rattle.std.specs.Prelude.{ℕ, ◌<◌, Bool, List, [], ◌∷◌, Option, None, Some, length}
use Rattle.mask_bits.specs.Bitmap.{bitmap}
use Rattle.mask_bits.specs.Buffer.{IsWithinBytes}
use Rattle.mask_bits.specs.Nullable.{nullable}

-- the validity that bytes have: where there are none, no value is null
abbrev pub validity_in : List ℕ → ℕ → ℕ → Option (List Bool)
validity_in [] offset len = None
validity_in (byte ∷ bytes) offset len = Some (bitmap (byte ∷ bytes) offset len)

-- the values with that validity
abbrev pub nullable_in : List ℕ → ℕ → List ℕ → ℕ → ℕ → List (Option Bool)
nullable_in values offset validity validity_offset len = nullable (bitmap values offset len) (validity_in validity validity_offset len)

-- where there are bytes, they have the bits of the validity
abbrev pub IsValidityWithin : List ℕ → ℕ → ℕ → Type 0
IsValidityWithin bytes offset len = 0 < length bytes → IsWithinBytes bytes offset len
