-- What the loop over the words of two lists with nulls reads, and what it has written, bit by bit.
use Rattle.std.specs.Option.{ForSome, is_some}
use Rattle.std.specs.Int.{bit_at}
use Rattle.std.specs.Prelude.{ℕ, ◌+◌, ◌*◌, ◌%◌, ◌<◌, ◌≡◌, ◌||◌, nat_eq, Bool, true, false, List, Option, None, Some, map, option_map}
use Rattle.mask_bits.specs.Bitmap.{bitmap}
use Rattle.mask_bits.specs.Buffer.{IsWithinBytes, backing_bit}
use Rattle.mask_bits.specs.Lists.{or_of}
use Rattle.mask_bits.specs.Nullable.{is_true, nullable, nullable_value}
use Rattle.mask_bits.specs.Words.{window, word_bits}
use Rattle.mask_bits.specs.declared.kleene.NullableBitmap.{NullableBitmap}
use Rattle.mask_bits.specs.declared.kleene.NullableBits.{NullableBits}

-- a null isn't false
abbrev pub is_false : Option Bool → Bool
is_false (Some true) = false
is_false (Some false) = true
is_false None = false

-- the words whose bits are set where the values are true, and where they are false
pub record AreWordsOf (m : List (Option Bool)) (t f : ℕ) : Type 0 where
  pub trues : word_bits t ≡ map is_true m
  pub falses : word_bits f ≡ map is_false m

-- value k: it is valid where the bit of its validity is set, or its bit of the word `valid`
abbrev pub value_at : NullableBits → ℕ → Option Bool
value_at a k = nullable_value (backing_bit a.values.bytes.now (a.values.low + k)) (backing_bit a.validity.bytes.now (a.validity.low + k) || nat_eq (bit_at a.valid (k % 64)) 1)

-- the 64 values of word i
abbrev pub word_values : NullableBits → ℕ → List (Option Bool)
word_values a i = nullable (window a.values.bytes.now (a.values.low + 64 * i)) (Some (or_of (window a.validity.bytes.now (a.validity.low + 64 * i)) (word_bits a.valid)))

-- the first n bits of `out` are h of what the table has for the two values
abbrev pub AreOfTable : (Option Bool → Bool) → (Option Bool → Option Bool → Option Bool) → (ℕ → Option Bool) → (ℕ → Option Bool) → List ℕ → ℕ → Type 0
AreOfTable h table a b out n = (k : ℕ) → k < n → backing_bit out k ≡ h (table (a k) (b k))

-- the first n bits are the values that the table has, false where it has a null, and their validity
pub record IsOfTable (table : Option Bool → Option Bool → Option Bool) (a b : ℕ → Option Bool) (out out_validity : List ℕ) (n : ℕ) : Type 0 where
  pub values : AreOfTable is_true table a b out n
  pub validity : AreOfTable is_some table a b out_validity n

-- n bits of the values and of their validity are within the bytes, and both begin in their first byte
pub record AreWithinBytes (a : NullableBits) (n : ℕ) : Type 0 where
  pub values_within : IsWithinBytes a.values.bytes.now a.values.low n
  pub validity_within : IsWithinBytes a.validity.bytes.now a.validity.low n
  pub values_few : a.values.low < 8
  pub validity_few : a.validity.low < 8

-- n words of the values and of their validity can be read so
pub record CanReadBoth (can_read : List ℕ → ℕ → ℕ → Type 0) (a : NullableBits) (n : ℕ) : Type 0 where
  pub values : (i : ℕ) → i < n → can_read a.values.bytes.now a.values.low i
  pub validity : (i : ℕ) → i < n → can_read a.validity.bytes.now a.validity.low i

-- n values of plain bytes, with such a validity
abbrev pub nullable_bitmap : NullableBitmap → ℕ → List (Option Bool)
nullable_bitmap a n = nullable (bitmap a.values.0.now a.values.1 n) (option_map (λ v. bitmap v.0.now v.1 n) a.validity)

-- its 64 values from the first on, which past the bytes have no meaning
abbrev pub nullable_window : NullableBitmap → List (Option Bool)
nullable_window a = nullable (window a.values.0.now a.values.1) (option_map (λ v. window v.0.now v.1) a.validity)

-- n bits of the values, and of the validity where there is one, are within their bytes
pub record HasValues (a : NullableBitmap) (n : ℕ) : Type 0 where
  pub values : IsWithinBytes a.values.0.now a.values.1 n
  pub validity : ForSome a.validity (λ v. IsWithinBytes v.0.now v.1 n)
