-- What a contract sees of a `BitBuffer`, and the list of truth values that it holds.
use Rattle.std.specs.Prelude.{ℕ, ◌+◌, ◌*◌, ◌/◌, ◌%◌, ◌^◌, ◌<◌, ◌≤◌, Bool, nat_eq, List, length, map, slice_index}
use Rattle.std.specs.Int.{bit_at}
use Rattle.std.proofs.Math.Bool.{beq}
use Rattle.std.specs.Cmp.Lexicographic.{pointwise}
use Rattle.std.specs.List.{range_with_len}
use Rattle.std.specs.Ordering.{on}

-- backing bytes, the position of the first bit, and how many bits there are
pub record Packed : Type 0 where
  pub bytes : List ℕ
  pub offset : ℕ
  pub len : ℕ

-- bit p % 8 of byte p / 8, and 0 past the last byte
abbrev pub backing_bit : List ℕ → ℕ → Bool
backing_bit bytes p = nat_eq (bit_at (slice_index bytes (p / 8)) (p % 8)) 1

-- value i is the backing bit at offset + i
unfoldable pub values : Packed → List Bool
values b = map (λ i. backing_bit b.bytes (b.offset + i)) (range_with_len 0 b.len)

-- the bits from the offset on are within the bytes, and the last position fits the machine
pub record IsWithinBytes (bytes : List ℕ) (offset len : ℕ) : Type 0 where
  pub covered : offset + len ≤ 8 * length bytes
  pub fits : offset + len < 2 ^ 64

-- whether two buffers have the same list
abbrev pub same_values : Packed → Packed → Bool
same_values = on values (pointwise beq)
