-- Where a value first stands in a list from an index on, found in the backing bits.
use Rattle.mask_bits.proofs.Common.{◌≡◌, ℕ, ◌+◌, ◌-◌, ◌<◌, ◌≤◌, Bool, false, not, List, get_or, min, ◌⊎◌, arith, Packed, backing_bit, values, IsFirstFrom}
use Rattle.mask_bits.proofs.BufferLemmas.{len-of_list, get_or-values}

-- bit j past an index is the value there
at_index : (b : Packed) {m : List Bool} (index j i : ℕ) → values b ≡ m → i ≡ index + j → i < b.len → get_or m i false ≡ backing_bit b.bytes (b.offset + index + j)
at_index b index j i same is within = grind (arith, get_or-values)

-- values of one kind up to an index, and k more
pub passed_more : (b : Packed) {m : List Bool} (from index k : ℕ) (other : Bool) → values b ≡ m → index + k ≤ b.len
    → ((i : ℕ) → from ≤ i → i < index → get_or m i false ≡ other)
    → ((j : ℕ) → j < k → backing_bit b.bytes (b.offset + index + j) ≡ other)
    → (i : ℕ) → from ≤ i → i < index + k → get_or m i false ≡ other
passed_more b from index k other same within so_far more i low high = grind (arith, at_index b index (i - index) i same)

-- the first index, where the values up to it are others: the value stands there, or it is the end
pub first_index : (b : Packed) {m : List Bool} (from index run k : ℕ) (value : Bool) → values b ≡ m → from ≤ index → k ≡ min run (b.len - index) → index ≤ b.len
    → ((i : ℕ) → from ≤ i → i < index → get_or m i false ≡ not value)
    → ((j : ℕ) → j < run → backing_bit b.bytes (b.offset + index + j) ≡ not value)
    → (run < 64 → backing_bit b.bytes (b.offset + index + run) ≡ value) → (run < 64) ⊎ (b.len - index ≤ run)
    → IsFirstFrom m from value (index + k)
first_index b from index run k value same low is within so_far more holds either =
    let len = len-of_list b same in record {
      not_before = omega arith;
      within = omega (arith, len);
      passed = passed_more b from index k (not value) same (omega arith) so_far (λ j h. more j (omega arith));
      holds = grind (arith, at_index);
    }
