-- What the list of a buffer is, from its backing bytes.
use Rattle.mask_bits.proofs.Common.{◌-◌, ◌*◌, ◌≤◌, true, replicate, slice_range, ◌≡◌, ℕ, ◌+◌, ◌<◌, Bool, false, List, length, get_or, Some, slice_get, sym, ap, ◌∙◌, arith, map, nat_eq, list_any, range_with_len, length-map-range_with_len, get_or-map-range_with_len, fill_by_all, slice_get-get_or, length-replicate, get_or-replicate, length-between, get_or-between, slice_eq-Decides, Packed, backing_bit, values, same_values, repeated, true_at}
use Rattle.mask_bits.proofs.SetBitLemmas.{backing_bit-ones}

-- a buffer's list is as long as the buffer says
pub length-values : (b : Packed) → length (values b) ≡ b.len
unfolding values
length-values b = length-map-range_with_len (λ i. backing_bit b.bytes (b.offset + i)) 0 b.len

-- and so is what its list is known as
pub len-of_list : (b : Packed) {m : List Bool} → values b ≡ m → length m ≡ b.len
len-of_list b same = ap length (sym same) ∙ length-values b

-- value i is the backing bit at offset + i
pub get_or-values : (b : Packed) (i : ℕ) (d : Bool) → i < b.len → get_or (values b) i d ≡ backing_bit b.bytes (b.offset + i)
unfolding values
get_or-values b i d h = get_or-map-range_with_len (λ i. backing_bit b.bytes (b.offset + i)) 0 b.len i i d h (omega arith)

-- a list that has those values is the buffer's
pub values_from_bits : (b : Packed) (m : List Bool) → length m ≡ b.len → ((i : ℕ) → i < b.len → get_or m i false ≡ backing_bit b.bytes (b.offset + i)) → values b ≡ m
unfolding values
values_from_bits b m len same = sym (fill_by_all (λ i. backing_bit b.bytes (b.offset + i)) m b.len false len same)

-- what `value` answers
pub slice_get-values : (b : Packed) (i : ℕ) → i < length (values b) → slice_get (values b) i ≡ Some (backing_bit b.bytes (b.offset + i))
slice_get-values b i h = slice_get-get_or (values b) i false h ∙ ap Some (get_or-values b i false (omega (arith, length-values b)))

-- the list of the first bits of some bytes
pub values_from_front : (bytes : List ℕ) (m : List Bool) (n : ℕ) → length m ≡ n → ((i : ℕ) → i < n → backing_bit bytes i ≡ get_or m i false) → values (record { bytes = bytes; offset = 0; len = n }) ≡ m
values_from_front bytes m n len same = grind (arith, values_from_bits)

-- the list that is true exactly at some places, as the first bits of some bytes
pub values_from_places : (bytes places : List ℕ) (n : ℕ) → ((i : ℕ) → backing_bit bytes i ≡ list_any (nat_eq i) places) → values (record { bytes = bytes; offset = 0; len = n }) ≡ true_at n places
unfolding true_at
values_from_places bytes places n same =
    let f : ℕ → Bool = λ i. list_any (nat_eq i) places in
    grind (arith, values_from_front bytes (map f (range_with_len 0 n)) n (length-map-range_with_len f 0 n), length-map-range_with_len f 0 n, get_or-map-range_with_len)

-- what `len` and the tests of bounds need
pub ruleset buffer_facts = (length-values)

pub ruleset len_facts = (len-of_list)

-- ---- parts

-- a part of a buffer's list is the list of the same bytes from the part's first bit on
pub values-part : (b : Packed) (s e : ℕ) → s ≤ e → e ≤ b.len → values (record b { offset = b.offset + s; len = e - s }) ≡ slice_range (values b) s e
values-part b s e ordered within =
    grind (arith, values_from_bits, length-between (values b) s e (omega (arith, length-values b)), get_or-between, get_or-values)

-- the first bits of bytes of one value
pub values-ones : (n k : ℕ) → n ≤ 8 * k → values (record { bytes = replicate k 255; offset = 0; len = n }) ≡ repeated n true
unfolding repeated
values-ones n k fits = grind (arith, values_from_front, length-replicate n true, backing_bit-ones, get_or-replicate)

pub values-none : (bytes : List ℕ) (n : ℕ) → ((i : ℕ) → backing_bit bytes i ≡ false) → values (record { bytes = bytes; offset = 0; len = n }) ≡ repeated n false
unfolding repeated
values-none bytes n clear = grind (arith, values_from_front, length-replicate n false, get_or-replicate)

-- ---- equality

-- an answer that is true just where the lists are equal is that of the comparison
pub same_values-from_answer : (a b : Packed) (r : Bool) → (r ≡ true → values a ≡ values b) → (values a ≡ values b → r ≡ true) → r ≡ same_values a b
same_values-from_answer a b r told tells = grind (arith, slice_eq-Decides)

pub ruleset one_value = (values-ones, values-none)
