-- The true values of a buffer before a place, counted by parts: those of blocks of 512, and of a part of one.
use Rattle.mask_bits.proofs.Common.{◌≡◌, ℕ, ◌+◌, ◌-◌, ◌*◌, ◌≤◌, ◌++◌, ◌∷◌, [], Bool, List, length, get_or, get_or_append_left, take, min, arith, take_all, length-take, AreCountsBefore, IsNonDecreasing, Packed, bitmap, values, count, count_below}
use Rattle.mask_bits.proofs.BufferLemmas.{length-values, values-part}
use Rattle.mask_bits.proofs.Lists.Places.PlaceLemmas.{count-le-length}
use Rattle.mask_bits.proofs.Lists.Places.SelectLemmas.{count-part_further}
use Rattle.std.proofs.lemmas.List.{get_or_push}
use Rattle.std.proofs.lemmas.List.Sorted.{IsNonDecreasingBy-from_default}

-- no more are true than there are
pub count_below-few : (m : List Bool) (n : ℕ) → count_below m n ≤ min n (length m)
count_below-few m n = omega (arith, count-le-length (take n m), length-take n m)

-- those of a part more
pub count_below-part : (b : Packed) (s n : ℕ) → s ≤ n → n ≤ b.len → count_below (values b) n ≡ count_below (values b) s + count (bitmap b.bytes (b.offset + s) (n - s))
count_below-part b s n ordered within = grind (arith, count-part_further (values b) s (n - s), values-part b s n ordered within)

-- those of a block more, of which the last may have fewer values
pub count_below-block : (b : Packed) (i : ℕ) → 512 * i ≤ b.len
    → count_below (values b) (512 * (i + 1)) ≡ count_below (values b) (512 * i) + count (bitmap b.bytes (b.offset + 512 * i) (min 512 (b.len - 512 * i)))
count_below-block b i within =
    let n : ℕ = 512 * i + min 512 (b.len - 512 * i) in
    grind (arith, count_below-part b (512 * i) n, take_all (512 * (i + 1)) (values b), take_all n (values b), length-values b)

-- no fewer are true before a later place
count_below-rises : (m : List Bool) (s n : ℕ) → s ≤ n → count_below m s ≤ count_below m n
count_below-rises m s n ordered = grind (arith, count-part_further m s (n - s))

-- one count more, behind those so far
pub each-pushed : (f : ℕ → ℕ) (xs : List ℕ) (x n : ℕ) → length xs ≡ n + 1 → ((i : ℕ) → i ≤ n → get_or xs i 0 ≡ f i) → x ≡ f (n + 1) → (i : ℕ) → i ≤ n + 1 → get_or (xs ++ x ∷ []) i 0 ≡ f i
each-pushed f xs x n len each last i h = grind (arith, each i, get_or_append_left, get_or_push xs x 0 (n + 1))

-- the counts ascend
pub counts_rise : (m : List Bool) (before : List ℕ) → AreCountsBefore m before → IsNonDecreasing before
counts_rise m before are = IsNonDecreasingBy-from_default (λ x. x) before 0 (λ i j ordered within. omega (arith, are.each i (omega arith), are.each j within, count_below-rises m (512 * i) (512 * j) (omega arith)))
