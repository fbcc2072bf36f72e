-- Bits that are written with one value.
use Rattle.mask_c.proofs.Common.{common_steps, ◌≡◌, nat_eq, ℕ, ◌+◌, ◌-◌, ◌*◌, ◌<◌, ◌≤◌, ◌||◌, ◌&&◌, not, Bool, true, false, List, length, replicate, refl, ap, arith, bit_at, nat_tests, cases_lt, length-replicate, get_or-replicate, bit_at-zero, bit_at_ones, backing_bit, IsFilled, get_or-put_mid_below, get_or-put_mid_above, get_or-put_mid_inside}
use borrow.Rule.Slice.PartMut.{put_mid}

-- none of them
pub filled-none : (a : List ℕ) (m : ℕ) (v : Bool) → IsFilled a a m m v
filled-none a m v = record { inside = λ p from to. absurd (omega arith); outside = λ p apart. refl }

-- some, and those past them
pub filled-join : (a b c : List ℕ) (m n k : ℕ) (v : Bool) → m ≤ n → n ≤ k → IsFilled a b m n v → IsFilled b c n k v → IsFilled a c m k v
filled-join a b c m n k v to_n to_k first second = grind (arith, cases_lt)

-- one bit set
pub filled_set : (a b : List ℕ) (i : ℕ) (v : Bool) → v ≡ true → ((p : ℕ) → backing_bit b p ≡ (nat_eq p i || backing_bit a p)) → IsFilled a b i (i + 1) v
filled_set a b i v holds is = grind (arith, nat_tests)

-- one bit cleared
pub filled_clear : (a b : List ℕ) (i : ℕ) (v : Bool) → v ≡ false → ((p : ℕ) → backing_bit b p ≡ (not (nat_eq p i) && backing_bit a p)) → IsFilled a b i (i + 1) v
filled_clear a b i v fails is = grind (arith, nat_tests)

-- whole bytes of one value
pub filled-bytes : (a ys : List ℕ) (m n byte : ℕ) (v : Bool) → m ≤ n → n ≤ length a → ys ≡ replicate (n - m) byte
    → ((j : ℕ) → j < 8 → nat_eq (bit_at byte j) 1 ≡ v) → IsFilled a (put_mid m (n - m) a ys) (8 * m) (8 * n) v
filled-bytes a ys m n byte v ordered within is bits = grind (arith, common_steps, length-replicate, get_or-put_mid_inside, get_or-replicate, get_or-put_mid_below, get_or-put_mid_above)

pub bits_of_ones : (j : ℕ) → j < 8 → nat_eq (bit_at 255 j) 1 ≡ true
bits_of_ones j h = ap (λ b. nat_eq b 1) (bit_at_ones 8 j h)

pub bits_of_zeros : (j : ℕ) → j < 8 → nat_eq (bit_at 0 j) 1 ≡ false
bits_of_zeros j h = ap (λ b. nat_eq b 1) (bit_at-zero j)
