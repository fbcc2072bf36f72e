-- How many values are true: of lists of one value, and what no or every true value says of a list.
use Rattle.mask_bits.proofs.Common.{◌++◌, ◌≡◌, ℕ, zero, suc, ◌+◌, ◌<◌, ◌≤◌, Bool, true, false, List, [], ◌∷◌, length, get_or, take, drop, Some, slice_get, refl, sym, ap, ◌∙◌, arith, zero-add, ◌↔◌, list_all, list_any, range_with_len, get_or-replicate, length-replicate, get_or_append_left, get_or-append_right, get_or_past, take-append-drop, length-range_with_len, get_or-range_with_len, slice_get-get_or, indices_from, positions, count, count_below, repeated, All}
use Rattle.mask_bits.proofs.Lists.Places.PlaceLemmas.{length-indices_from, trues, count-trues}

-- every place of an all-true list, and none of an all-false one
pub indices_from-repeated_true : (n k : ℕ) → indices_from n (repeated k true) ≡ range_with_len n k
unfolding repeated
indices_from-repeated_true n zero = refl
indices_from-repeated_true n (suc k) = ap (λ (xs : List ℕ). n ∷ xs) (indices_from-repeated_true (n + 1) k)

pub indices_from-repeated_false : (n k : ℕ) → indices_from n (repeated k false) ≡ []
unfolding repeated
indices_from-repeated_false n zero = refl
indices_from-repeated_false n (suc k) = indices_from-repeated_false (n + 1) k

pub count-repeated_true : (k : ℕ) → count (repeated k true) ≡ k
unfolding repeated
count-repeated_true k = ap length (indices_from-repeated_true 0 k) ∙ length-range_with_len 0 k

pub count-repeated_false : (k : ℕ) → count (repeated k false) ≡ 0
unfolding repeated
count-repeated_false k = ap length (indices_from-repeated_false 0 k)

-- true value number n of an all-true list stands at n
pub positions-repeated_true_at : (k n : ℕ) → n < k → slice_get (positions (repeated k true)) n ≡ Some n
positions-repeated_true_at k n h = grind (arith, indices_from-repeated_true 0 k, slice_get-get_or (range_with_len 0 k) n 0, length-range_with_len 0 k, get_or-range_with_len 0 k n 0 h)

-- as many true values as values: all are true
pub all_true_from_count : (n : ℕ) (m : List Bool) → length (indices_from n m) ≡ length m → m ≡ repeated (length m) true
unfolding repeated
all_true_from_count n [] e = refl
all_true_from_count n (v ∷ m) e = grind (arith, all_true_from_count (n + 1) m, length-indices_from)

-- no true value: all are false
pub all_false_from_count : (n : ℕ) (m : List Bool) → length (indices_from n m) ≡ 0 → m ≡ repeated (length m) false
unfolding repeated
all_false_from_count n [] e = refl
all_false_from_count n (v ∷ m) e = grind (arith, all_false_from_count (n + 1) m)

-- a list whose values are each b is so many of b
pub repeated_from_All : (b : Bool) (m : List Bool) → All (λ v. v ≡ b) m → m ≡ repeated (length m) b
unfolding repeated
repeated_from_All b [] all = refl
repeated_from_All b (v ∷ m) all = grind (arith, all 0 b, repeated_from_All b m (λ i d h. all (suc i) d (omega arith)))

pub All-repeated : (b : Bool) (m : List Bool) → m ≡ repeated (length m) b → All (λ v. v ≡ b) m
unfolding repeated
All-repeated b m e = λ k d h. ap (λ (xs : List Bool). get_or xs k d) e ∙ get_or-replicate (length m) k b d h

-- what the tests of all and of some value say, by the count
pub list_all-count : (n : ℕ) (m : List Bool) → length (indices_from n m) ≡ length m → list_all (λ b. b) m ≡ true
list_all-count n [] e = refl
list_all-count n (v ∷ m) e = grind (arith, list_all-count (n + 1) m, length-indices_from)

pub list_all-count_less : (n : ℕ) (m : List Bool) → length (indices_from n m) < length m → list_all (λ b. b) m ≡ false
list_all-count_less n [] e = absurd (omega arith)
list_all-count_less n (v ∷ m) e = grind (arith, list_all-count_less (n + 1) m)

pub list_any-count : (n : ℕ) (m : List Bool) → 0 < length (indices_from n m) → list_any (λ b. b) m ≡ true
list_any-count n [] e = absurd (omega arith)
list_any-count n (v ∷ m) e = grind (arith, list_any-count (n + 1) m)

pub list_any-count_zero : (n : ℕ) (m : List Bool) → length (indices_from n m) ≡ 0 → list_any (λ b. b) m ≡ false
list_any-count_zero n [] e = refl
list_any-count_zero n (v ∷ m) e = grind (arith, list_any-count_zero (n + 1) m)

-- ---- reads of a list of one value

pub length-repeated : (n : ℕ) (v : Bool) → length (repeated n v) ≡ n
unfolding repeated
length-repeated n v = length-replicate n v

pub get_or-repeated : (n i : ℕ) (v d : Bool) → i < n → get_or (repeated n v) i d ≡ v
unfolding repeated
get_or-repeated n i v d h = get_or-replicate n i v d h

-- false values behind a list change no value
pub get_or-padded : (m : List Bool) (n i : ℕ) → get_or (m ++ repeated n false) i false ≡ get_or m i false
unfolding repeated
get_or-padded m n i = grind (arith, get_or_append_left, get_or-append_right, get_or-replicate, get_or_past, length-replicate)

pub slice_get-repeated : (n : ℕ) (v : Bool) (i : ℕ) → i < length (repeated n v) → slice_get (repeated n v) i ≡ Some v
slice_get-repeated n v i h = grind (arith, slice_get-get_or (repeated n v) i v h, get_or-repeated n i v v, length-repeated)

pub nil-repeated : (v : Bool) → repeated 0 v ≡ []
unfolding repeated
nil-repeated v = refl

pub ruleset repeated_facts = (length-repeated, slice_get-repeated)

-- ---- lists one after another, and one more value

-- of two lists, one after the other
trues-append : (a b : List Bool) → trues (a ++ b) ≡ trues a + trues b
trues-append [] b = sym (zero-add (trues b))
trues-append (v ∷ a) b = grind (arith, trues-append a)

pub count-append : (a b : List Bool) → count (a ++ b) ≡ count a + count b
count-append a b = omega (arith, count-trues (a ++ b), trues-append a b, count-trues a, count-trues b)

pub count-push : (m : List Bool) (v : Bool) → count (m ++ v ∷ []) ≡ count m + trues (v ∷ [])
count-push m v = count-append m (v ∷ []) ∙ ap (λ n. count m + n) (count-trues (v ∷ []))

-- ---- what the count says of a list

pub positions-all_true : (n : ℕ) → positions (repeated n true) ≡ range_with_len 0 n
positions-all_true n = indices_from-repeated_true 0 n

pub positions-all_false : (n : ℕ) → positions (repeated n false) ≡ []
positions-all_false n = indices_from-repeated_false 0 n

pub all_true-count : (m : List Bool) → (count m ≡ length m) ↔ All (λ v. v ≡ true) m
all_true-count m = (λ e. All-repeated true m (all_true_from_count 0 m e), λ all. ap count (repeated_from_All true m all) ∙ count-repeated_true (length m))

-- no count below a place is above that of all
pub count_below-le : (m : List Bool) (n : ℕ) → count_below m n ≤ count m
count_below-le m n = omega (arith, count-append (take n m) (drop n m), ap count (take-append-drop n m))
