-- The places of true values, over lists.
use Rattle.mask_bits.proofs.Common.{◌≡◌, ℕ, zero, suc, ◌+◌, ◌<◌, ◌≤◌, Bool, true, false, List, [], ◌∷◌, length, get_or, map, slice_get, refl, ap, arith, ◌-◌, All, IfSome, All-nil, All-head, All-tail, get_or-map, length-map, indices_from, positions, count}

-- no list has more true values than values
pub length-indices_from : (n : ℕ) (m : List Bool) → length (indices_from n m) ≤ length m
length-indices_from n [] = omega arith
length-indices_from n (v ∷ m) = grind (arith, length-indices_from (n + 1) m)

-- ---- the recursion on a list's first value

-- the places of a list that stands one further on
pub indices_from-suc : (n : ℕ) (m : List Bool) → indices_from (suc n) m ≡ map suc (indices_from n m)
indices_from-suc n [] = refl
indices_from-suc n (v ∷ m) = grind (arith, indices_from-suc (n + 1) m)

pub positions-true : (m : List Bool) → positions (true ∷ m) ≡ 0 ∷ map suc (positions m)
positions-true m = ap (λ (xs : List ℕ). 0 ∷ xs) (indices_from-suc 0 m)

pub positions-false : (m : List Bool) → positions (false ∷ m) ≡ map suc (positions m)
positions-false m = indices_from-suc 0 m

-- how many values are true, by recursion
abbrev pub trues : List Bool → ℕ
trues [] = 0
trues (true ∷ m) = suc (trues m)
trues (false ∷ m) = trues m

pub length-indices_from-trues : (n : ℕ) (m : List Bool) → length (indices_from n m) ≡ trues m
length-indices_from-trues n [] = refl
length-indices_from-trues n (v ∷ m) = grind (arith, length-indices_from-trues (n + 1) m)

pub count-trues : (m : List Bool) → count m ≡ trues m
count-trues m = length-indices_from-trues 0 m

-- each place is one of the list's
pub positions-within : (m : List Bool) → All (λ p. p < length m) (positions m)
positions-within [] = All-nil (λ p. p < 0)
positions-within (v ∷ m) = λ k d h. grind (arith, positions-true m, positions-false m, positions-within m, get_or-map suc (positions m) k d d, get_or-map suc (positions m) (k - 1) d d, length-map)

-- and its value is true
place-true_among : (m : List Bool) (n : ℕ) → n < trues m → get_or m (get_or (positions m) n 0) false ≡ true
place-true_among [] n h = absurd (omega arith)
place-true_among (true ∷ m) zero h = refl
place-true_among (true ∷ m) (suc n) h = grind (arith, place-true_among m n (omega arith), positions-true, get_or-map, count-trues)
place-true_among (false ∷ m) n h = grind (arith, place-true_among m n h, positions-false, get_or-map, count-trues)

pub place-true : (m : List Bool) (n : ℕ) → n < count m → get_or m (get_or (positions m) n 0) false ≡ true
place-true m n h = place-true_among m n (omega (arith, count-trues m))

pub count-le-length : (m : List Bool) → count m ≤ length m
count-le-length m = length-indices_from 0 m

-- an entry has what each entry has
pub IfSome-slice_get : (P : ℕ → Type 0) (xs : List ℕ) (n : ℕ) → All P xs → IfSome (slice_get xs n) P
IfSome-slice_get P [] n all = tt
IfSome-slice_get P (x ∷ xs) zero all = All-head P x xs all
IfSome-slice_get P (x ∷ xs) (suc n) all = IfSome-slice_get P xs n (All-tail P x xs all)

-- true value number n, if there is one, stands within the list
pub place-within : (m : List Bool) (n : ℕ) → IfSome (slice_get (positions m) n) (λ p. p < length m)
place-within m n = IfSome-slice_get (λ p. p < length m) (positions m) n (positions-within m)

pub ruleset place_facts = (count-le-length, length-indices_from, positions-within)
