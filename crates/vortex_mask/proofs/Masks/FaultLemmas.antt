-- The faults of a list of indices: how a loop finds them, and what holds where there is none.
use Rattle.vortex_mask.proofs.Common.{common_steps, ◌≡◌, ℕ, zero, suc, ◌+◌, ◌<◌, ◌≤◌, Bool, true, false, nat_eq, nat_lt, nat_le, List, [], ◌∷◌, ◌++◌, length, get_or, drop, Option, Some, None, cond, refl, sym, ap, subst, ◌∙◌, ◌-◌, inl, inr, arith, ◌↔◌, list_any, option_map, option_or, IsStrictlyIncreasing, cases_lt, nat_tests, length-drop, All-nil, All-cons, All-head, All-tail, All-from_get_or, IsStrictlyIncreasing-filter, AllPairs-from_increasing, common, first_pair_from, first_past, index_fault, out_of_bounds, All, IndexOutOfBounds}

-- ---- pairs of neighbors

-- fewer than two indices are no pair
first_pair-few : (test : ℕ → ℕ → Bool) (n : ℕ) (xs : List ℕ) → length xs ≤ 1 → first_pair_from test n xs ≡ None
first_pair-few test n [] h = refl
first_pair-few test n (x ∷ []) h = refl
first_pair-few test n (x ∷ y ∷ xs) h = absurd (omega arith)

pub first_pair-end : (test : ℕ → ℕ → Bool) (xs : List ℕ) (k : ℕ) → length xs ≤ k + 1 → first_pair_from test k (drop k xs) ≡ None
first_pair-end test xs k h = first_pair-few test k (drop k xs) (omega (arith, length-drop k xs))

-- ---- no fault

if_none : (b : Bool) (n : ℕ) (o : Option ℕ) → cond b (Some n) o ≡ None → (b ≡ false) × (o ≡ None)
if_none true n o e = absurd (cc)
if_none false n o e = (refl, e)

-- no index below or equal to the one before it
pub ascending-faultless : (n : ℕ) (xs : List ℕ) → first_pair_from (λ x y. nat_lt y x) n xs ≡ None → first_pair_from (λ x y. nat_eq y x) n xs ≡ None → IsStrictlyIncreasing xs
ascending-faultless n [] sorted unlike k h = absurd (omega arith)
ascending-faultless n (x ∷ []) sorted unlike k h = absurd (omega arith)
ascending-faultless n (x ∷ y ∷ xs) sorted unlike k h =
    let a = if_none (nat_lt y x) (n + 1) (first_pair_from (λ x y. nat_lt y x) (n + 1) (y ∷ xs)) sorted in
    let b = if_none (nat_eq y x) (n + 1) (first_pair_from (λ x y. nat_eq y x) (n + 1) (y ∷ xs)) unlike in
    ascends x y xs a.0 b.0 (ascending-faultless (n + 1) (y ∷ xs) a.1 b.1) k h
  where
    ascends : (x y : ℕ) (xs : List ℕ) → nat_lt y x ≡ false → nat_eq y x ≡ false → IsStrictlyIncreasing (y ∷ xs) → IsStrictlyIncreasing (x ∷ y ∷ xs)
    ascends x y xs a b rest zero h = grind (arith, nat_tests)
    ascends x y xs a b rest (suc k) h = grind (arith, nat_tests, rest k)

within-first_past : (len : ℕ) (xs : List ℕ) → first_past len xs ≡ None → All (λ i. i < len) xs
within-first_past len [] none = All-nil (λ i. i < len)
within-first_past len (x ∷ xs) none = grind (arith, common_steps, if_none, All-cons, nat_tests, within-first_past len xs (if_none (nat_le len x) x (first_past len xs) none).1)

pub none_mapped : {X Y : Type 0} (f : X → Y) (o : Option X) → option_map f o ≡ None → o ≡ None
none_mapped f None e = refl
none_mapped f (Some x) e = absurd (cc)

-- no index past the length
pub within_faultless : (len : ℕ) (xs : List ℕ) → out_of_bounds len xs ≡ None → All (λ i. i < len) xs
within_faultless len xs none = within-first_past len xs (none_mapped (λ x. IndexOutOfBounds x len) (first_past len xs) none)

pub option_or-none : {X : Type 0} (a b : Option X) → option_or a b ≡ None → (a ≡ None) × (b ≡ None)
option_or-none (Some x) b e = absurd (cc)
option_or-none None b e = (refl, e)

-- what the order of the faults leaves where there is none
pub index_fault-none : (len : ℕ) (xs : List ℕ) → index_fault len xs ≡ None → IsStrictlyIncreasing xs × All (λ i. i < len) xs
index_fault-none len xs none = grind (arith, option_or-none, ascending-faultless, none_mapped, within_faultless)

-- each above the one before it makes no pair that stands otherwise
first_pair-ascending : (test : ℕ → ℕ → Bool) (n : ℕ) (xs : List ℕ) → ((x y : ℕ) → x < y → test x y ≡ false) → IsStrictlyIncreasing xs → first_pair_from test n xs ≡ None
first_pair-ascending test n [] not_so ascending = refl
first_pair-ascending test n (x ∷ []) not_so ascending = refl
first_pair-ascending test n (x ∷ y ∷ xs) not_so ascending =
    rw (not_so x y (ascending 0 (omega arith))) (first_pair-ascending test (n + 1) (y ∷ xs) not_so (λ k h.
    let next : suc k + 1 ≡ suc (k + 1) = omega arith in
    subst (λ (j : ℕ). get_or (y ∷ xs) k 0 < get_or (x ∷ y ∷ xs) j 0) next (ascending (suc k) (omega arith))))

first_past-none : (len : ℕ) (xs : List ℕ) → All (λ i. i < len) xs → first_past len xs ≡ None
first_past-none len [] all = refl
first_past-none len (x ∷ xs) all = grind (arith, common_steps, nat_tests, All-head, All-tail, first_past-none len xs (All-tail (λ i. i < len) x xs all))

faultless : (len : ℕ) (xs : List ℕ) → IsStrictlyIncreasing xs → All (λ i. i < len) xs → index_fault len xs ≡ None
faultless len xs ascending within = grind (arith, first_pair-ascending, nat_lt, first_past-none)

-- none is past the length where the last one isn't
pub faultless-by_last : (len : ℕ) (xs : List ℕ) → IsStrictlyIncreasing xs → (0 < length xs → get_or xs (length xs - 1) 0 < len) → None ≡ index_fault len xs
faultless-by_last len xs ascending last =
    sym (faultless len xs ascending (All-from_get_or (λ i. i < len) xs 0 (λ i h. elim (cases_lt (i + 1) (length xs)) [
      | inl before ↦ omega (arith, AllPairs-from_increasing xs ascending i (length xs - 1) 0 (omega arith) (omega arith), last (omega arith))
      | inr past ↦ subst (λ (k : ℕ). get_or xs k 0 < len) (omega arith) (last (omega arith))
    ])))

-- indices have no fault exactly if each is above the one before it and all are below the length
pub no_index_fault : (len : ℕ) (xs : List ℕ) → (index_fault len xs ≡ None) ↔ (IsStrictlyIncreasing xs × All (λ i. i < len) xs)
no_index_fault len xs = (index_fault-none len xs, λ h. faultless len xs h.0 h.1)

-- ---- one more index

-- the first past the length, where one more came
pub first_past-within : (len x : ℕ) (xs : List ℕ) → x < len → first_past len xs ≡ first_past len (xs ++ x ∷ [])
first_past-within len x [] h = grind (arith, nat_tests)
first_past-within len x (y ∷ xs) h = grind (arith, nat_tests, first_past-within len x xs)

pub first_past-more : (len x : ℕ) (xs : List ℕ) → len ≤ x → option_or (first_past len xs) (Some x) ≡ first_past len (xs ++ x ∷ [])
first_past-more len x [] h = grind (arith, nat_tests)
first_past-more len x (y ∷ xs) h = grind (arith, nat_tests, first_past-more len x xs)

-- the fault that the first past the length is
pub out_of_bounds-first : (len : ℕ) (xs : List ℕ) (first o : Option ℕ) → first ≡ first_past len xs → first ≡ o → out_of_bounds len xs ≡ option_map (λ x. IndexOutOfBounds x len) o
out_of_bounds-first len xs first o is found = ap (option_map (λ x. IndexOutOfBounds x len)) (sym is ∙ found)

-- ---- what two lists have in common

pub ascending-common : (xs ys : List ℕ) → IsStrictlyIncreasing xs → IsStrictlyIncreasing (common xs ys)
ascending-common xs ys = IsStrictlyIncreasing-filter (λ x. list_any (nat_eq x) ys) xs

pub ruleset listed_facts = (within_faultless, ascending-common)

pub ruleset order_facts = (faultless-by_last, first_pair-end)
