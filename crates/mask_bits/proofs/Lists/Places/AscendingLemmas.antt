-- Ascending lists of places: the true places of a list are such a list, and each such list is one list's true places.
use Rattle.mask_bits.proofs.Common.{common_steps, cases_lt, AllPairs-from_increasing, ◌≡◌, ℕ, zero, suc, ◌+◌, ◌<◌, ◌≤◌, ◌||◌, Bool, true, false, nat_eq, List, [], ◌∷◌, length, get_or, map, refl, sym, ap, subst, inl, inr, arith, list_any, range_with_len, IsStrictlyIncreasing, cases_eq, ne_eqb, indices_from, positions, true_at, repeated, get_or_default, All, eq-eqb}
use Rattle.mask_bits.proofs.Lists.CountLemmas.{all_true_from_count}
use Rattle.mask_bits.proofs.Lists.RankLemmas.{length-true_at, map_range_same}

-- places from low on, below high, each above the one before it
abbrev pub Rising : ℕ → ℕ → List ℕ → Type 0
Rising low high [] = Unit {0}
Rising low high (p ∷ ps) = (low ≤ p) × (p < high) × Rising (p + 1) high ps

-- a lower bound may be lowered
pub Rising-lower : (a b high : ℕ) (ps : List ℕ) → a ≤ b → Rising b high ps → Rising a high ps
Rising-lower a b high [] h r = tt
Rising-lower a b high (p ∷ ps) h r = (omega (arith, r.0), r.1, r.2)

Rising-from : (low high : ℕ) (ps : List ℕ) → ((k d : ℕ) → k < 1 → k < length ps → low ≤ get_or ps k d) → IsStrictlyIncreasing ps → All (λ p. p < high) ps → Rising low high ps
Rising-from low high [] first ascending within = tt
Rising-from low high (p ∷ ps) first ascending within = (
  first 0 p (omega arith) (omega arith),
  within 0 p (omega arith),
  Rising-from (p + 1) high ps (λ k d below h. grind (arith, ascending 0, get_or_default ps 0 d 0)) (λ k h. grind (arith, ascending (suc k))) (λ k d h. within (suc k) d (omega arith)),
)

-- each is above the one before it
pub ascending-Rising : (low high : ℕ) (ps : List ℕ) → Rising low high ps → IsStrictlyIncreasing ps
ascending-Rising low high [] r k h = absurd (omega arith)
ascending-Rising low high (p ∷ []) r k h = absurd (omega arith)
ascending-Rising low high (p ∷ q ∷ ps) r zero h = omega (arith, r.2.0)
ascending-Rising low high (p ∷ q ∷ ps) r (suc k) h = grind (arith, ascending-Rising (p + 1) high (q ∷ ps) r.2 k (omega arith))

-- the true places are such
Rising-indices_from : (n high : ℕ) (m : List Bool) → high ≡ n + length m → Rising n high (indices_from n m)
Rising-indices_from n high [] e = tt
Rising-indices_from n high (v ∷ m) e = grind (arith, Rising-indices_from (n + 1) high m, Rising-lower)

pub positions-rising : (m : List Bool) → Rising 0 (length m) (positions m)
positions-rising m = Rising-indices_from 0 (length m) m (omega arith)

pub positions-ascending : (m : List Bool) → IsStrictlyIncreasing (positions m)
positions-ascending m = ascending-Rising 0 (length m) (positions m) (positions-rising m)

-- ---- ascending numbers

-- a number that none is
pub none-is : (p : ℕ) (xs : List ℕ) → ((k : ℕ) → k < length xs → get_or xs k 0 ≡ p → ⊥) → list_any (nat_eq p) xs ≡ false
none-is p [] apart = refl
none-is p (x ∷ xs) apart = grind (arith, common_steps, ne_eqb p x (λ same. apart 0 (omega arith) (sym same)), none-is p xs (λ k h. apart (suc k) (omega arith)))

-- a later one is no less
pub rises_to : (xs : List ℕ) (i k : ℕ) → IsStrictlyIncreasing xs → i ≤ k → k < length xs → get_or xs i 0 ≤ get_or xs k 0
rises_to xs i k ascending h inside = grind (arith, cases_lt, AllPairs-from_increasing)

-- ---- the list that is true at such places

-- no place below the first is among them
none_below : (i low high : ℕ) (ps : List ℕ) → Rising low high ps → i < low → list_any (nat_eq i) ps ≡ false
none_below i low high [] r h = refl
none_below i low high (p ∷ ps) r h = grind (arith, none_below i (p + 1) high ps r.2 (omega (arith, r.0)))

true_from : (a n high : ℕ) (ps : List ℕ) → high ≡ a + n → Rising a high ps → indices_from a (map (λ i. list_any (nat_eq i) ps) (range_with_len a n)) ≡ ps
true_from a zero high [] e r = refl
true_from a zero high (p ∷ ps) e r = absurd (omega (arith, r.0, r.1))
true_from a (suc n) high [] e r = true_from (a + 1) n high [] (omega arith) tt
true_from a (suc n) high (p ∷ ps) e r =
    let f : ℕ → Bool = λ i. list_any (nat_eq i) (p ∷ ps) in
    elim (cases_eq a p) [
      | inl here ↦
          let found : f a ≡ true = ap (λ b. b || list_any (nat_eq a) ps) (eq-eqb a p here) in
          let same : map f (range_with_len (a + 1) n) ≡ map (λ i. list_any (nat_eq i) ps) (range_with_len (a + 1) n)
          = map_range_same f (λ i. list_any (nat_eq i) ps) (a + 1) n (λ i h. ap (λ b. b || list_any (nat_eq i) ps) (ne_eqb i p (λ is. absurd (omega arith)))) in
          let rest = true_from (a + 1) n high ps (omega arith) (subst (λ (k : ℕ). Rising (k + 1) high ps) (sym here) r.2) in
          grind (arith, here, found, same, rest)
      | inr apart ↦
          grind (arith, none_below a (a + 1) high (p ∷ ps) ((omega (arith, r.0), r.1, r.2)), true_from (a + 1) n high (p ∷ ps) (omega arith) ((omega (arith, r.0), r.1, r.2)))
    ]

-- the true places of the list that is true at ascending places within it are these
pub positions-true_at : (n : ℕ) (ps : List ℕ) → IsStrictlyIncreasing ps → All (λ p. p < n) ps → positions (true_at n ps) ≡ ps
unfolding true_at
positions-true_at n ps ascending within = grind (arith, true_from, Rising-from)

-- as many places as there are are all of them
pub positions-full : (n : ℕ) (ps : List ℕ) → IsStrictlyIncreasing ps → All (λ p. p < n) ps → length ps ≡ n → positions (repeated n true) ≡ ps
positions-full n ps ascending within full = grind (arith, positions-true_at n ps ascending within, all_true_from_count, length-true_at)

pub ruleset ascending_facts = (positions-ascending)
