-- A list without its first true values, and its true places beside those of the limited list.
use Rattle.mask_bits.proofs.Common.{◌≡◌, ℕ, zero, suc, ◌-◌, ◌<◌, ◌≤◌, ◌++◌, Bool, true, false, ◌&&◌, not, nat_lt, List, [], ◌∷◌, length, get_or, take, drop, slice_range, Some, slice_get, refl, sym, ap, ◌∙◌, arith, get_or-map, slice_get_within, get_or_from_slice_get, without_first, positions, count, repeated, length-drop, take_all}
use Rattle.std.proofs.lemmas.List.{drop-map, take-map}
use Rattle.mask_bits.specs.Laws.Parts.{HasCountWithoutFirst, AreSplitAtLimit}
use Rattle.mask_bits.proofs.Lists.LimitLemmas.{by_trues, kept, limited-kept}
use Rattle.mask_bits.proofs.Lists.Places.PlaceLemmas.{positions-true, positions-false, trues, count-trues}

-- the true values but the first k, by recursion on the list
abbrev pub others : List Bool → ℕ → List Bool
others [] k = []
others (false ∷ m) k = false ∷ others m k
others (true ∷ m) zero = true ∷ others m zero
others (true ∷ m) (suc k) = false ∷ others m k

length-others : (m : List Bool) (k : ℕ) → length (others m k) ≡ length m
length-others [] k = refl
length-others (v ∷ m) k = grind (arith, length-others m)

get_or-others : (m : List Bool) (k i : ℕ) → get_or (others m k) i false ≡ (get_or m i false && not (nat_lt (trues (take i m)) k))
get_or-others [] k i = refl
get_or-others (v ∷ m) k i = grind (arith, get_or-others m)

pub without_first-others : (m : List Bool) (k : ℕ) → without_first m k ≡ others m k
unfolding without_first
without_first-others m k = by_trues (λ n. not (nat_lt n k)) m (others m k) (length-others m k) (get_or-others m k)

pub length-without_first : (m : List Bool) (k : ℕ) → length (without_first m k) ≡ length m
length-without_first m k = ap length (without_first-others m k) ∙ length-others m k

trues-others : (m : List Bool) (k : ℕ) → trues (others m k) ≡ trues m - k
trues-others [] k = omega arith
trues-others (v ∷ m) k = grind (arith, trues-others m)

pub count-without_first : (m : List Bool) (k : ℕ) → count (without_first m k) ≡ count m - k
count-without_first m k = grind (arith, without_first-others, count-trues, trues-others)

pub without_first_count : HasCountWithoutFirst
without_first_count = record { len = length-without_first; count = count-without_first }

-- ---- the places

positions-kept : (m : List Bool) (k : ℕ) → positions (kept m k) ≡ take k (positions m)
positions-kept [] zero = refl
positions-kept [] (suc k) = refl
positions-kept (true ∷ m) zero = grind (arith, positions-false, positions-kept m)
positions-kept (true ∷ m) (suc k) = grind (arith, positions-true, positions-kept m, take-map)
positions-kept (false ∷ m) k = grind (arith, positions-false, positions-kept m, take-map)

positions-others : (m : List Bool) (k : ℕ) → positions (others m k) ≡ drop k (positions m)
positions-others [] zero = refl
positions-others [] (suc k) = refl
positions-others (true ∷ m) zero = grind (arith, positions-true, positions-others m)
positions-others (true ∷ m) (suc k) = grind (arith, positions-true, positions-false, positions-others m, drop-map)
positions-others (false ∷ m) k = grind (arith, positions-false, positions-others m, drop-map)

pub split_at_limit : AreSplitAtLimit
split_at_limit = record {
  first = λ m k. ap positions (limited-kept m k) ∙ positions-kept m k;
  others = λ m k. ap positions (without_first-others m k) ∙ positions-others m k;
}

-- ---- the cut before true value number k

others-all : (m : List Bool) → others m zero ≡ m
others-all [] = refl
others-all (v ∷ m) = grind (arith, others-all m)

others-none : (m : List Bool) (k : ℕ) → trues m ≤ k → others m k ≡ repeated (length m) false
unfolding repeated
others-none [] k h = refl
others-none (v ∷ m) k h = grind (arith, others-none m)

-- false values before the place of true value number k, and the values from there on
abbrev cut_from : List Bool → ℕ → List Bool
cut_from m p = repeated p false ++ drop p m

others-cut : (m : List Bool) (k : ℕ) → k < trues m → others m k ≡ cut_from m (get_or (positions m) k 0)
unfolding repeated
others-cut [] k h = absurd (omega arith)
others-cut (true ∷ m) zero h = grind (arith, others-all m, positions-true m)
others-cut (true ∷ m) (suc k) h = grind (arith, others-cut m k (omega arith), positions-true m, get_or-map suc (positions m) k 0 0, count-trues m)
others-cut (false ∷ m) k h = grind (arith, others-cut m k h, positions-false m, get_or-map suc (positions m) k 0 0, count-trues m)

pub without_first-all : (m : List Bool) → without_first m 0 ≡ m
without_first-all m = without_first-others m 0 ∙ others-all m

pub without_first-none : (m : List Bool) (k : ℕ) → count m ≤ k → without_first m k ≡ repeated (length m) false
without_first-none m k h = without_first-others m k ∙ others-none m k (omega (arith, count-trues m))

-- the part from that place on, behind false values
pub without_first-back : (m back : List Bool) (k p : ℕ) → slice_get (positions m) k ≡ Some p → p < length m → back ≡ slice_range m p (length m) → repeated p false ++ back ≡ without_first m k
without_first-back m back k p at within is =
    let some : k < trues m = grind (arith, slice_get_within, count-trues) in
    let place : get_or (positions m) k 0 ≡ p = grind (arith, get_or_from_slice_get) in
    let rest : back ≡ drop p m = is ∙ take_all (length m - p) (drop p m) (omega (arith, length-drop p m)) in
    ap (λ (xs : List Bool). repeated p false ++ xs) rest ∙ sym (without_first-others m k ∙ others-cut m k some ∙ ap (cut_from m) place)
