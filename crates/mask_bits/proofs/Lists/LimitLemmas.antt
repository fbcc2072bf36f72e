-- A list limited to its first true values, and the count below a true place.
use Rattle.mask_bits.proofs.Common.{◌≡◌, ℕ, zero, suc, ◌-◌, ◌<◌, ◌≤◌, ◌++◌, min, Bool, true, false, ◌&&◌, nat_lt, List, [], ◌∷◌, length, map, range_with_len, get_or, take, slice_range, Some, slice_get, refl, sym, ap, ◌∙◌, arith, get_or-map, slice_get_within, get_or_from_slice_get, fill_by_all, limited, positions, count, count_below, repeated, length-take}
use Rattle.mask_bits.specs.Laws.Indices.{CountBelowPosition}
use Rattle.mask_bits.specs.Laws.Parts.{LimitOfLimit, HasLimitCount}
use Rattle.mask_bits.proofs.Lists.Places.PlaceLemmas.{positions-true, positions-false, trues, count-trues}

-- the values of m that stay true where the number of true ones before them says so: a list of such values is all of them
pub by_trues : (f : ℕ → Bool) (m xs : List Bool) → length xs ≡ length m → ((i : ℕ) → get_or xs i false ≡ (get_or m i false && f (trues (take i m))))
    → map (λ i. get_or m i false && f (count_below m i)) (range_with_len 0 (length m)) ≡ xs
by_trues f m xs len each =
    sym (fill_by_all (λ i. get_or m i false && f (count_below m i)) xs (length m) false len (λ i h. each i ∙ ap (λ n. get_or m i false && f n) (sym (count-trues (take i m)))))

-- the first k true values, by recursion on the list
abbrev pub kept : List Bool → ℕ → List Bool
kept [] k = []
kept (false ∷ m) k = false ∷ kept m k
kept (true ∷ m) zero = false ∷ kept m zero
kept (true ∷ m) (suc k) = true ∷ kept m k

length-kept : (m : List Bool) (k : ℕ) → length (kept m k) ≡ length m
length-kept [] k = refl
length-kept (v ∷ m) k = grind (arith, length-kept m)

get_or-kept : (m : List Bool) (k i : ℕ) → get_or (kept m k) i false ≡ (get_or m i false && nat_lt (trues (take i m)) k)
get_or-kept [] k i = refl
get_or-kept (v ∷ m) k i = grind (arith, get_or-kept m)

pub limited-kept : (m : List Bool) (k : ℕ) → limited m k ≡ kept m k
unfolding limited
limited-kept m k = by_trues (λ n. nat_lt n k) m (kept m k) (length-kept m k) (get_or-kept m k)

pub length-limited : (m : List Bool) (k : ℕ) → length (limited m k) ≡ length m
length-limited m k = ap length (limited-kept m k) ∙ length-kept m k

kept-kept : (m : List Bool) (k j : ℕ) → kept (kept m k) j ≡ kept m (min k j)
kept-kept [] k j = refl
kept-kept (v ∷ m) k j = grind (arith, kept-kept m)

trues-kept : (m : List Bool) (k : ℕ) → trues (kept m k) ≡ min k (trues m)
trues-kept [] k = omega arith
trues-kept (v ∷ m) k = grind (arith, trues-kept m)

pub limit_of_limit : LimitOfLimit
limit_of_limit m k j = grind (arith, limited-kept, kept-kept)

pub count-limited : (m : List Bool) (k : ℕ) → count (limited m k) ≡ min k (count m)
count-limited m k = grind (arith, limited-kept, count-trues, trues-kept)

pub limit_count : HasLimitCount
limit_count = record { len = length-limited; count = count-limited }

-- ---- the count below a true place

trues-below_place : (m : List Bool) (n : ℕ) → n < trues m → trues (take (get_or (positions m) n 0) m) ≡ n
trues-below_place [] n h = absurd (omega arith)
trues-below_place (true ∷ m) zero h = grind (arith, positions-true)
trues-below_place (true ∷ m) (suc n) h = grind (arith, trues-below_place m n (omega arith), positions-true, get_or-map, count-trues)
trues-below_place (false ∷ m) n h = grind (arith, trues-below_place m n h, positions-false, get_or-map, count-trues)

pub count_below_position : CountBelowPosition
count_below_position m n h = grind (arith, count-trues, trues-below_place)

-- ---- the cut before true value number k

-- no true value
kept-none : (m : List Bool) → kept m zero ≡ repeated (length m) false
unfolding repeated
kept-none [] = refl
kept-none (v ∷ m) = grind (arith, kept-none m)

-- all of them
kept-all : (m : List Bool) (k : ℕ) → trues m ≤ k → kept m k ≡ m
kept-all [] k h = refl
kept-all (v ∷ m) k h = grind (arith, kept-all m)

-- the values before the place of true value number k, and false ones behind them
abbrev cut_at : List Bool → ℕ → List Bool
cut_at m p = take p m ++ repeated (length m - p) false

kept-cut : (m : List Bool) (k : ℕ) → k < trues m → kept m k ≡ cut_at m (get_or (positions m) k 0)
unfolding repeated
kept-cut [] k h = absurd (omega arith)
kept-cut (true ∷ m) zero h =
    let rest : suc (length m) - 0 ≡ suc (length m) = omega arith in
    grind (arith, kept-none m, positions-true m, ap (λ n. repeated n false) rest)
kept-cut (true ∷ m) (suc k) h = grind (arith, kept-cut m k (omega arith), positions-true m, get_or-map suc (positions m) k 0 0, count-trues m)
kept-cut (false ∷ m) k h = grind (arith, kept-cut m k h, positions-false m, get_or-map suc (positions m) k 0 0, count-trues m)

pub limited-none : (m : List Bool) → limited m 0 ≡ repeated (length m) false
limited-none m = limited-kept m 0 ∙ kept-none m

pub limited-all : (m : List Bool) (k : ℕ) → count m ≤ k → limited m k ≡ m
limited-all m k h = limited-kept m k ∙ kept-all m k (omega (arith, count-trues m))

-- a part up to that place, and false values behind it
pub limited-front : (m front : List Bool) (k p n : ℕ) → slice_get (positions m) k ≡ Some p → p < length m → front ≡ slice_range m 0 p → n ≡ length m → front ++ repeated (n - length front) false ≡ limited m k
limited-front m front k p n at within is len = grind (arith, length-take, limited-kept, kept-cut, slice_get_within, count-trues, get_or_from_slice_get)
