-- What a cached list says of true indices: the first and the last, and all of them by their runs; and a search for the first.
use Rattle.vortex_mask.proofs.Common.{◌≡◌, ℕ, zero, suc, ◌+◌, ◌-◌, ◌<◌, ◌≤◌, Bool, true, false, List, [], ◌∷◌, length, get_or, Some, slice_get, All, All-get_or, refl, sym, ap, ◌∙◌, arith, common_steps, runs, positions, count, indices_from, positions-within, slice_get-get_or, Packed, values, ranges_add_up_to_the_count, runs_are_ranges, AreRuns-runs_from, ◌++◌, append_assoc, sum_by, ◌⊎◌, inl, inr, range_with_len, nat_eq, cases_eq, eq-eqb, ne_eqb, All-cons, All-head, All-tail, All-nil}
use Rattle.mask_bits.proofs.Common.{runs_from, with_index, flat_map}
use Rattle.std.proofs.lemmas.Option.{get_or_from_slice_get, slice_get_within}
use Rattle.mask_bits.specs.Positions.{IsFirstFrom}
use Rattle.vortex_mask.specs.MaskValues.{Caches, AreOf, IsMixed}
use Rattle.vortex_mask.specs.Ranges.{rows_held}
use Rattle.std.proofs.lemmas.List.{flat_map_more}
use Rattle.std.proofs.lemmas.List.Sums.{sum_by_more, sum_by_more_le}
use Rattle.std.proofs.lemmas.Bool.{cond-true, cond-false}

-- ---- a true value in front of runs

-- it lengthens the first run, or is a run of its own
with_index-either : (n : ℕ) (r : ℕ × ℕ) (rs : List (ℕ × ℕ)) → ((r.0 ≡ n + 1) × (with_index n (r ∷ rs) ≡ (n, r.1) ∷ rs)) ⊎ (with_index n (r ∷ rs) ≡ (n, n + 1) ∷ r ∷ rs)
with_index-either n r rs = elim (cases_eq r.0 (n + 1)) [
  | inl same ↦ inl (same, cond-true (nat_eq r.0 (n + 1)) ((n, r.1) ∷ rs) ((n, n + 1) ∷ r ∷ rs) (eq-eqb r.0 (n + 1) same))
  | inr apart ↦ inr (cond-false (nat_eq r.0 (n + 1)) ((n, r.1) ∷ rs) ((n, n + 1) ∷ r ∷ rs) (ne_eqb r.0 (n + 1) apart))
]

first-with_index : (n : ℕ) (rs : List (ℕ × ℕ)) (d : ℕ × ℕ) → (get_or (with_index n rs) 0 d).0 ≡ n
first-with_index n [] d = refl
first-with_index n (r ∷ rs) d = elim (with_index-either n r rs) [ inl w ↦ rw w.1 refl | inr e ↦ rw e refl ]

last-joined : (n : ℕ) (r : ℕ × ℕ) (rs : List (ℕ × ℕ)) (d : ℕ × ℕ) → (get_or ((n, r.1) ∷ rs) (length rs) d).1 ≡ (get_or (r ∷ rs) (length rs) d).1
last-joined n r [] d = refl
last-joined n r (s ∷ rs) d = refl

last-with_index : (n : ℕ) (r : ℕ × ℕ) (rs : List (ℕ × ℕ)) (d : ℕ × ℕ)
    → (get_or (with_index n (r ∷ rs)) (length (with_index n (r ∷ rs)) - 1) d).1 ≡ (get_or (r ∷ rs) (length (r ∷ rs) - 1) d).1
last-with_index n r rs d = elim (with_index-either n r rs) [
  | inl w ↦ rw w.1 (grind (arith, last-joined n r rs d))
  | inr e ↦ rw e (grind arith)
]

some-with_index : (n : ℕ) (rs : List (ℕ × ℕ)) → 0 < length (with_index n rs)
some-with_index n [] = omega arith
some-with_index n (r ∷ rs) = elim (with_index-either n r rs) [ inl w ↦ rw w.1 (omega arith) | inr e ↦ rw e (omega arith) ]

-- ---- the ends of a list's runs

-- a list has a run where it has a true value
some_run : (n : ℕ) (m : List Bool) → 0 < length (indices_from n m) → 0 < length (runs_from n m)
some_run n [] some = some
some_run n (true ∷ m) some = some-with_index n (runs_from (n + 1) m)
some_run n (false ∷ m) some = some_run (n + 1) m some

-- and a true value where it has a run
some_index : (n : ℕ) (m : List Bool) → 0 < length (runs_from n m) → 0 < length (indices_from n m)
some_index n [] some = some
some_index n (true ∷ m) some = omega arith
some_index n (false ∷ m) some = some_index (n + 1) m some

-- the first run begins at the first true index
first_run : (n : ℕ) (m : List Bool) (d : ℕ × ℕ) → 0 < length (indices_from n m) → slice_get (indices_from n m) 0 ≡ Some (get_or (runs_from n m) 0 d).0
first_run n [] d some = absurd (omega arith)
first_run n (true ∷ m) d some = ap Some (sym (first-with_index n (runs_from (n + 1) m) d))
first_run n (false ∷ m) d some = first_run (n + 1) m d some

-- an entry more in front leaves the last one
last_past : (n p : ℕ) (ps : List ℕ) → slice_get (n ∷ p ∷ ps) (length (n ∷ p ∷ ps) - 1) ≡ slice_get (p ∷ ps) (length (p ∷ ps) - 1)
last_past n p ps = grind arith

-- past a true value in front, the last run ends where it did, or right behind that value where it is the only one
last_with : (n : ℕ) (ps : List ℕ) (rs : List (ℕ × ℕ)) (d : ℕ × ℕ) → (0 < length rs → 0 < length ps) → (0 < length ps → 0 < length rs)
    → (0 < length ps → slice_get ps (length ps - 1) ≡ Some ((get_or rs (length rs - 1) d).1 - 1))
    → slice_get (n ∷ ps) (length (n ∷ ps) - 1) ≡ Some ((get_or (with_index n rs) (length (with_index n rs) - 1) d).1 - 1)
last_with n [] [] d run index rest = grind arith
last_with n [] (r ∷ rs) d run index rest = absurd (omega (arith, run (omega arith)))
last_with n (p ∷ ps) [] d run index rest = absurd (omega (arith, index (omega arith)))
last_with n (p ∷ ps) (r ∷ rs) d run index rest = last_past n p ps ∙ rest (omega arith) ∙ ap (λ e. Some (e - 1)) (sym (last-with_index n r rs d))

-- the last run ends right behind the last true index
last_run : (n : ℕ) (m : List Bool) (d : ℕ × ℕ) → 0 < length (indices_from n m)
    → slice_get (indices_from n m) (length (indices_from n m) - 1) ≡ Some ((get_or (runs_from n m) (length (runs_from n m) - 1) d).1 - 1)
last_run n [] d some = absurd (omega arith)
last_run n (true ∷ m) d some = last_with n (indices_from (n + 1) m) (runs_from (n + 1) m) d (some_index (n + 1) m) (some_run (n + 1) m) (last_run (n + 1) m d)
last_run n (false ∷ m) d some = last_run (n + 1) m d some

-- ---- no run is empty

nonempty-with_index : (n : ℕ) (rs : List (ℕ × ℕ)) → All (λ r. r.0 < r.1) rs → All (λ r. r.0 < r.1) (with_index n rs)
nonempty-with_index n [] all = All-cons (λ r. r.0 < r.1) (n, n + 1) [] (omega arith) (All-nil (λ r. r.0 < r.1))
nonempty-with_index n (r ∷ rs) all = elim (with_index-either n r rs) [
  | inl w ↦ rw w.1 (All-cons (λ r. r.0 < r.1) (n, r.1) rs (let here = All-head (λ r. r.0 < r.1) r rs all in omega (arith, w.0, here)) (All-tail (λ r. r.0 < r.1) r rs all))
  | inr e ↦ rw e (All-cons (λ r. r.0 < r.1) (n, n + 1) (r ∷ rs) (omega arith) all)
]

runs-nonempty : (n : ℕ) (m : List Bool) → All (λ r. r.0 < r.1) (runs_from n m)
runs-nonempty n [] = All-nil (λ r. r.0 < r.1)
runs-nonempty n (true ∷ m) = nonempty-with_index n (runs_from (n + 1) m) (runs-nonempty (n + 1) m)
runs-nonempty n (false ∷ m) = runs-nonempty (n + 1) m

-- ---- the ends of a cached list

-- a buffer of mixed values has a true one
pub mixed-some : (buffer held : Packed) (n : ℕ) → buffer ≡ held → IsMixed buffer n → 0 < count (values held)
mixed-some buffer held n same mixed = rw (sym same) (omega (arith, mixed.counted, mixed.some_true))

-- cached ranges are the runs
pub cached-runs : (m : List Bool) (cached : Caches) (rs : List (ℕ × ℕ)) → Some rs ≡ cached.ranges → AreOf m cached → rs ≡ runs m
cached-runs m cached rs is are = are.ranges rs (sym is)

pub runs-some : (m : List Bool) (rs : List (ℕ × ℕ)) → rs ≡ runs m → 0 < count m → 0 < length rs
runs-some m rs are some = rw are (some_run 0 m some)

pub runs-first : (m : List Bool) (rs : List (ℕ × ℕ)) (d : ℕ × ℕ) → rs ≡ runs m → 0 < count m → slice_get (positions m) 0 ≡ Some (get_or rs 0 d).0
runs-first m rs d are some = rw are (first_run 0 m d some)

pub runs-last : (m : List Bool) (rs : List (ℕ × ℕ)) (d : ℕ × ℕ) → rs ≡ runs m → 0 < count m → slice_get (positions m) (count m - 1) ≡ Some ((get_or rs (length rs - 1) d).1 - 1)
runs-last m rs d are some = rw are (last_run 0 m d some)

-- a run ends past an index
pub runs-end : (m : List Bool) (rs : List (ℕ × ℕ)) (d : ℕ × ℕ) → rs ≡ runs m → 0 < count m → 0 < (get_or rs (length rs - 1) d).1
runs-end m rs d are some = rw are (let first = runs-nonempty 0 m (length (runs m) - 1) d (omega (arith, some_run 0 m some)) in omega (arith, first))

-- ---- a search for the first true value

first_from : (n i : ℕ) (m : List Bool) → 0 < length (indices_from n m) → ((j : ℕ) → j < i → get_or m j false ≡ false) → (i < length m → get_or m i false ≡ true)
    → i ≤ length m → slice_get (indices_from n m) 0 ≡ Some (n + i)
first_from n i [] some passed holds within = absurd (omega arith)
first_from n zero (true ∷ m) some passed holds within = grind arith
first_from n (suc i) (true ∷ m) some passed holds within = grind (arith, passed 0)
first_from n zero (false ∷ m) some passed holds within = grind arith
first_from n (suc i) (false ∷ m) some passed holds within =
    grind (arith, first_from (n + 1) i m some (λ j h. passed (suc j) (omega arith)) (λ h. holds (omega arith)) (omega arith))

pub first-found : (m : List Bool) (i : ℕ) → IsFirstFrom m 0 true i → 0 < count m → slice_get (positions m) 0 ≡ Some i
first-found m i found some = grind (arith, first_from 0 i m some (λ j h. found.passed j (omega arith) h) found.holds found.within)

-- a true index is within the list
pub index-within : (m : List Bool) (k p : ℕ) → slice_get (positions m) k ≡ Some p → p < length m
index-within m k p is = grind (arith, is, slice_get_within (positions m) k p is, positions-within m k 0, get_or_from_slice_get (positions m) k p 0 is)

-- ---- all true indices, by their runs

-- the indices in a range
abbrev pub inside : ℕ × ℕ → List ℕ
inside r = range_with_len r.0 (r.1 - r.0)

-- one more index in front of a range
inside-joined : (n : ℕ) (r : ℕ × ℕ) → r.0 ≡ n + 1 → r.0 < r.1 → inside (n, r.1) ≡ n ∷ inside r
inside-joined n r begins some = grind (arith, common_steps)

inside-with_index : (n : ℕ) (rs : List (ℕ × ℕ)) → All (λ r. r.0 < r.1) rs → flat_map inside (with_index n rs) ≡ n ∷ flat_map inside rs
inside-with_index n [] all = grind (arith, common_steps)
inside-with_index n (r ∷ rs) all = elim (with_index-either n r rs) [
  | inl w ↦ rw w.1 (grind (arith, common_steps, inside-joined n r, w.0, All-head (λ r. r.0 < r.1) r rs all))
  | inr e ↦ rw e (grind (arith, common_steps))
]

inside-runs : (n : ℕ) (m : List Bool) → flat_map inside (runs_from n m) ≡ indices_from n m
inside-runs n [] = refl
inside-runs n (true ∷ m) = inside-with_index n (runs_from (n + 1) m) (runs-nonempty (n + 1) m) ∙ ap (λ ps. n ∷ ps) (inside-runs (n + 1) m)
inside-runs n (false ∷ m) = inside-runs (n + 1) m

-- as many as the runs hold, which is as many as values are true
pub runs-hold : (m : List Bool) (rs : List (ℕ × ℕ)) (n : ℕ) → rs ≡ runs m → n ≡ count m → rows_held rs ≡ n
runs-hold m rs n are counted = rw are (ranges_add_up_to_the_count m (runs m) (runs_are_ranges m (runs m) (AreRuns-runs_from m)) ∙ sym counted)

pub inside-cached : (m : List Bool) (rs : List (ℕ × ℕ)) → rs ≡ runs m → flat_map inside rs ≡ positions m
inside-cached m rs are = rw are (inside-runs 0 m)

pub nonempty-cached : (m : List Bool) (rs : List (ℕ × ℕ)) → rs ≡ runs m → All (λ r. r.0 < r.1) rs
nonempty-cached m rs are = rw are (runs-nonempty 0 m)

-- ---- indices that are pushed one after another

range-more : (a n j : ℕ) → j ≡ a + n → range_with_len a (n + 1) ≡ range_with_len a n ++ j ∷ []
range-more a zero j e = grind arith
range-more a (suc n) j e = grind (arith, range-more (a + 1) n j)

-- one index more behind others
pub pushed-more : (before : List ℕ) (a j : ℕ) → a ≤ j → (before ++ range_with_len a (j - a)) ++ j ∷ [] ≡ before ++ range_with_len a (j + 1 - a)
pushed-more before a j from = grind (arith, range-more a (j - a) j, append_assoc)

pub ruleset inside_facts = (common_steps, pushed-more, sum_by_more, sum_by_more_le, flat_map_more)

pub ruleset lookup_facts = (slice_get-get_or, runs-some, runs-first, runs-last, runs-end, first-found, index-within)
