-- The runs of a list: there is one list of them, and the scan finds it.
use Rattle.mask_bits.proofs.Common.{◌≡◌, ◌≢◌, ℕ, zero, suc, ◌+◌, ◌<◌, ◌≤◌, ◌&&◌, ◌||◌, Bool, true, false, nat_eq, List, [], ◌∷◌, length, get_or, drop, map, refl, sym, ap, ◌∙◌, inl, inr, arith, add-one, nat_le, nat_lt, cases_eq, ne_eqb, le-leb, lt-ltb, le-ltb, and_from, and_right, or_left, cond-true, cond-false, true≢false, AllAdjacentBelow, list_any, is_inside, AreRuns, with_index, runs_from, eq-eqb, All}
use Rattle.mask_bits.specs.Laws.Runs.{RunsExist, RunsAreUnique, RunsAreRanges}

-- ---- one range

-- a place from the first on and before the end is inside
pub inside : (i : ℕ) (r : ℕ × ℕ) → r.0 ≤ i → i < r.1 → is_inside i r ≡ true
inside i r low high = and_from (nat_le r.0 i) (nat_lt i r.1) (le-leb r.0 i low) (lt-ltb i r.1 high)

-- nor is a place past the end
pub inside-past : (i : ℕ) (r : ℕ × ℕ) → r.1 ≤ i → is_inside i r ≡ false
inside-past i r h = and_right (nat_le r.0 i) (nat_lt i r.1) (le-ltb i r.1 h)

-- ---- ranges that lie apart, by recursion

-- nonempty ranges from low to high, with a place between each and the next
abbrev pub Spread : ℕ → ℕ → List (ℕ × ℕ) → Type 0
Spread low high [] = Unit {0}
Spread low high (r ∷ rs) = (low ≤ r.0) × (r.0 < r.1) × (r.1 ≤ high) × Spread (r.1 + 1) high rs

-- the runs of a list whose first place is n, and whose end is high
pub record RunsOf (n high : ℕ) (m : List Bool) (rs : List (ℕ × ℕ)) : Type 0 where
  pub top : high ≡ n + length m
  pub spread : Spread n high rs
  pub exact : (i j : ℕ) → i ≡ n + j → j < length m → get_or m j false ≡ list_any (is_inside i) rs

-- a lower bound may be lowered
Spread-lower : (a b high : ℕ) (rs : List (ℕ × ℕ)) → a ≤ b → Spread b high rs → Spread a high rs
Spread-lower a b high [] h s = tt
Spread-lower a b high (r ∷ rs) h s = (omega arith, s.1, s.2, s.3)

-- no place below the lower bound is inside
any_below : (low high i : ℕ) (rs : List (ℕ × ℕ)) → Spread low high rs → i < low → list_any (is_inside i) rs ≡ false
any_below low high i [] s h = refl
any_below low high i (r ∷ rs) s h = grind (arith, any_below (r.1 + 1) high i rs s.3 (omega arith))

-- ---- the scan finds runs

-- a false value in front
RunsOf-false : (n high : ℕ) (m : List Bool) (rs : List (ℕ × ℕ)) → RunsOf (n + 1) high m rs → RunsOf n high (false ∷ m) rs
RunsOf-false n high m rs of = grind (arith, Spread-lower, any_below)

-- a true value in front that is a run of its own
RunsOf-alone : (n high : ℕ) (m : List Bool) (rs : List (ℕ × ℕ)) → Spread ((n + 1) + 1) high rs → RunsOf (n + 1) high m rs → RunsOf n high (true ∷ m) ((n, n + 1) ∷ rs)
RunsOf-alone n high m rs s of = grind arith

-- from the first place on, a range's first place does not matter
inside-lengthened : (i n : ℕ) (r : ℕ × ℕ) → n ≤ i → r.0 ≤ i → is_inside i (n, r.1) ≡ is_inside i r
inside-lengthened i n r h h' = ap (λ b. b && nat_lt i r.1) (le-leb n i h ∙ sym (le-leb r.0 i h'))

-- a true value in front
RunsOf-true : (n high : ℕ) (m : List Bool) (rs : List (ℕ × ℕ)) → RunsOf (n + 1) high m rs → RunsOf n high (true ∷ m) (with_index n rs)
RunsOf-true n high m [] of = RunsOf-alone n high m [] tt of
RunsOf-true n high m (r ∷ rs) of = grind arith

-- the scan's runs
RunsOf-runs_from : (n high : ℕ) (m : List Bool) → high ≡ n + length m → RunsOf n high m (runs_from n m)
RunsOf-runs_from n high [] e = record { top = e; spread = tt; exact = λ i j same h. refl }
RunsOf-runs_from n high (true ∷ m) e = RunsOf-true n high m (runs_from (n + 1) m) (RunsOf-runs_from (n + 1) high m (omega arith))
RunsOf-runs_from n high (false ∷ m) e = RunsOf-false n high m (runs_from (n + 1) m) (RunsOf-runs_from (n + 1) high m (omega arith))

-- ---- runs are what the scan finds

-- past a false value
RunsOf-past_false : (n high : ℕ) (m : List Bool) (rs : List (ℕ × ℕ)) → RunsOf n high (false ∷ m) rs → RunsOf (n + 1) high m rs
RunsOf-past_false n high m [] of = record { top = omega arith; spread = tt; exact = λ i j e h. of.exact i (suc j) (omega arith) (omega arith) }
RunsOf-past_false n high m (r ∷ rs) of =
    let s : Spread n high (r ∷ rs) = of.spread in
    let missed : false ≡ list_any (is_inside n) (r ∷ rs) = of.exact n 0 (omega arith) (omega arith) in
    let later : n + 1 ≤ r.0 = grind (arith, s.0, s.1, missed, or_left (is_inside n r) (list_any (is_inside n) rs), inside n r) in
    record { top = omega arith; spread = (later, s.1, s.2, s.3); exact = λ i j e h. of.exact i (suc j) (omega arith) (omega arith) }

-- past a true value that is a run of its own
RunsOf-past_alone : (n high : ℕ) (m : List Bool) (r : ℕ × ℕ) (rs : List (ℕ × ℕ)) → r.1 ≡ n + 1 → RunsOf n high (true ∷ m) (r ∷ rs) → RunsOf (n + 1) high m rs
RunsOf-past_alone n high m r rs stops of =
    let s : Spread n high (r ∷ rs) = of.spread in
    record {
      top = omega arith;
      spread = Spread-lower (n + 1) (r.1 + 1) high rs (omega arith) s.3;
      exact = λ i j e h. of.exact i (suc j) (omega arith) (omega arith) ∙ ap (λ b. b || list_any (is_inside i) rs) (inside-past i r (omega arith));
    }

-- past a true value that begins a longer run
RunsOf-past_longer : (n high : ℕ) (m : List Bool) (r : ℕ × ℕ) (rs : List (ℕ × ℕ)) → r.0 ≡ n → r.1 ≢ n + 1 → RunsOf n high (true ∷ m) (r ∷ rs) → RunsOf (n + 1) high m ((n + 1, r.1) ∷ rs)
RunsOf-past_longer n high m r rs starts stops of =
    let s : Spread n high (r ∷ rs) = of.spread in
    record {
      top = omega arith;
      spread = (omega arith, omega arith, s.2, s.3);
      exact = λ i j e h. of.exact i (suc j) (omega arith) (omega arith) ∙ sym (ap (λ b. b || list_any (is_inside i) rs) (inside-lengthened i (n + 1) r (omega arith) (omega arith)));
    }

-- in front of runs that begin later, a true value is a run of its own
with_index-alone : (n high : ℕ) (rs : List (ℕ × ℕ)) → Spread ((n + 1) + 1) high rs → with_index n rs ≡ (n, n + 1) ∷ rs
with_index-alone n high [] s = refl
with_index-alone n high (r ∷ rs) s = cond-false (nat_eq r.0 (n + 1)) ((n, r.1) ∷ rs) ((n, n + 1) ∷ r ∷ rs) (ne_eqb r.0 (n + 1) (λ same. omega arith))

-- and it lengthens a run that begins right after it
pub with_index-longer : (n e : ℕ) (rs : List (ℕ × ℕ)) → with_index n ((n + 1, e) ∷ rs) ≡ (n, e) ∷ rs
with_index-longer n e rs = cond-true (nat_eq (n + 1) (n + 1)) ((n, e) ∷ rs) ((n, n + 1) ∷ (n + 1, e) ∷ rs) (eq-eqb (n + 1) (n + 1) refl)

-- runs behind which the scan has found those past the first place, a true one
from_rest : (n high : ℕ) (m : List Bool) (rs : List (ℕ × ℕ)) → RunsOf n high (true ∷ m) rs
    → ((ss : List (ℕ × ℕ)) → RunsOf (n + 1) high m ss → ss ≡ runs_from (n + 1) m) → rs ≡ with_index n (runs_from (n + 1) m)
from_rest n high m [] of rest = absurd (true≢false (of.exact n 0 (omega arith) (omega arith)))
from_rest n high m (r ∷ rs) of rest =
    let s : Spread n high (r ∷ rs) = of.spread in
    let found : true ≡ list_any (is_inside n) (r ∷ rs) = of.exact n 0 (omega arith) (omega arith) in
    let starts : r.0 ≡ n = elim (cases_eq r.0 n) [
      | inl same ↦ same
      | inr apart ↦ absurd (true≢false (found ∙ any_below (n + 1) high n (r ∷ rs) (omega arith, s.1, s.2, s.3) (omega arith)))
    ] in
    elim (cases_eq r.1 (n + 1)) [
      | inl stops ↦ grind (arith, with_index-alone n high rs (Spread-lower ((n + 1) + 1) (r.1 + 1) high rs (omega arith) s.3), rest rs (RunsOf-past_alone n high m r rs stops of))
      | inr longer ↦ grind (arith, with_index-longer n r.1 rs, rest ((n + 1, r.1) ∷ rs) (RunsOf-past_longer n high m r rs starts longer of))
    ]

-- runs are the scan's
pub runs_from-RunsOf : (n high : ℕ) (m : List Bool) (rs : List (ℕ × ℕ)) → RunsOf n high m rs → rs ≡ runs_from n m
runs_from-RunsOf n high [] [] of = refl
runs_from-RunsOf n high [] (r ∷ rs) of = grind arith
runs_from-RunsOf n high (true ∷ m) rs of = from_rest n high m rs of (λ ss is. runs_from-RunsOf (n + 1) high m ss is)
runs_from-RunsOf n high (false ∷ m) rs of = runs_from-RunsOf (n + 1) high m rs (RunsOf-past_false n high m rs of)

-- ---- the two forms of a list's runs

-- apart ranges, by recursion
Spread-from : (low high : ℕ) (rs : List (ℕ × ℕ)) → ((k : ℕ) (d : ℕ × ℕ) → k < 1 → k < length rs → low ≤ (get_or rs k d).0)
    → All (λ r. r.0 < r.1) rs → All (λ r. r.1 ≤ high) rs → AllAdjacentBelow (λ r s. r.1 < s.0) rs (length rs) → Spread low high rs
Spread-from low high [] first nonempty within apart = tt
Spread-from low high (r ∷ rs) first nonempty within apart = (
  first 0 r (omega arith) (omega arith),
  nonempty 0 r (omega arith),
  within 0 r (omega arith),
  Spread-from (r.1 + 1) high rs (λ k d below h. grind (arith, apart 0 d)) (λ k d h. nonempty (suc k) d (omega arith))
      (λ k d h. within (suc k) d (omega arith)) (λ k d h. grind (arith, apart (suc k) d)),
)

-- each is nonempty
Spread-nonempty : (low high : ℕ) (rs : List (ℕ × ℕ)) → Spread low high rs → All (λ r. r.0 < r.1) rs
Spread-nonempty low high [] s k d h = absurd (omega arith)
Spread-nonempty low high (r ∷ rs) s k d h = grind (arith, Spread-nonempty (r.1 + 1) high rs)

-- each ends within
Spread-within : (low high : ℕ) (rs : List (ℕ × ℕ)) → Spread low high rs → All (λ r. r.1 ≤ high) rs
Spread-within low high [] s k d h = absurd (omega arith)
Spread-within low high (r ∷ rs) s k d h = grind (arith, Spread-within (r.1 + 1) high rs)

-- the first begins at the lower bound or later
Spread-first : (low high : ℕ) (rs : List (ℕ × ℕ)) → Spread low high rs → (d : ℕ × ℕ) → 0 < length rs → low ≤ (get_or rs 0 d).0
Spread-first low high [] s d h = absurd (omega arith)
Spread-first low high (r ∷ rs) s d h = s.0

-- each ends before the next begins
Spread-apart : (low high : ℕ) (rs : List (ℕ × ℕ)) → Spread low high rs → (k : ℕ) (d : ℕ × ℕ) → suc k < length rs → (get_or rs k d).1 < (get_or rs (suc k) d).0
Spread-apart low high [] s k d h = absurd (omega arith)
Spread-apart low high (r ∷ rs) s k d h = grind (arith, Spread-first, Spread-apart (r.1 + 1) high rs)

-- the scan finds runs
pub AreRuns-runs_from : (m : List Bool) → AreRuns m (runs_from 0 m)
AreRuns-runs_from m =
    let of : RunsOf 0 (length m) m (runs_from 0 m) = RunsOf-runs_from 0 (length m) m (omega arith) in
    record {
      nonempty = Spread-nonempty 0 (length m) (runs_from 0 m) of.spread;
      within = Spread-within 0 (length m) (runs_from 0 m) of.spread;
      apart = λ k d h. rw add-one (Spread-apart 0 (length m) (runs_from 0 m) of.spread k d (omega arith));
      exact = λ i h. of.exact i i (omega arith) h;
    }

-- runs are what the scan finds
pub runs_from-AreRuns : (m : List Bool) (rs : List (ℕ × ℕ)) → AreRuns m rs → rs ≡ runs_from 0 m
runs_from-AreRuns m rs are =
    runs_from-RunsOf 0 (length m) m rs (record {
      top = omega arith;
      spread = Spread-from 0 (length m) rs (λ k d first h. omega arith) are.nonempty are.within are.apart;
      exact = λ i j e h. grind (arith, are.exact j h);
    })

pub runs_exist : RunsExist
runs_exist m = (runs_from 0 m, AreRuns-runs_from m)

pub runs_are_unique : RunsAreUnique
runs_are_unique m rs ss are others = runs_from-AreRuns m rs are ∙ sym (runs_from-AreRuns m ss others)

pub runs_are_ranges : RunsAreRanges
runs_are_ranges m rs are = grind arith

-- the run at the front, with its end and the number of its values as variables
front : (n k e : ℕ) (m : List Bool) → e ≡ n + k + 1 → k < length m → ((j : ℕ) → j ≤ k → get_or m j false ≡ true) → get_or m (suc k) false ≡ false → runs_from n m ≡ (n, e) ∷ runs_from e (drop (suc k) m)
front n k e [] len within all_true ends = absurd (omega arith)
front n k e (false ∷ m) len within all_true ends = absurd (true≢false (sym (all_true 0 (omega arith))))
front n zero e (true ∷ []) len within all_true ends = grind arith
front n zero e (true ∷ true ∷ m) len within all_true ends = cc
front n zero e (true ∷ false ∷ m) len within all_true ends =
    let past = RunsOf-runs_from ((n + 1) + 1) ((n + 1) + 1 + length m) m refl in
    grind (arith, with_index-alone n ((n + 1) + 1 + length m) (runs_from ((n + 1) + 1) m) past.spread)
front n (suc k) e (true ∷ m) len within all_true ends =
    grind (arith, front (n + 1) k e m (omega arith) (omega arith) (λ j h. all_true (suc j) (omega arith)) ends, with_index-longer n e (runs_from e (drop (suc k) m)))

-- a run at the front: from n on, k + 1 true values and then a false one or the end
pub runs_from-front : (n k : ℕ) (m : List Bool) → k < length m → ((j : ℕ) → j ≤ k → get_or m j false ≡ true) → get_or m (k + 1) false ≡ false → runs_from n m ≡ (n, n + k + 1) ∷ runs_from (n + k + 1) (drop (k + 1) m)
runs_from-front n k m within all_true ends = grind (arith, front)

length-runs_from : (n : ℕ) (m : List Bool) → length (runs_from n m) ≤ length m
length-runs_from n [] = omega arith
length-runs_from n (v ∷ m) = grind (arith, length-runs_from (n + 1) m)

pub length-AreRuns : (m : List Bool) (rs : List (ℕ × ℕ)) → AreRuns m rs → length rs ≤ length m
length-AreRuns m rs are = omega (arith, ap length (runs_from-AreRuns m rs are), length-runs_from 0 m)

-- ---- a list whose first index is k more

with_index-moved : (k n : ℕ) (rs : List (ℕ × ℕ)) → with_index (k + n) (map (λ r. (k + r.0, k + r.1)) rs) ≡ map (λ r. (k + r.0, k + r.1)) (with_index n rs)
with_index-moved k n [] = grind arith
with_index-moved k n (r ∷ rs) = grind arith

pub runs_from-moved : (k n : ℕ) (m : List Bool) → runs_from (k + n) m ≡ map (λ r. (k + r.0, k + r.1)) (runs_from n m)
runs_from-moved k n [] = refl
runs_from-moved k n (true ∷ m) = grind (arith, runs_from-moved k (n + 1) m, with_index-moved k n (runs_from (n + 1) m))
runs_from-moved k n (false ∷ m) = grind (arith, runs_from-moved k (n + 1) m)
