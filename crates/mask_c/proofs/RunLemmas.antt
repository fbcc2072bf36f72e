-- Runs from an index on, one after another, as many as there is room for.
use Rattle.mask_c.proofs.Common.{◌≡◌, ℕ, suc, ◌+◌, ◌<◌, ◌≤◌, All, All-head, subst, Bool, List, [], ◌∷◌, ◌++◌, append_assoc, length, set, take, map, sym, ap, ◌∙◌, add-zero, arith, take-suc-set, length-map, map-append, runs_from, runs_from-moved, RowMaskRun}

-- a run as a pair
abbrev pub pair : RowMaskRun → ℕ × ℕ
pair r = (r.start, r.end)

abbrev pub run_of : ℕ → ℕ × ℕ → RowMaskRun
run_of from r = record { start = from + r.0; end = from + r.1 }

-- a run whose indices are counted from a value on
abbrev pub moved : ℕ → ℕ × ℕ → ℕ × ℕ
moved from r = (from + r.0, from + r.1)

-- one more
pub run_more : (from at : ℕ) (out : List RowMaskRun) (r : ℕ × ℕ) (left : List (ℕ × ℕ)) → at < length out
    → map pair (take (at + 1) (set out at (run_of from r))) ++ map (moved from) left ≡ map pair (take at out) ++ map (moved from) (r ∷ left)
run_more from at out r left inside =
    let next : at + 1 ≡ suc at = omega arith in
    ap (λ n. map pair (take n (set out at (run_of from r))) ++ map (moved from) left) next
    ∙ ap (λ (xs : List RowMaskRun). map pair xs ++ map (moved from) left) (take-suc-set out at (run_of from r) inside)
    ∙ ap (λ (xs : List (ℕ × ℕ)). xs ++ map (moved from) left) (map-append pair (take at out) (run_of from r ∷ []))
    ∙ append_assoc (map pair (take at out)) (pair (run_of from r) ∷ []) (map (moved from) left)

-- the runs of values of which the first has another index
pub moved_runs : (from : ℕ) (m : List Bool) → map (moved from) (runs_from 0 m) ≡ runs_from from m
moved_runs from m = sym (runs_from-moved from 0 m) ∙ ap (λ n. runs_from n m) (add-zero from)

pub length_moved : (from : ℕ) (m : List Bool) → length (runs_from 0 m) ≡ length (runs_from from m)
length_moved from m = sym (length-map (runs_from 0 m) (moved from)) ∙ ap length (moved_runs from m)

-- the first of runs that lie within n values
pub first_run : (rs rest : List (ℕ × ℕ)) (r : ℕ × ℕ) (n : ℕ) → rs ≡ r ∷ rest → All (λ (r : ℕ × ℕ). r.0 < r.1) rs → All (λ (r : ℕ × ℕ). r.1 ≤ n) rs → (r.0 < r.1) × (r.1 ≤ n)
first_run rs rest r n is nonempty within =
    (All-head (λ (r : ℕ × ℕ). r.0 < r.1) r rest (subst (All (λ (r : ℕ × ℕ). r.0 < r.1)) is nonempty), All-head (λ (r : ℕ × ℕ). r.1 ≤ n) r rest (subst (All (λ (r : ℕ × ℕ). r.1 ≤ n)) is within))
