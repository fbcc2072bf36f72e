-- What a scan of a list from a place on passes over.
use Rattle.mask_bits.proofs.Common.{◌≡◌, ℕ, zero, suc, ◌+◌, ◌-◌, ◌<◌, ◌≤◌, Bool, true, false, List, ◌∷◌, length, get_or, drop, refl, ap, ◌∙◌, arith, drop_more, drop-drop, get_or-drop, get_or_past, length-drop, indices_from, runs_from, IsFirstFrom}
use Rattle.mask_bits.proofs.Lists.Runs.RunLemmas.{runs_from-front}

-- a function of the rest of a list that passes over a false value passes over k of them
pub skip : {X : Type 0} (F : ℕ → List Bool → X) → ((i : ℕ) (xs : List Bool) → F i (false ∷ xs) ≡ F (i + 1) xs) → (m : List Bool) (n k : ℕ) → n + k ≤ length m → ((i : ℕ) → n ≤ i → i < n + k → get_or m i false ≡ false) → F n (drop n m) ≡ F (n + k) (drop (n + k) m)
skip F pass m n zero fits clear = grind arith
skip F pass m n (suc k) fits clear =
    grind (arith, drop_more m n false, clear n, pass n (drop (n + 1) m), skip F pass m (n + 1) k (omega arith) (λ i from to. clear i (omega arith) (omega arith)))

-- up to the first true value
pub skip-first : {X : Type 0} (F : ℕ → List Bool → X) → ((i : ℕ) (xs : List Bool) → F i (false ∷ xs) ≡ F (i + 1) xs) → (m : List Bool) (n place : ℕ) → IsFirstFrom m n true place → F n (drop n m) ≡ F place (drop place m)
skip-first F pass m n place first =
    let to : n + (place - n) ≡ place = omega (arith, first.not_before) in
    grind (arith, skip F pass m n (place - n) (omega (arith, first.within, to)) (λ i from below. first.passed i from (omega (arith, to))), to)

-- the true value itself
drop-holds : (m : List Bool) (n place : ℕ) → IsFirstFrom m n true place → place < length m → drop place m ≡ true ∷ drop (place + 1) m
drop-holds m n place first within = grind (arith, drop_more)

pub indices_from-first : (m : List Bool) (n place : ℕ) → IsFirstFrom m n true place → place < length m → indices_from n (drop n m) ≡ place ∷ indices_from (place + 1) (drop (place + 1) m)
indices_from-first m n place first within = skip-first indices_from (λ _ _. refl) m n place first ∙ ap (indices_from place) (drop-holds m n place first within)

-- a run, from its first true value to the first false one past it
pub runs_from-first : (m : List Bool) (n start stop : ℕ) → IsFirstFrom m n true start → start < length m → IsFirstFrom m (start + 1) false stop → runs_from n (drop n m) ≡ (start, stop) ∷ runs_from stop (drop stop m)
runs_from-first m n start stop first within last =
    let k : ℕ = stop - (start + 1) in
    let rest : List Bool = drop start m in
    let far : start + (k + 1) ≡ stop = omega (arith, last.not_before) in
    let in_run : (j : ℕ) → j ≤ k → get_or rest j false ≡ true
    = λ j h. grind (arith, get_or-drop start m j false, first.holds within, last.passed (start + j), last.not_before) in
    let after : get_or rest (k + 1) false ≡ false = grind (arith, get_or-drop start m (k + 1) false, far, last.holds, get_or_past m stop false) in
    grind (arith, far, skip-first runs_from (λ _ _. refl) m n start first, runs_from-front start k rest (omega (arith, length-drop start m, last.within)) in_run after, drop-drop (k + 1) start m)
