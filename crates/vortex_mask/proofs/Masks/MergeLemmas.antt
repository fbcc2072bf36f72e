-- What is left of a list's ranges once each that touches the one before it has lengthened it: the runs.
use Rattle.vortex_mask.proofs.Common.{common_steps, ◌≡◌, ◌≢◌, ℕ, ◌+◌, ◌<◌, ◌||◌, Bool, true, false, nat_eq, List, [], ◌∷◌, length, refl, sym, ap, ◌∙◌, arith, subst, if◌then◌else◌, or_assoc, MatchBool, list_any, DedupsFrom, DedupsAll, IsDeduped, eqb-true, eqb-false, nat_tests, is_inside, AreRanges, runs, Ordered, Ordered-top, Ordered-of, Spread, runs_from-RunsOf}

-- ---- one range and the run before it

-- what a range x and the run k before it are after the test whether they touch, which answered b
pub record Lengthens (x k : ℕ × ℕ) (b : Bool) (x' k' : ℕ × ℕ) : Type 0 where
  pub touch : b ≡ nat_eq x.0 k.1
  pub range : x' ≡ x
  pub run : k' ≡ (if b then (k.0, x.1) else k)

-- the indices of two ranges that touch are those of one
inside_both : (i : ℕ) (k x : ℕ × ℕ) → k.0 < k.1 → x.0 < x.1 → x.0 ≡ k.1 → is_inside i (k.0, x.1) ≡ is_inside i k || is_inside i x
inside_both i k x some more touch = grind (arith, nat_tests)

-- ---- all ranges

-- these lie apart, with the indices of those
record IsMerged (low high : ℕ) (rs ys : List (ℕ × ℕ)) : Type 0 where
  spread : Spread low high ys
  same : (i : ℕ) → list_any (is_inside i) ys ≡ list_any (is_inside i) rs

-- two ranges that touch
merged_more : (low high : ℕ) (k x : ℕ × ℕ) (xs ys : List (ℕ × ℕ)) → k.0 < k.1 → x.0 < x.1 → x.0 ≡ k.1 → IsMerged low high ((k.0, x.1) ∷ xs) ys → IsMerged low high (k ∷ x ∷ xs) ys
merged_more low high k x xs ys some more touch is = grind (arith, inside_both, or_assoc)

-- two ranges with an index between them
merged_apart : (low high : ℕ) (k x : ℕ × ℕ) (xs zs : List (ℕ × ℕ)) → Ordered low high (k ∷ x ∷ xs) → IsMerged (k.1 + 1) high (x ∷ xs) zs → IsMerged low high (k ∷ x ∷ xs) (k ∷ zs)
merged_apart low high k x xs zs o is = grind (arith, Ordered-top)

module _ {S : Type 0} (R : S → ℕ × ℕ → ℕ × ℕ → Bool → S → ℕ × ℕ → ℕ × ℕ → Type 0)
    (told : (s : S) (x k : ℕ × ℕ) (b : Bool) (t : S) (x' k' : ℕ × ℕ) → R s x k b t x' k' → Lengthens x k b x' k') where
  -- one step, from what the steps past it leave
  step : (low high : ℕ) (t : S) (x k : ℕ × ℕ) (b : Bool) (x' k' : ℕ × ℕ) (xs ys : List (ℕ × ℕ)) → Ordered low high (k ∷ x ∷ xs) → Lengthens x k b x' k'
      → ((from : ℕ) (run : ℕ × ℕ) (zs : List (ℕ × ℕ)) → Ordered from high (run ∷ xs) → DedupsFrom R t run xs zs → IsMerged from high (run ∷ xs) zs)
      → MatchBool b (DedupsFrom R t k' xs ys) ((zs : List (ℕ × ℕ)) × DedupsFrom R t x' xs zs × (ys ≡ k' ∷ zs)) → IsMerged low high (k ∷ x ∷ xs) ys
  step low high t x k true x' k' xs ys o is past h =
      let touch : x.0 ≡ k.1 = eqb-true x.0 k.1 (sym is.touch) in
      merged_more low high k x xs ys o.1 o.2.1 touch
      (past low (k.0, x.1) ys (o.0, omega (arith, o.1, o.2.1), o.2.2) (subst (λ run. DedupsFrom R t run xs ys) is.run h))
  step low high t x k false x' k' xs ys o is past h =
      let differ : x.0 ≢ k.1 = eqb-false x.0 k.1 (sym is.touch) in
      let rest = past (k.1 + 1) x h.0 (omega (arith, o.2.0), o.2.1, o.2.2) (subst (λ run. DedupsFrom R t run xs h.0) is.range h.1) in
      let all : ys ≡ k ∷ h.0 = h.2 ∙ ap (λ run. run ∷ h.0) is.run in
      subst (IsMerged low high (k ∷ x ∷ xs)) (sym all) (merged_apart low high k x xs h.0 o rest)

  merged_from : (xs : List (ℕ × ℕ)) (low high : ℕ) (s : S) (k : ℕ × ℕ) (ys : List (ℕ × ℕ)) → Ordered low high (k ∷ xs) → DedupsFrom R s k xs ys → IsMerged low high (k ∷ xs) ys
  merged_from [] low high s k ys o h = subst (IsMerged low high (k ∷ [])) (sym h) (record { spread = (o.0, o.1, o.2, tt); same = λ i. refl })
  merged_from (x ∷ xs) low high s k ys o h = grind (arith, common_steps, step low high h.1 x k h.0 h.2 h.3 xs ys o (told s x k h.0 h.1 h.2 h.3 h.4) (λ from run zs o' g. merged_from xs from high h.1 run zs o' g) h.5)

  merged_all : (high : ℕ) (s : S) (rs ys : List (ℕ × ℕ)) → Ordered 0 high rs → DedupsAll R s rs ys → IsMerged 0 high rs ys
  merged_all high s [] ys o h = subst (IsMerged 0 high []) (sym h) (record { spread = tt; same = λ i. refl })
  merged_all high s (r ∷ rs) ys o h = merged_from rs 0 high s r ys o h

  -- what is left of ranges that hold exactly the true indices
  pub runs-merged : (s : S) (rs ys : List (ℕ × ℕ)) → IsDeduped R s rs ys → (m : List Bool) → AreRanges m rs → ys ≡ runs m
  runs-merged s rs ys h m are = grind (arith, common_steps, merged_all (length m) s rs ys (Ordered-of m rs are) h.told, Ordered-of m rs are, runs_from-RunsOf)
