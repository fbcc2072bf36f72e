-- Indices of 4 bytes.
use Rattle.mask_c.proofs.Common.{◌≡◌, ℕ, ◌+◌, ◌%◌, ◌^◌, ◌≤◌, inl, inr, Bool, true, false, List, [], ◌∷◌, length, drop, map, refl, sym, ap, ap₂, ◌∙◌, arith, cases_lt, drop_of_length-le, length-drop, bitmap, indices_from, length-bitmap}
use Rattle.std.proofs.Common.{mod-eq_of_lt}

-- nothing is lost of numbers below 2 to the 32
kept-below : (n : ℕ) (m : List Bool) → n + length m ≤ 2 ^ 32 → map (λ k. k % 2 ^ 32) (indices_from n m) ≡ indices_from n m
kept-below n [] fits = refl
kept-below n (true ∷ m) fits = ap₂ (λ (k : ℕ) (ks : List ℕ). k ∷ ks) (mod-eq_of_lt (omega (arith, fits))) (kept-below (n + 1) m (omega (arith, fits)))
kept-below n (false ∷ m) fits = kept-below (n + 1) m (omega (arith, fits))

-- nor of the indices of a bitmap from one on
pub indices_of_4_bytes : (bytes : List ℕ) (offset len from : ℕ) → len ≤ 2 ^ 32
    → map (λ k. k % 2 ^ 32) (indices_from from (drop from (bitmap bytes offset len))) ≡ indices_from from (drop from (bitmap bytes offset len))
indices_of_4_bytes bytes offset len from fits =
    let m : List Bool = bitmap bytes offset len in
    elim (cases_lt len from) [
      | inl past ↦ let none : drop from m ≡ [] = drop_of_length-le m (omega (arith, past, length-bitmap bytes offset len)) in ap (λ (xs : List Bool). map (λ k. k % 2 ^ 32) (indices_from from xs)) none ∙ sym (ap (indices_from from) none)
      | inr inside ↦ kept-below from (drop from m) (omega (arith, inside, fits, length-drop from m, length-bitmap bytes offset len))
    ]
