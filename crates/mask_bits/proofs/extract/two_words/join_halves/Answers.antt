use Rattle.mask_bits.proofs.Common.{ℕ, inl, inr, [], ◌∷◌, ◌≡◌, ◌+◌, ◌*◌, ◌/◌, ◌%◌, ◌^◌, ◌<◌, arith, ap, ◌∙◌, sym, refl, subst, get_or, w32, count_ones, digits_l, cases_lt, below_from_Fits, AreLanes}
use Rattle.mask_bits.proofs.Lists.Words.LaneLemmas.{AreLanes-itself}
use Rattle.mask_bits.proofs.Lists.Words.WideLaneLemmas.{AreLanes-wider, through_bytes, wide_lane-fits}
use Rattle.mask_bits.proofs.extract.two_words.join_halves.Goals as goal

-- the halves of a word, with the upper one behind the bits of the lower one
halves_joined : (x y z n : ℕ) → x < 2 ^ 32 → z ≡ x + y * 2 ^ 32 → (z % 2 ^ 32 + z / 2 ^ 32 * 2 ^ n) % 2 ^ 64 ≡ (x + y * 2 ^ n) % 2 ^ 64
halves_joined x y z n fits is = grind arith

pub returns : goal.returns
returns c =
    let xs = c.args.halves in
    let fits = λ (j : ℕ) (h : j < 4). wide_lane-fits w32 4 xs j c.fits-halves h in
    let words = subst (λ n. AreLanes 2 (digits_l (2 ^ 64) 2 n) (λ j. get_or xs (2 * j) 0 + get_or xs (2 * j + 1) 0 * 2 ^ 32))
    (sym (through_bytes (2 ^ 32) 16 xs (omega arith) (below_from_Fits w32 xs c.fits-halves.1) (ap (λ n. (2 ^ 32) ^ n) c.fits-halves.0)))
    (AreLanes-wider {n = 2} (2 ^ 32) (2 ^ 64) refl (AreLanes-itself 4 xs c.fits-halves.0) fits) in
    λ k h. elim (cases_lt k 1) [
      | inl first ↦
          let none : k ≡ 0 = omega arith in
          subst (λ i. get_or (c.join_half.result ∷ c.join_half-2.result ∷ []) i 0 ≡ (get_or xs (2 * i) 0 + get_or xs (2 * i + 1) 0 * 2 ^ count_ones (get_or c.args.masks i 0 % 2 ^ 32)) % 2 ^ 64) (sym none)
          (c.join_half.ensures ∙ halves_joined (get_or xs 0 0) (get_or xs 1 0) _ (count_ones (get_or c.args.masks 0 0 % 2 ^ 32)) (fits 0 (omega arith)) (words.each 0 (omega arith)))
      | inr later ↦
          let one : k ≡ 1 = omega arith in
          subst (λ i. get_or (c.join_half.result ∷ c.join_half-2.result ∷ []) i 0 ≡ (get_or xs (2 * i) 0 + get_or xs (2 * i + 1) 0 * 2 ^ count_ones (get_or c.args.masks i 0 % 2 ^ 32)) % 2 ^ 64) (sym one)
          (c.join_half-2.ensures ∙ halves_joined (get_or xs 2 0) (get_or xs 3 0) _ (count_ones (get_or c.args.masks 1 0 % 2 ^ 32)) (fits 2 (omega arith)) (words.each 1 (omega arith)))
    ]
