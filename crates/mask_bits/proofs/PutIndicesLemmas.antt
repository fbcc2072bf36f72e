-- Indices that are put into room, as far as that reaches.
use Rattle.mask_bits.proofs.Common.{◌≡◌, ℕ, ◌<◌, inl, inr, List, length, take, min, sym, ap, ◌∙◌, arith, cases_lt, take_all, count, word_bits}
use Rattle.mask_bits.proofs.Lists.Places.PushLemmas.{no_places}

-- what has a set bit is not 0
pub some_bits : (w : ℕ) → 0 < count (word_bits w) → 0 < w
some_bits w some = elim (cases_lt 0 w) [
  | inl above ↦ above
  | inr zero ↦ omega (arith, some, ap length (no_places w (omega arith)))
]

-- as many as there is room for
pub as_many : {X : Type 0} (n e : ℕ) (xs : List X) → e ≡ min n (length xs) → take e xs ≡ take n xs
as_many n e xs is = elim (cases_lt (length xs) n) [
  | inl over ↦ take_all e xs (omega (arith, is)) ∙ sym (take_all n xs (omega arith))
  | inr full ↦ ap (λ k. take k xs) (omega (arith, is))
]
