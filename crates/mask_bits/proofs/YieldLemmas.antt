-- An iterator whose state shows the list that is left: it makes progress at each item, and each run of calls gives that list in order.
use Rattle.mask_bits.proofs.Common.{◌≡◌, ℕ, Bool, List, ◌∷◌, length, Some, ap, arith, MakesProgress, YieldsFirst, YieldsFirstBy, item_count, YieldsInOrder, EveryRun, ItemsMapTo, from_front, as_is, word_bits}

pub MakesProgress-item : {A B : Type 0} (s t : List A) (x : A) (r : B) → s ≡ x ∷ t → MakesProgress {S = List A} {A = B} (λ _. Unit {0}) (item_count {A = A} (λ s. s)) s (Some r) t
MakesProgress-item s t x r e = grind (arith)

pub in_order : {A : Type 0} → YieldsInOrder (YieldsFirst {A = A} (λ s. s)) (λ s. s)
in_order {A} p seen = as_is p p.from (from_front (YieldsFirst {A = A} (λ s. s)) (λ x. x) (λ s. s) (λ s t h. ap length h.0) (λ s x t h. h) p seen)

pub values_in_order : YieldsInOrder (YieldsFirst {A = Bool} (λ s. s)) (λ s. s)
values_in_order = in_order

pub indices_in_order : YieldsInOrder (YieldsFirst {A = ℕ} (λ s. s)) (λ s. s)
indices_in_order = in_order

pub ranges_in_order : YieldsInOrder (YieldsFirst {A = ℕ × ℕ} (λ s. s)) (λ s. s)
ranges_in_order = in_order

pub ruleset whole_walks = (values_in_order, indices_in_order, ranges_in_order)

pub words_in_order : EveryRun (YieldsFirstBy word_bits (λ s. s)) (λ p. ItemsMapTo p word_bits p.from)
words_in_order p seen = from_front (YieldsFirstBy word_bits (λ s. s)) word_bits (λ s. s) (λ s t h. ap length h.0) (λ s x t h. h) p seen

pub ruleset items = (MakesProgress-item)
