-- The values of a bitmap at a list of indices, as they are put into words.
use Rattle.mask_c.proofs.Common.{common_steps, ◌≡◌, ℕ, ◌+◌, ◌-◌, ◌<◌, Bool, false, List, [], ◌∷◌, ◌++◌, cons_option, length, get_or, set, take, drop, map, slice_get, slice_range, refl, sym, ap, ap₂, ◌∙◌, arith, cases_eq, All, All-head, All-tail, take_more, map-append, length-map, length-take, get_or-set_at, get_or-set_other, get_or_append_left, get_or-append_right, get_or_past, get_or-between, bitmap, backing_bit}
use Rattle.std.specs.List.{filter_map}
use Rattle.std.proofs.lemmas.List.{take-map, drop-map}
use Rattle.mask_c.proofs.BitmapLemmas.{slice_get-bitmap}

-- one more bit
pub bits-more : {N : Type 0} (f : N → Bool) (ps : List N) (bits : List Bool) (j : ℕ) (p : N) → j < length ps → get_or ps j p ≡ p → j < length bits
    → ((k : ℕ) → k < 64 → get_or bits k false ≡ get_or (map f (take j ps)) k false)
    → (k : ℕ) → k < 64 → get_or (set bits j (f p)) k false ≡ get_or (map f (take (j + 1) ps)) k false
bits-more {N} f ps bits j p few here room before k h =
    let xs : List Bool = map f (take j ps) in
    let next : map f (take (j + 1) ps) ≡ xs ++ f p ∷ [] = ap (map f) (take_more ps j p few ∙ ap (λ (x : N). take j ps ++ x ∷ []) here) ∙ map-append f (take j ps) (p ∷ []) in
    let len : length xs ≡ j = omega (arith, length-map (take j ps) f, length-take j ps) in
    grind (arith, common_steps, next, len, before k h, cases_eq, get_or-set_at, get_or-set_other, get_or_append_left, get_or-append_right, get_or_past)

-- a part of what is made of a list
pub made-part : {N : Type 0} (f : N → Bool) (ps : List N) (s e j : ℕ) → s + j < e → get_or (map f (slice_range ps s e)) j false ≡ get_or (map f ps) (s + j) false
made-part f ps s e j inside =
    ap (λ (xs : List Bool). get_or xs j false) (sym (take-map f (e - s) (drop s ps)) ∙ ap (take (e - s)) (sym (drop-map f s ps)))
    ∙ get_or-between (map f ps) s e j false inside

-- the values at indices are the bits there
pub values-made : {N : Type 0} (number : N → ℕ) (bytes : List ℕ) (offset len : ℕ) (ps : List N) → All (λ i. number i < len) ps
    → filter_map (λ i. slice_get (bitmap bytes offset len) (number i)) ps ≡ map (λ i. backing_bit bytes (offset + number i)) ps
values-made number bytes offset len [] within = refl
values-made number bytes offset len (p ∷ ps) within =
    ap₂ cons_option (slice_get-bitmap bytes offset len (number p) (All-head (λ i. number i < len) p ps within)) (values-made number bytes offset len ps (All-tail (λ i. number i < len) p ps within))
