-- Lists one after another.
use Rattle.vortex_mask.proofs.Common.{common_steps, drop, map, get_or, ◌≡◌, ℕ, ◌+◌, ◌<◌, ◌≤◌, Bool, List, [], ◌∷◌, ◌++◌, length, true, suc, sym, inl, inr, arith, cases_lt, length-flat_map, at_drop_more, length-append, All-nil, All-cons, All-append, sum_by-cons, concat, repeated, total_len, AreAll, count-append, repeated_from_All, count-le-length, All, append_assoc}

pub length-concat : (ms : List (List Bool)) → length (concat ms) ≡ total_len ms
length-concat ms = length-flat_map (λ m. m) ms

module _ {M : Type 0} (list : M → List Bool) where
  all_concat : (v : Bool) (masks : List M) → AreAll list v masks → All (λ b. b ≡ v) (concat (map list masks))
  all_concat v [] all = All-nil (λ b. b ≡ v)
  all_concat v (mask ∷ masks) all = grind (arith, All-append (λ b. b ≡ v) (list mask) (concat (map list masks)) (all 0 mask (omega arith)) (all_concat v masks (λ k d h. all (suc k) d (omega arith))), all_concat v masks (λ k d h. all (suc k) d (omega arith)))

  -- masks of one value join to a list of it
  pub concat-one_value : (v : Bool) (masks : List M) → AreAll list v masks → repeated (total_len (map list masks)) v ≡ concat (map list masks)
  concat-one_value v masks all = grind (arith, common_steps, repeated_from_All v (concat (map list masks)) (all_concat v masks all), all_concat v masks all, length-concat (map list masks))

  -- masks without values are of any value
  all-no_values : (v : Bool) (masks : List M) → total_len (map list masks) ≡ 0 → AreAll list v masks
  all-no_values v [] none = All-nil (λ mask. All (λ b. b ≡ v) (list mask))
  all-no_values v (mask ∷ masks) none =
      let sum = sum_by-cons length (list mask) (map list masks) in
      All-cons (λ x. All (λ b. b ≡ v) (list x)) mask masks (λ k d h. absurd (omega arith)) (all-no_values v masks (omega arith))

  -- where not each value is true there are values
  pub some_values : (masks : List M) → ¬ (AreAll list true masks) → 0 < total_len (map list masks)
  some_values masks not_all =
      elim (cases_lt 0 (total_len (map list masks))) [
        | inl some ↦ some
        | inr none ↦ absurd (not_all (all-no_values true masks (omega arith)))
      ]

  -- behind the lists of some masks, the next one's values are within the sum of all lengths
  pub concat_so_far : (made : List Bool) (masks : List M) (i : ℕ) (mask : M) → mask ≡ get_or masks i mask → i < length masks
      → made ++ concat (map list (drop i masks)) ≡ concat (map list masks) → length made + length (list mask) ≤ total_len (map list masks)
  concat_so_far made masks i mask is h so_far = grind (arith, common_steps, at_drop_more, length-append made (concat (map list (drop i masks))), length-append (list (get_or masks i mask)) (concat (map list (drop (i + 1) masks))), length-concat (map list masks))

  -- and behind that one too
  pub concat-next : (made : List Bool) (masks : List M) (i : ℕ) (mask : M) → mask ≡ get_or masks i mask → i < length masks
      → made ++ concat (map list (drop i masks)) ≡ concat (map list masks) → (made ++ list mask) ++ concat (map list (drop (i + 1) masks)) ≡ concat (map list masks)
  concat-next made masks i mask is h so_far = grind (arith, common_steps, append_assoc, at_drop_more)

pub ruleset concat_facts = (length-concat, concat-one_value, some_values)

pub ruleset joining_facts = (concat_so_far, concat-next, count-append, count-le-length)
