-- Truth values that are packed into words.
use Rattle.mask_bits.proofs.Common.{◌≡◌, ℕ, ◌+◌, ◌-◌, ◌<◌, ◌≤◌, Bool, true, false, nat_eq, List, get_or, replicate, set, refl, ap, ◌∙◌, inl, inr, arith, cases_lt, get_or-replicate, get_or-set_same, get_or-set_other, get_or-take, get_or_past, length-replicate, length-set, AreLanesOf, word_bits, length-take, bool_byte, ◌^◌, ◌%◌, length, map, take, cond, eqb, zip2, w8, take_all, get_or-map, length-map, bitmask_splat, bit_mask_l}
use Rattle.mask_bits.proofs.Lists.Words.WordLemmas.{get_or-word_bits}
use lib.Lanes.{mask_l, top}
use mir.Val.{bits, hbits}

-- ---- a lane for each value

pub lanes-none : (n : ℕ) (m : List Bool) → AreLanesOf n m 0 (replicate n 0)
lanes-none n m = record { len = length-replicate {A = ℕ} n 0; each = λ k h. ap (λ x. nat_eq x 1) (get_or-replicate n k 0 0 h) }

is_set_lane : (b : Bool) → nat_eq (bool_byte b) 1 ≡ b
is_set_lane true = refl
is_set_lane false = refl

pub lanes-more : (n : ℕ) (m : List Bool) (lanes : List ℕ) (j : ℕ) → j < n → AreLanesOf n m j lanes → AreLanesOf n m (j + 1) (set lanes j (bool_byte (get_or m j false)))
lanes-more n m lanes j few before = grind (arith, length-set, get_or-set_same, is_set_lane, get_or-take, get_or-set_other, get_or_past, length-take)

-- ---- the word of lanes
-- bit j of the word is set where lane j is 1, and clear where there is no such lane
pub lane_bits : (lanes : List ℕ) (n j : ℕ) → length lanes ≡ n → n ≤ 64 → j < 64
    → get_or (word_bits (mask_l (map (top (hbits w8)) (zip2 (λ a b. cond (eqb a b) (2 ^ bits w8 - 1) 0) (take n lanes) (replicate n 1))) % 2 ^ 64)) j false ≡ nat_eq (get_or lanes j 0) 1
lane_bits lanes n j len few h =
    let v : List ℕ = take n lanes in
    let ones : List Bool = map (λ (x : ℕ). eqb x 1) v in
    let all : v ≡ lanes = take_all n lanes (omega (arith, len)) in
    let lane : get_or ones j false ≡ eqb (get_or v j 0) 1 = elim (cases_lt j (length v)) [
      | inl inside ↦ get_or-map (λ (x : ℕ). eqb x 1) v j 0 false inside
      | inr past ↦ grind (arith, get_or_past, length-map)
    ] in
    ap (λ w. get_or (word_bits w) j false) (bitmask_splat w8 eqb v n 1 (ap length all ∙ len) few)
    ∙ get_or-word_bits (mask_l ones) j false h
    ∙ ap (λ b. nat_eq b 1) (bit_mask_l ones j)
    ∙ (elim (get_or ones j false) as (λ b. nat_eq (cond b 1 0) 1 ≡ b) [ true ↦ refl | false ↦ refl ])
    ∙ lane
    ∙ ap (λ (xs : List ℕ). eqb (get_or xs j 0) 1) all
