-- Ascending ranks as the rank bits of a word.
use Rattle.vortex_mask.proofs.Common.{common_steps, ◌≡◌, ℕ, ◌+◌, ◌-◌, ◌*◌, ◌<◌, ◌≤◌, ◌^◌, inl, inr, List, length, get_or, refl, sym, ap, subst, ◌∙◌, arith, ◌%◌, or-false, IsStrictlyIncreasing, cases_lt, take_more, take-append-drop, get_or-take, get_or-drop, length-take, length-drop, list_any-append, bit_at-zero, one_shl, AreBitsFrom, AreSplit, IsGathered, is_listed, or_zero_r, get_or-word_bits_or, get_or-word_bits, bit_or}
use Rattle.vortex_mask.proofs.Lists.PlaceListLemmas.{bit_of_pow, none-is, rises_to}

-- ---- the walk

pub gathered_none : (ranks : List ℕ) (at end next : ℕ) → at ≤ end → AreSplit ranks next at → IsGathered ranks at end next 0
gathered_none ranks at end next ordered split = grind (arith, get_or-word_bits, bit_at-zero, none-is, length-take, get_or-take)

pub gathered-more : (ranks : List ℕ) (at end next bits bit : ℕ) → next < length ranks → get_or ranks next 0 < end → bit ≡ 2 ^ (get_or ranks next 0 - at)
    → IsGathered ranks at end next bits → IsGathered ranks at end (next + 1) (bit_or bits bit)
gathered-more ranks at end next bits bit inside below is g = grind (arith, common_steps, cases_lt, get_or-word_bits_or, bit_of_pow, take_more, list_any-append)

-- four of them
pub gathered-four : (ranks : List ℕ) (at end next bits : ℕ) → IsStrictlyIncreasing ranks → end ≤ at + 64 → next + 4 ≤ length ranks → get_or ranks (next + 3) 0 < end
    → IsGathered ranks at end next bits
    → IsGathered ranks at end (next + 4)
    (bit_or (bit_or (bit_or (bit_or bits (1 * 2 ^ (get_or ranks next 0 - at) % 2 ^ 64)) (1 * 2 ^ (get_or ranks (next + 1) 0 - at) % 2 ^ 64)) (1 * 2 ^ (get_or ranks (next + 2) 0 - at) % 2 ^ 64))
    (1 * 2 ^ (get_or ranks (next + 3) 0 - at) % 2 ^ 64))
gathered-four ranks at end next bits ascending few inside below g =
    let bit : ℕ → ℕ = λ k. 1 * 2 ^ (get_or ranks k 0 - at) % 2 ^ 64 in
    let one : ℕ = bit_or bits (bit next) in
    let two : ℕ = bit_or one (bit (next + 1)) in
    let three : ℕ = bit_or two (bit (next + 2)) in
    let four : ℕ = bit_or three (bit (next + 3)) in
    let e2 : next + 1 + 1 ≡ next + 2 = omega arith in
    let e3 : next + 2 + 1 ≡ next + 3 = omega arith in
    let e4 : next + 3 + 1 ≡ next + 4 = omega arith in
    let under : (k : ℕ) → k ≤ next + 3 → get_or ranks k 0 < end = λ k h. omega (arith, rises_to ranks k (next + 3) ascending h (omega arith)) in
    let is : (k : ℕ) → k ≤ next + 3 → bit k ≡ 2 ^ (get_or ranks k 0 - at) = λ k h. one_shl (get_or ranks k 0 - at) 64 (omega (arith, under k h)) in
    let g1 : IsGathered ranks at end (next + 1) one = gathered-more ranks at end next bits (bit next) (omega arith) (under next (omega arith)) (is next (omega arith)) g in
    let g2 : IsGathered ranks at end (next + 2) two = subst (λ n. IsGathered ranks at end n two) e2 (gathered-more ranks at end (next + 1) one (bit (next + 1)) (omega arith) (under (next + 1) (omega arith)) (is (next + 1) (omega arith)) g1) in
    let g3 : IsGathered ranks at end (next + 3) three = subst (λ n. IsGathered ranks at end n three) e3 (gathered-more ranks at end (next + 2) two (bit (next + 2)) (omega arith) (under (next + 2) (omega arith)) (is (next + 2) (omega arith)) g2) in
    subst (λ n. IsGathered ranks at end n four) e4 (gathered-more ranks at end (next + 3) three (bit (next + 3)) (omega arith) (under (next + 3) (omega arith)) (is (next + 3) (omega arith)) g3)

-- the bit of rank k, or none from the end on, where those before it are below the end if it is
gathered-step : (ranks : List ℕ) (at end next k bits : ℕ) (p : ℕ × ℕ) → k < length ranks → (get_or ranks k 0 < end → next ≡ k)
    → (get_or ranks k 0 < end → p ≡ (2 ^ (get_or ranks k 0 - at), 1)) → (end ≤ get_or ranks k 0 → p ≡ (0, 0))
    → IsGathered ranks at end next bits → IsGathered ranks at end (next + p.1) (bit_or bits p.0)
gathered-step ranks at end next k bits p inside reached below past g = elim (cases_lt (get_or ranks k 0) end) [
  | inl h ↦
      let here : get_or ranks next 0 ≡ get_or ranks k 0 = ap (λ j. get_or ranks j 0) (reached h) in
      let bit : p.0 ≡ 2 ^ (get_or ranks next 0 - at) = ap (λ t. t.0) (below h) ∙ ap (λ r. 2 ^ (r - at)) (sym here) in
      let n : next + 1 ≡ next + p.1 = omega (arith, ap (λ t. t.1) (below h)) in
      subst (λ j. IsGathered ranks at end j (bit_or bits p.0)) n (gathered-more ranks at end next bits p.0 (omega (arith, reached h)) (omega (arith, here)) bit g)
  | inr h ↦
      let n : next ≡ next + p.1 = omega (arith, ap (λ t. t.1) (past h)) in
      let same : bit_or bits p.0 ≡ bits = ap (λ t. bit_or bits t.0) (past h) ∙ or_zero_r bits in
      subst (λ j. IsGathered ranks at end j (bit_or bits p.0)) n (subst (IsGathered ranks at end next) (sym same) g)
]

-- three of them
pub gathered-three : (ranks : List ℕ) (at end next bits : ℕ) (p q r : ℕ × ℕ) → IsStrictlyIncreasing ranks → next + 3 ≤ length ranks → IsGathered ranks at end next bits
    → (get_or ranks next 0 < end → p ≡ (2 ^ (get_or ranks next 0 - at), 1)) → (end ≤ get_or ranks next 0 → p ≡ (0, 0))
    → (get_or ranks (next + 1) 0 < end → q ≡ (2 ^ (get_or ranks (next + 1) 0 - at), 1)) → (end ≤ get_or ranks (next + 1) 0 → q ≡ (0, 0))
    → (get_or ranks (next + 2) 0 < end → r ≡ (2 ^ (get_or ranks (next + 2) 0 - at), 1)) → (end ≤ get_or ranks (next + 2) 0 → r ≡ (0, 0))
    → IsGathered ranks at end (next + (p.1 + q.1 + r.1)) (bit_or (bit_or (bit_or bits p.0) q.0) r.0)
gathered-three ranks at end next bits p q r ascending inside g below0 past0 below1 past1 below2 past2 =
    let rise : (i j : ℕ) → i ≤ j → j ≤ next + 2 → get_or ranks i 0 ≤ get_or ranks j 0 = λ i j h last. rises_to ranks i j ascending h (omega arith) in
    let one : get_or ranks (next + 1) 0 < end → next + p.1 ≡ next + 1 = λ h. omega (arith, ap (λ t. t.1) (below0 (omega (arith, rise next (next + 1) (omega arith) (omega arith))))) in
    let two : get_or ranks (next + 2) 0 < end → next + p.1 + q.1 ≡ next + 2
    = λ h. let under : get_or ranks (next + 1) 0 < end = omega (arith, rise (next + 1) (next + 2) (omega arith) (omega arith)) in omega (arith, one under, ap (λ t. t.1) (below1 under)) in
    let all : next + p.1 + q.1 + r.1 ≡ next + (p.1 + q.1 + r.1) = omega arith in
    subst (λ n. IsGathered ranks at end n (bit_or (bit_or (bit_or bits p.0) q.0) r.0)) all
    (gathered-step ranks at end (next + p.1 + q.1) (next + 2) _ r (omega arith) two below2 past2
    (gathered-step ranks at end (next + p.1) (next + 1) _ q (omega arith) one below1 past1 (gathered-step ranks at end next next bits p (omega arith) (λ h. refl) below0 past0 g)))

pub gathered-split : (ranks : List ℕ) (at end next bits : ℕ) → IsStrictlyIncreasing ranks → (next < length ranks → end ≤ get_or ranks next 0) → IsGathered ranks at end next bits → AreSplit ranks next end
gathered-split ranks at end next bits ascending stop g = grind (arith, rises_to)

pub gathered-bits : (ranks : List ℕ) (at end next bits : ℕ) → end ≤ at + 64 → IsStrictlyIncreasing ranks → (next < length ranks → end ≤ get_or ranks next 0) → IsGathered ranks at end next bits
    → AreBitsFrom (is_listed ranks) at (end - at) bits
gathered-bits ranks at end next bits few ascending stop g = grind (arith, gathered-split ranks at end next bits ascending stop g, none-is, get_or-drop, length-drop next ranks, take-append-drop next ranks, list_any-append, or-false)
