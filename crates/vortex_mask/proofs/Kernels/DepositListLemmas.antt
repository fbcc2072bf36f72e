-- What deposits and selections are for the lists of the words.
use Rattle.vortex_mask.proofs.Common.{◌≡◌, ℕ, zero, suc, ◌+◌, ◌<◌, ◌≤◌, ◌^◌, ◌↔◌, Bool, count_ones, true, false, ◌&&◌, nat_eq, List, [], ◌∷◌, length, get_or, take, refl, sym, ap, ◌∙◌, arith, bit_at, ext_get_or, get_or-take, length-take, nat_tests, ones-le, bit_at-lt, indices_from, positions, count, count_below, rank_intersection, word_bits, Deposits, selected, rank_intersection_value, length-rank_intersection, count-le-length, length-indices_from, positions-within, trues, count-trues, count-word_bits, length-word_bits, get_or-word_bits, count_below-word_bits}
use Rattle.vortex_mask.proofs.Deposits.SetPlaceLemmas.{ones_below}

-- ---- a true value and its number

-- a true value's number is below the count
pub trues-take : (m : List Bool) (p : ℕ) → get_or m p false ≡ true → trues (take p m) < trues m
trues-take [] p e = cc
trues-take (true ∷ m) zero e = omega arith
trues-take (false ∷ m) zero e = cc
trues-take (true ∷ m) (suc p) e = omega (arith, trues-take m p e)
trues-take (false ∷ m) (suc p) e = trues-take m p e

-- and there it stands among the indices
indices_from-trues : (n : ℕ) (m : List Bool) (p : ℕ) → get_or m p false ≡ true → get_or (indices_from n m) (trues (take p m)) 0 ≡ n + p
indices_from-trues n [] p e = cc
indices_from-trues n (true ∷ m) zero e = omega arith
indices_from-trues n (false ∷ m) zero e = cc
indices_from-trues n (true ∷ m) (suc p) e = omega (arith, indices_from-trues (n + 1) m p e)
indices_from-trues n (false ∷ m) (suc p) e = omega (arith, indices_from-trues (n + 1) m p e)

-- ---- selections

pub selected-is : (w rank p : ℕ) → p < 64 → bit_at w p ≡ 1 → ones_below w p ≡ rank → selected w rank ≡ p
selected-is w rank p inside set below =
    let number : rank ≡ trues (take p (word_bits w))
    = sym below ∙ sym (count_below-word_bits w p (omega arith)) ∙ count-trues (take p (word_bits w)) in
    let holds : get_or (word_bits w) p false ≡ true = get_or-word_bits w p false inside ∙ ap (λ v. nat_eq v 1) set in
    ap (λ n. get_or (positions (word_bits w)) n 0) number ∙ omega (arith, indices_from-trues 0 (word_bits w) p holds)

-- the place is one of the word's
pub selected_is_inside : (w n : ℕ) → n < count (word_bits w) → selected w n < 64
selected_is_inside w n h = omega (arith, positions-within (word_bits w) n 0 h, length-word_bits w)

-- ---- deposits

bits_and : (r m s : ℕ) → r < 2 → m < 2 → s < 2 → (r ≡ 1) ↔ ((m ≡ 1) × (s ≡ 1)) → nat_eq r 1 ≡ (nat_eq m 1 && nat_eq s 1)
bits_and r m s hr hm hs h = grind (arith, nat_tests, h.0, h.1)

-- a source that counts only where the mask is set
pub and_where : (x y z : Bool) → (x ≡ true → y ≡ z) → (x && y) ≡ (x && z)
and_where true y z same = same refl
and_where false y z same = refl

-- a bit of a deposit is a bit of the mask, and of the source at the count of mask bits below it
pub deposited-value : (s m r j : ℕ) → Deposits s m r → j < 64 → get_or (word_bits r) j false ≡ (get_or (word_bits m) j false && get_or (word_bits s) (count_below (word_bits m) j) false)
deposited-value s m r j is h = grind (arith, bit_at-lt, bits_and, get_or-word_bits, length-indices_from, length-take)

-- the source's first bits, as many as the mask's list has true values
abbrev pub offered_bits : ℕ → ℕ → List Bool
offered_bits s m = take (count (word_bits m)) (word_bits s)

pub length-offered_bits : (s m : ℕ) → length (offered_bits s m) ≡ count (word_bits m)
length-offered_bits s m = grind (arith, length-take, length-word_bits, length-indices_from)

-- a deposit is the rank intersection of the mask's list and these bits
pub word_bits-deposited : (s m r : ℕ) → Deposits s m r → word_bits r ≡ rank_intersection (word_bits m) (offered_bits s m)
word_bits-deposited s m r is =
    let a = word_bits m in
    let b = offered_bits s m in
    let len : length (word_bits r) ≡ length (rank_intersection a b) = omega (arith, length-rank_intersection a b, length-word_bits r, length-word_bits m) in
    ext_get_or false (word_bits r) (rank_intersection a b) len (λ j h.
    let k = count_below a j in
    let stays : get_or a j false ≡ true → get_or (word_bits s) k false ≡ get_or b k false
    = λ set. sym (get_or-take (count a) (word_bits s) k false (omega (arith, trues-take a j set, count-trues a, count-trues (take j a)))) in
    deposited-value s m r j is (omega (arith, length-word_bits r)) ∙ and_where (get_or a j false) _ _ stays ∙ sym (rank_intersection_value a b j (length-offered_bits s m)))

-- ---- counts of a word

pub few-true : (w : ℕ) → count (word_bits w) ≤ 64
few-true w = omega (arith, count-le-length (word_bits w), length-word_bits w)

pub few-ones : (w : ℕ) → w < 2 ^ 64 → count_ones w ≤ 64
few-ones w fits = ones-le 64 w fits

pub ruleset word_counts = (few-true, few-ones, count-word_bits)
