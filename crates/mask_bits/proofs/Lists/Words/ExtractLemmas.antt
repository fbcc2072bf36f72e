-- The bits of a word at the set places of another, one by one and as a list.
use Rattle.mask_bits.proofs.Common.{common_steps, ◌≡◌, ◌≢◌, ◌⊎◌, inl, inr, subst, bit_and, bit_or, bit_xor, ℕ, zero, suc, ◌+◌, ◌*◌, ◌-◌, ◌/◌, ◌%◌, ◌^◌, ◌<◌, ◌≤◌, ◌↔◌, Bool, true, false, nat_eq, List, [], ◌∷◌, length, get_or, take, drop, sym, ap, ◌∙◌, arith, ◌++◌, bit_at, items_where_true, nat_tests, get_or-map, length-append, get_or_append_left, get_or-append_right, take-append-le, cases_lt, and_mask, and_le_l, or_zero_l, or_zero_r, xor_zero_r, bit_at-lt, bit_at_or, bit_at_xor, bit_at_above, bit_at-pow_same, bit_at-pow_other, same_from_bits, get_or_from_slice_get, Extracts, positions, count, chosen, repeated, word_bits, ext_get_or, take_all, length-drop}
use Rattle.mask_bits.proofs.Lists.Words.LowestLemmas.{low, low-first, low-set, bit_at-lowest_cleared, bit_at-lowest_others}
use Rattle.mask_bits.proofs.Lists.Words.ShiftLemmas.{bit_at-mod, bit_at-shl_high, bit_at-shl_low}
use Rattle.mask_bits.proofs.Lists.CountLemmas.{length-repeated, get_or-repeated}
use Rattle.mask_bits.proofs.Lists.LawLemmas.{chosen-items_where_true, length-chosen}
use Rattle.mask_bits.proofs.Lists.Places.PlaceLemmas.{positions-true, positions-false, trues, count-trues, count-le-length, positions-within}
use Rattle.mask_bits.proofs.Lists.Places.SelectLemmas.{indices-of_none, left-more, left-first, positions-lowest}
use Rattle.mask_bits.proofs.Lists.Words.WordLemmas.{length-word_bits, get_or-word_bits}

-- ---- a chosen row is the row at a true index

get_or-items_where_true : {X : Type 0} (rows : List X) (m : List Bool) (k : ℕ) (d : X) → length rows ≡ length m → k < trues m
    → get_or (items_where_true m rows) k d ≡ get_or rows (get_or (positions m) k 0) d
get_or-items_where_true [] [] k d len h = absurd (omega arith)
get_or-items_where_true [] (v ∷ m) k d len h = absurd (omega arith)
get_or-items_where_true (r ∷ rows) [] k d len h = absurd (omega arith)
get_or-items_where_true {X} (r ∷ rows) (true ∷ m) zero d len h = grind (arith, positions-true m)
get_or-items_where_true {X} (r ∷ rows) (true ∷ m) (suc k) d len h = grind (arith, positions-true, get_or-map, count-trues, get_or-items_where_true rows m k d)
get_or-items_where_true {X} (r ∷ rows) (false ∷ m) k d len h = grind (arith, positions-false, get_or-map, count-trues, get_or-items_where_true rows m k d)

pub get_or-chosen : {X : Type 0} (rows : List X) (m : List Bool) (k : ℕ) (d : X) → length rows ≡ length m → k < count m
    → get_or (chosen rows m) k d ≡ get_or rows (get_or (positions m) k 0) d
get_or-chosen rows m k d len h = grind (arith, chosen-items_where_true rows m, get_or-items_where_true rows m k d, count-trues m)

-- ---- the list of an extract

pub count-of_word : (m : ℕ) → count (word_bits m) ≤ 64
count-of_word m = omega (arith, count-le-length (word_bits m), length-word_bits m)

place_in_word : (m k : ℕ) → k < count (word_bits m) → get_or (positions (word_bits m)) k 0 < 64
place_in_word m k h = omega (arith, positions-within (word_bits m) k 0 h, length-word_bits m)

same_bit : (a b : ℕ) → a < 2 → b < 2 → (a ≡ 1) ↔ (b ≡ 1) → nat_eq a 1 ≡ nat_eq b 1
same_bit a b ha hb h = grind (arith, nat_tests, h.0, h.1)

clear_bit : (a : ℕ) → a < 2 → a ≢ 1 → nat_eq a 1 ≡ false
clear_bit a ha h = grind (arith, nat_tests)

extracted-value : (s m r k : ℕ) → Extracts s m r → k < count (word_bits m) → get_or (word_bits r) k false ≡ get_or (chosen (word_bits s) (word_bits m)) k false
extracted-value s m r k is h = grind (arith, count-of_word, place_in_word, get_or-word_bits, same_bit, bit_at-lt, get_or-chosen, length-word_bits)

extracted-above : (s m r k : ℕ) → Extracts s m r → k < 64 → count (word_bits m) ≤ k → get_or (word_bits r) k false ≡ false
extracted-above s m r k is few h = grind (arith, get_or-word_bits, clear_bit, bit_at-lt)

-- an extract is the source's values at the mask's true indices, and false values behind them
pub extract_is_chosen_values : (source mask result : ℕ) → Extracts source mask result
    → word_bits result ≡ chosen (word_bits source) (word_bits mask) ++ repeated (64 - count (word_bits mask)) false
extract_is_chosen_values s m r is =
    ext_get_or false _ _ (grind (arith, length-chosen, length-word_bits, length-append, length-repeated, count-of_word, extracted-value, extracted-above, get_or_append_left, get_or-append_right, get_or-repeated)) (λ j h. grind (arith, length-chosen, length-word_bits, length-append, length-repeated, count-of_word, extracted-value, extracted-above, get_or_append_left, get_or-append_right, get_or-repeated))

-- as many values of it as the mask has true ones are those that the mask chooses
pub take-extracted : (s m r : ℕ) → Extracts s m r → take (count (word_bits m)) (word_bits r) ≡ chosen (word_bits s) (word_bits m)
take-extracted s m r is = grind (arith, extract_is_chosen_values, take-append-le, take_all, length-chosen, length-word_bits)

-- ---- one set place after another

-- the bits at the first n set places are there, and the other places are left
pub record IsExtractedTo (source mask left n result : ℕ) : Type 0 where
  pub places : positions (word_bits left) ≡ drop n (positions (word_bits mask))
  pub within : n ≤ count (word_bits mask)
  pub bits : (k : ℕ) → k < 64 → (bit_at result k ≡ 1) ↔ ((k < n) × (bit_at source (get_or (positions (word_bits mask)) k 0) ≡ 1))

-- where none is left, that is an extract
pub Extracts-all : (s m n r : ℕ) → IsExtractedTo s m 0 n r → Extracts s m r
Extracts-all s m n r is =
    let n_is : n ≡ count (word_bits m) = grind (arith, ap length is.places, length-drop n (positions (word_bits m)), ap length (indices-of_none 0), is.within) in
    record { bits = λ k h. (λ set. (omega (arith, n_is, ((is.bits k h).0 set).0), ((is.bits k h).0 set).1), λ set. (is.bits k h).1 (omega (arith, n_is, set.0), set.1)) }

-- some are left where the rest is not 0
pub IsExtractedTo-some : (s m left n r : ℕ) → 0 < left → left < 2 ^ 64 → IsExtractedTo s m left n r → n < count (word_bits m)
IsExtractedTo-some s m left n r some fits is = omega (arith, ap length is.places, length-drop n (positions (word_bits m)), ap length (positions-lowest left some fits))

-- a bit put at place n
placed_there : (b n k : ℕ) → b < 2 → k < 64 → k ≡ n → bit_at (b * 2 ^ n % 2 ^ 64) k ≡ b
placed_there b n k h few e = grind (arith, common_steps)

placed_elsewhere : (b n k : ℕ) → b < 2 → k < 64 → (k < n) ⊎ (n < k) → bit_at (b * 2 ^ n % 2 ^ 64) k ≡ 0
placed_elsewhere b n k h few (inl below) = bit_at-mod (b * 2 ^ n) 64 k few ∙ bit_at-shl_low b n k below
placed_elsewhere b n k h few (inr above) =
    bit_at-mod (b * 2 ^ n) 64 k few ∙ bit_at-shl_high b n k (omega arith) ∙ bit_at_above b 1 (k - n) h (omega arith)

-- one more bit of those at some places
more_bit : (ps : List ℕ) (s r x n k : ℕ) → (bit_at r k ≡ 1) ↔ ((k < n) × (bit_at s (get_or ps k 0) ≡ 1)) → (k ≡ n → bit_at x k ≡ bit_at s (get_or ps n 0)) → ((k < n) ⊎ (n < k) → bit_at x k ≡ 0)
    → (bit_at (bit_or r x) k ≡ 1) ↔ ((k < n + 1) × (bit_at s (get_or ps k 0) ≡ 1))
more_bit ps s r x n k old new others = grind (arith, bit_at_or, bit_at-lt)

pub IsExtractedTo-more : (s m left n r : ℕ) → 0 < left → left < 2 ^ 64 → IsExtractedTo s m left n r
    → IsExtractedTo s m (bit_and left (left - 1)) (n + 1) (bit_or r (bit_and (s / 2 ^ low left) 1 * 2 ^ n % 2 ^ 64))
IsExtractedTo-more s m left n r some fits is =
    let ps : List ℕ = positions (word_bits m) in
    let p : ℕ = low left in
    let b : ℕ = bit_and (s / 2 ^ p) 1 in
    let b_is : b ≡ bit_at s p = and_mask (s / 2 ^ p) 1 in
    let b_low : b < 2 = omega (arith, b_is, bit_at-lt s p) in
    let more = IsExtractedTo-some s m left n r some fits is in
    let here : get_or ps n 0 ≡ p = get_or_from_slice_get ps n p 0 (left-first left n ps fits is.places more) in
    record {
      places = left-more left n ps fits is.places more;
      within = omega (arith, more);
      bits = λ k h. more_bit ps s r (b * 2 ^ n % 2 ^ 64) n k (is.bits k h) (λ e. placed_there b n k b_low h e ∙ b_is ∙ ap (bit_at s) (sym here)) (placed_elsewhere b n k b_low h);
    }

-- ---- at most two set places

nothing_yet : (s m : ℕ) → IsExtractedTo s m m 0 0
nothing_yet s m = grind arith

next_bit : (s m left n r x : ℕ) → 0 < left → left < 2 ^ 64 → (0 < left → x ≡ s / 2 ^ low left % 2) → IsExtractedTo s m left n r
    → IsExtractedTo s m (bit_and left (left - 1)) (n + 1) (bit_or r (x * 2 ^ n % 2 ^ 64))
next_bit s m left n r x some fits x_is is = grind (arith, and_mask (s / 2 ^ low left) 1, IsExtractedTo-more s m left n r some fits is)

ended : (s m left n r x : ℕ) → left ≡ 0 → r ≡ x → IsExtractedTo s m left n r → Extracts s m x
ended s m left n r x e same is = subst (Extracts s m) same (Extracts-all s m n r (subst (λ l. IsExtractedTo s m l n r) e is))

-- what clearing the lowest set place takes away
pub lowest_alone : (m : ℕ) → 0 < m → m < 2 ^ 64 → bit_xor m (bit_and m (m - 1)) ≡ 2 ^ low m
lowest_alone m some fits = same_from_bits _ _ (grind (arith, bit_at_xor, low, low-first, bit_at-lowest_cleared, bit_at-pow_other, bit_at-lowest_others, bit_at-lt, low-set, bit_at-pow_same))

-- of two set places the second is alone then
pub second_alone : (m t : ℕ) → m < 2 ^ 64 → count (word_bits m) ≤ 2 → t ≡ bit_and m (m - 1) → 0 < t → t ≡ 2 ^ low t
second_alone m t fits few t_is some =
    let within : t < 2 ^ 64 = omega (arith, t_is, and_le_l m (m - 1)) in
    let there : 0 < m = omega (arith, t_is, and_le_l m (m - 1)) in
    let rest : ℕ = bit_and t (t - 1) in
    let none : rest ≡ 0 = grind (arith, positions-lowest, within, and_le_l) in
    sym (xor_zero_r t) ∙ ap (bit_xor t) (sym none) ∙ lowest_alone t some within

-- the bits at the lowest set place and at the one above it, each 0 where there is none
pub Extracts-two : (s m a b : ℕ) → m < 2 ^ 64 → count (word_bits m) ≤ 2
    → (0 < m → a ≡ s / 2 ^ low m % 2) → (m ≡ 0 → a ≡ 0)
    → (0 < bit_and m (m - 1) → b ≡ s / 2 ^ low (bit_and m (m - 1)) % 2) → (bit_and m (m - 1) ≡ 0 → b ≡ 0)
    → Extracts s m (bit_or a (b * 2 % 2 ^ 64))
Extracts-two s m a b fits few a_is no_a b_is no_b =
    let t : ℕ = bit_and m (m - 1) in
    let within : t ≤ m = and_le_l m (m - 1) in
    let alone : b ≡ 0 → bit_or a (b * 2 % 2 ^ 64) ≡ a = λ e. ap (λ (n : ℕ). bit_or a (n * 2 % 2 ^ 64)) e ∙ or_zero_r a in
    elim (cases_lt 0 m) [
      | inr none ↦ ended s m m 0 0 _ (omega arith) (sym (alone (no_b (omega arith)) ∙ no_a (omega arith))) (nothing_yet s m)
      | inl some ↦
          let first : bit_or 0 (a * 2 ^ 0 % 2 ^ 64) ≡ a = or_zero_l (a * 2 ^ 0 % 2 ^ 64) ∙ omega (arith, a_is some) in
          let one = subst (IsExtractedTo s m t 1) first (next_bit s m m 0 0 a some fits a_is (nothing_yet s m)) in
          elim (cases_lt 0 t) [
            | inr none ↦ ended s m t 1 a _ (omega arith) (sym (alone (no_b (omega arith)))) one
            | inl more ↦
                grind (arith, next_bit s m t 1 a b more (omega arith) b_is one, and_le_l t (t - 1), IsExtractedTo-some, ended)
          ]
    ]
