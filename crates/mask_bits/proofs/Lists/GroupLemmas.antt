-- How many values of a part and of a group are true, by the true places.
use Rattle.mask_bits.proofs.Common.{common_steps, ◌≡◌, ℕ, zero, suc, ◌+◌, ◌-◌, ◌*◌, ◌/◌, ◌<◌, ◌≤◌, Bool, true, false, cond, nat_eq, min, List, [], ◌∷◌, length, take, drop, slice_range, refl, sym, ◌∙◌, arith, All, count_by, ◌↔◌, All-head, All-tail, sum_by-cons, indices_from, positions, count, repeated, is_inside, div_ceil, group}
use Rattle.mask_bits.proofs.Lists.CountLemmas.{count-repeated_true, length-repeated, positions-all_false, positions-all_true}
use Rattle.mask_bits.proofs.Lists.PartLemmas.{part_of_repeated}
use Rattle.mask_bits.proofs.Lists.Places.PlaceLemmas.{trues, count-trues, positions-within}

-- the true places that lie in a part, where the list's first place is n
inside_from : ℕ → ℕ → ℕ → List Bool → ℕ
inside_from s e n m = count_by (λ p. is_inside p (s, e)) (indices_from n m)

-- none lies in a part that ends at the first place or before it
none_past : (s e n : ℕ) (m : List Bool) → e ≤ n → inside_from s e n m ≡ 0
unfolding inside_from
none_past s e n [] past = refl
none_past s e n (v ∷ m) past = grind (arith, none_past s e (n + 1) m)

-- in a part that begins at the first place or before it, and has k values of the list
inside_front : (s e n k : ℕ) (m : List Bool) → s ≤ n → e ≡ n + k → inside_from s e n m ≡ trues (take k m)
unfolding inside_from
inside_front s e n zero m begins ends = none_past s e n m (omega arith)
inside_front s e n (suc k) m begins ends = grind (arith, none_past, common_steps, inside_front s e (n + 1) k)

-- in a part of k values that begins i values further on
inside_part : (s e n i k : ℕ) (m : List Bool) → s ≡ n + i → e ≡ s + k → inside_from s e n m ≡ trues (take k (drop i m))
unfolding inside_from
inside_part s e n zero k m begins ends = inside_front s e n k m (omega arith) (omega arith)
inside_part s e n (suc i) zero [] begins ends = refl
inside_part s e n (suc i) (suc k) [] begins ends = refl
inside_part s e n (suc i) k (true ∷ m) begins ends = grind (arith, inside_part s e (n + 1) i k m (omega arith) (omega arith))
inside_part s e n (suc i) k (false ∷ m) begins ends = inside_part s e (n + 1) i k m (omega arith) (omega arith)

-- a place lies in a group exactly if it is the place's own
in_group : (n size g p : ℕ) → 0 < size → p < n → is_inside p (size * g, size * g + min size (n - size * g)) ≡ nat_eq (p / size) g
in_group n size g p some within = grind arith

-- tests that agree at each item count alike
count_by-same : (p q : ℕ → Bool) (P : ℕ → Type 0) (xs : List ℕ) → ((x : ℕ) → P x → p x ≡ q x) → All P xs → count_by p xs ≡ count_by q xs
count_by-same p q P [] agree all = refl
count_by-same p q P (x ∷ xs) agree all =
    grind (arith, agree x (All-head P x xs all), count_by-same p q P xs agree (All-tail P x xs all), sum_by-cons (λ y. cond (p y) 1 0) x xs, sum_by-cons (λ y. cond (q y) 1 0) x xs)

-- as many values of a group are true as true indices lie in it
pub count_of_group : (m : List Bool) (size g : ℕ) → 0 < size → count (group m size g) ≡ count_by (λ p. nat_eq (p / size) g) (positions m)
unfolding inside_from
count_of_group m size g some =
    let s : ℕ = size * g in
    let k : ℕ = min size (length m - s) in
    let part : count (slice_range m s (s + k)) ≡ trues (take k (drop s m)) = grind (arith, count-trues) in
    part ∙ sym (inside_part s (s + k) 0 s k m (omega arith) refl)
    ∙ count_by-same (λ p. is_inside p (s, s + k)) (λ p. nat_eq (p / size) g) (λ p. p < length m) (positions m) (λ p within. in_group (length m) size g p some within) (positions-within m)

-- of a list in groups of one size, each true index p lies in group number p / size, which is one of them
pub places_lie_in_groups : (m : List Bool) (size : ℕ) → 0 < size → All (λ p. p / size < div_ceil (length m) size) (positions m)
places_lie_in_groups m size some = λ k d h. grind (arith, positions-within m k d h)

-- of n values in groups of one size, those are groups which begin before the end
pub groups_begin_within : (n size g : ℕ) → 0 < size → (g < div_ceil n size) ↔ (size * g < n)
groups_begin_within n size g some = (λ below. grind arith, λ begins. grind arith)

-- a group of a list of one value is such a list
pub group_of_repeated : (n size g : ℕ) (v : Bool) → size * g < n → group (repeated n v) size g ≡ repeated (min size (n - size * g)) v
group_of_repeated n size g v begins = grind (arith, length-repeated, part_of_repeated)

pub ruleset group_facts = (groups_begin_within, group_of_repeated, places_lie_in_groups, count_of_group, length-repeated, count-repeated_true, positions-all_true, positions-all_false)
