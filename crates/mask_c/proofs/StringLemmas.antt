-- Strings at some indices: their sizes, where they end, and their bytes one behind another.
use Rattle.mask_c.proofs.Common.{common_steps, ◌≡◌, ℕ, zero, suc, ◌+◌, ◌-◌, ◌*◌, ◌<◌, ◌≤◌, Bool, true, false, List, [], ◌∷◌, ◌++◌, append_assoc, append-nil, length, get_or, set, take, drop, map, slice_range, slice_get, Some, refl, sym, subst, ap, ◌∙◌, arith, take-add, All, concat, items_where_true, range_with_len, sum, IsNonDecreasing, drop-drop, drop-set-lt, get_or-append_right, length-append, length-take, map-id, take-append-drop, take_all, take_more, take_more_set, All-weaker, filter_map-append, concat-append, length-map-range_with_len, get_or-map-range_with_len, sum_by-append, sum_by_more, get_or_from_slice_get, slice_get-get_or, chosen, count, indices_from, positions, ends_from, items_at, offsets_of, sizes, strings, take-take, chosen_at_positions, chosen-items_where_true, positions-within, indices_from-append}

-- ---- one string

pub length-sizes : (offsets : List ℕ) → length (sizes offsets) ≡ length offsets - 1
unfolding sizes
length-sizes offsets = length-map-range_with_len (λ i. get_or offsets (i + 1) 0 - get_or offsets i 0) 0 (length offsets - 1)

slice_get-range : {X : Type 0} (f : ℕ → X) (n i : ℕ) → i < n → slice_get (map f (range_with_len 0 n)) i ≡ Some (f i)
slice_get-range f n i h = slice_get-get_or (map f (range_with_len 0 n)) i (f i) (omega (arith, length-map-range_with_len f 0 n)) ∙ ap Some (get_or-map-range_with_len f 0 n i i (f i) h (omega arith))

pub slice_get-sizes : (offsets : List ℕ) (i : ℕ) → i + 1 < length offsets → slice_get (sizes offsets) i ≡ Some (get_or offsets (i + 1) 0 - get_or offsets i 0)
unfolding sizes
slice_get-sizes offsets i h = slice_get-range (λ j. get_or offsets (j + 1) 0 - get_or offsets j 0) (length offsets - 1) i (omega arith)

pub slice_get-strings : (offsets bytes : List ℕ) (i : ℕ) → i + 1 < length offsets → slice_get (strings offsets bytes) i ≡ Some (slice_range bytes (get_or offsets i 0) (get_or offsets (i + 1) 0))
unfolding strings
slice_get-strings offsets bytes i h = slice_get-range (λ j. slice_range bytes (get_or offsets j 0) (get_or offsets (j + 1) 0)) (length offsets - 1) i (omega arith)

-- bytes up to a place, and those from there on
pub range-join : (bytes : List ℕ) (a b c : ℕ) → a ≤ b → b ≤ c → slice_range bytes a b ++ slice_range bytes b c ≡ slice_range bytes a c
range-join bytes a b c first second =
    let len : b - a + (c - b) ≡ c - a = omega arith in
    let place : a + (b - a) ≡ b = omega arith in
    ap (λ (xs : List ℕ). slice_range bytes a b ++ take (c - b) xs) (sym (drop-drop (b - a) a bytes ∙ ap (λ n. drop n bytes) place))
    ∙ sym (take-add (b - a) (c - b) (drop a bytes))
    ∙ ap (λ n. take n (drop a bytes)) len

-- ---- one more index

pub items_at-more : {X : Type 0} (xs : List X) (ps : List ℕ) (k : ℕ) (x : X) → k < length ps → slice_get xs (get_or ps k 0) ≡ Some x
    → items_at xs (take (k + 1) ps) ≡ items_at xs (take k ps) ++ x ∷ []
items_at-more {X} xs ps k x few read = grind (arith, common_steps, take_more, filter_map-append)

pub sum-append : (xs ys : List ℕ) → sum (xs ++ ys) ≡ sum xs + sum ys
sum-append xs ys = sum_by-append (λ n. n) xs ys

pub sum-one : (x : ℕ) → sum (x ∷ []) ≡ x
sum-one x = omega arith

pub ends-append : (n : ℕ) (xs ys : List ℕ) → ends_from n (xs ++ ys) ≡ ends_from n xs ++ ends_from (n + sum xs) ys
ends-append n [] ys = let same : n ≡ n + 0 = omega arith in ap (λ m. ends_from m ys) same
ends-append n (x ∷ xs) ys =
    let next : n + x + sum xs ≡ n + sum (x ∷ xs) = omega (arith, sum-append (x ∷ []) xs, sum-one x) in
    ap (λ (zs : List ℕ). (n + x) ∷ zs) (ends-append (n + x) xs ys ∙ ap (λ m. ends_from (n + x) xs ++ ends_from m ys) next)

pub concat-more : (xss : List (List ℕ)) (xs : List ℕ) → concat (xss ++ xs ∷ []) ≡ concat xss ++ xs
concat-more xss xs = concat-append xss (xs ∷ []) ∙ ap (λ (ys : List ℕ). concat xss ++ ys) (append-nil xs)

pub items_at-append : {X : Type 0} (xs : List X) (ps front here : List ℕ) → ps ≡ front ++ here → items_at xs ps ≡ items_at xs front ++ items_at xs here
items_at-append xs ps front here is = ap (items_at xs) is ∙ filter_map-append (λ i. slice_get xs i) front here

pub sum-parts : (xs ps front here : List ℕ) → ps ≡ front ++ here → sum (items_at xs ps) ≡ sum (items_at xs front) + sum (items_at xs here)
sum-parts xs ps front here is = ap sum (items_at-append xs ps front here is) ∙ sum-append (items_at xs front) (items_at xs here)

-- the sum of the first sizes is no more than that of all
pub sum-first : (xs ps : List ℕ) (k : ℕ) → sum (items_at xs (take k ps)) ≤ sum (items_at xs ps)
sum-first xs ps k = omega (arith, sum-parts xs ps (take k ps) (drop k ps) (sym (take-append-drop k ps)))

-- nor that of fewer than that of more
pub sum-earlier : (xs ps : List ℕ) (k n : ℕ) → k ≤ n → sum (items_at xs (take k ps)) ≤ sum (items_at xs (take n ps))
sum-earlier xs ps k n few = omega (arith, sum-first xs (take n ps) k, ap (λ (qs : List ℕ). sum (items_at xs qs)) (take-take k n ps few))

pub sum-more : (xs ps : List ℕ) (k x : ℕ) → k < length ps → slice_get xs (get_or ps k 0) ≡ Some x → sum (items_at xs (take (k + 1) ps)) ≡ sum (items_at xs (take k ps)) + x
sum-more xs ps k x few read = omega (arith, ap sum (items_at-more xs ps k x few read), sum-append (items_at xs (take k ps)) (x ∷ []), sum-one x)

-- ---- ends that are written

pub ends-step : (ls ps xs old : List ℕ) (from at k end size : ℕ) → k < length ps → at + k < length xs → slice_get ls (get_or ps k 0) ≡ Some size
    → end ≡ from + sum (items_at ls (take k ps)) → take (at + k) xs ≡ take at old ++ ends_from from (items_at ls (take k ps))
    → take (at + (k + 1)) (set xs (at + k) (end + size)) ≡ take at old ++ ends_from from (items_at ls (take (k + 1) ps))
ends-step ls ps xs old from at k end size few room read total so_far =
    let its : List ℕ = items_at ls (take k ps) in
    let next : at + (k + 1) ≡ at + k + 1 = omega arith in
    ap (λ n. take n (set xs (at + k) (end + size))) next
    ∙ take_more_set xs (at + k) (end + size) room
    ∙ ap (λ (zs : List ℕ). zs ++ (end + size) ∷ []) so_far
    ∙ append_assoc (take at old) (ends_from from its) ((end + size) ∷ [])
    ∙ ap (λ (zs : List ℕ). take at old ++ zs)
    (ap (λ n. ends_from from its ++ (n + size) ∷ []) total
    ∙ sym (ap (ends_from from) (items_at-more ls ps k size few read) ∙ ends-append from its (size ∷ [])))

pub behind-step : (xs old : List ℕ) (at k x : ℕ) → drop (at + k) xs ≡ drop (at + k) old → drop (at + (k + 1)) (set xs (at + k) x) ≡ drop (at + (k + 1)) old
behind-step xs old at k x same = grind (arith, common_steps, drop-set-lt, drop-drop)

-- ---- words

-- the offsets of one more word
pub offsets-word : (ls ps front here : List ℕ) (end : ℕ) → ps ≡ front ++ here → end ≡ sum (items_at ls front)
    → offsets_of (items_at ls front) ++ ends_from end (items_at ls here) ≡ offsets_of (items_at ls ps)
offsets-word ls ps front here end is total =
    let same : end ≡ 0 + sum (items_at ls front) = omega (arith, total) in
    ap (λ n. offsets_of (items_at ls front) ++ ends_from n (items_at ls here)) same
    ∙ ap (λ (zs : List ℕ). 0 ∷ zs) (sym (ends-append 0 (items_at ls front) (items_at ls here)))
    ∙ ap offsets_of (sym (items_at-append ls ps front here is))

-- the items at the true indices of the first n values are no more than all
pub sum-below : (ls : List ℕ) (m : List Bool) (n : ℕ) → sum (items_at ls (positions (take n m))) ≤ sum (chosen ls m)
sum-below ls m n =
    let front : List Bool = take n m in
    let split : positions m ≡ positions front ++ indices_from (0 + length front) (drop n m)
    = sym (ap positions (take-append-drop n m)) ∙ indices_from-append 0 front (drop n m) in
    omega (arith, sum-parts ls (positions m) (positions front) (indices_from (0 + length front) (drop n m)) split, ap sum (chosen_at_positions ls m))

-- nor are those of one more word behind the ones before it
pub sum-word : (ls : List ℕ) (m : List Bool) (i : ℕ) (here : List ℕ) → positions (take (64 * (i + 1)) m) ≡ positions (take (64 * i) m) ++ here
    → sum (items_at ls (positions (take (64 * i) m))) + sum (items_at ls here) ≤ sum (chosen ls m)
sum-word ls m i here is = omega (arith, sum-parts ls (positions (take (64 * (i + 1)) m)) (positions (take (64 * i) m)) here is, sum-below ls m (64 * (i + 1)))

-- what comes behind holds too
pub All-behind : (P : ℕ → Type 0) (xs ys zs : List ℕ) → zs ≡ xs ++ ys → All P zs → All P ys
All-behind P xs ys zs is all = λ k d h.
    let place : length xs + k - length xs ≡ k = omega arith in
    subst P (ap (λ (us : List ℕ). get_or us (length xs + k) d) is ∙ get_or-append_right xs ys (length xs) (length xs + k) d refl (omega arith) ∙ ap (λ n. get_or ys n d) place) (all (length xs + k) d (omega (arith, ap length is, length-append xs ys)))

-- the indices of a word are those of strings
pub word-within : (m : List Bool) (front here : List ℕ) (i n : ℕ) → positions (take (64 * (i + 1)) m) ≡ front ++ here → n ≡ length m + 1 → All (λ p. p + 1 < n) here
word-within m front here i n is len =
    let begun : List Bool = take (64 * (i + 1)) m in
    All-behind (λ p. p + 1 < n) front here (positions begun) is
    (All-weaker (λ p. p < length begun) (λ p. p + 1 < n) (λ p h. omega (arith, length-take (64 * (i + 1)) m)) (positions begun) (positions-within begun))

-- and are more by as many as it has
pub word-counted : (m : List Bool) (i : ℕ) (here : List ℕ) → positions (take (64 * (i + 1)) m) ≡ positions (take (64 * i) m) ++ here
    → count (take (64 * (i + 1)) m) ≡ count (take (64 * i) m) + length here
word-counted m i here is = ap length is ∙ length-append (positions (take (64 * i) m)) here

-- all words have all items
pub items-all : {X : Type 0} (xs : List X) (m : List Bool) (n : ℕ) → length m ≤ n → items_at xs (positions (take n m)) ≡ chosen xs m
items-all xs m n past = ap (λ (x : List Bool). items_at xs (positions x)) (take_all n m past) ∙ sym (chosen_at_positions xs m)

-- ---- bytes that are written

-- one more string
pub bytes-step : (bytes front new : List ℕ) (its : List (List ℕ)) (begin from to : ℕ) → begin ≤ from → from ≤ to
    → new ++ slice_range bytes begin from ≡ front ++ concat its → new ++ slice_range bytes begin to ≡ front ++ concat (its ++ slice_range bytes from to ∷ [])
bytes-step bytes front new its begin from to first second so_far = grind (arith, common_steps, range-join, append_assoc, concat-more)

-- the bytes of one more word
pub bytes-word : (xss : List (List ℕ)) (ps front here : List ℕ) → ps ≡ front ++ here → concat (items_at xss front) ++ concat (items_at xss here) ≡ concat (items_at xss ps)
bytes-word xss ps front here is = sym (ap concat (items_at-append xss ps front here is) ∙ concat-append (items_at xss front) (items_at xss here))

-- ---- no more than all

sum-where_true : (m : List Bool) (xs : List ℕ) → sum (items_where_true m xs) ≤ sum xs
sum-where_true [] xs = omega arith
sum-where_true (b ∷ m) [] = omega arith
sum-where_true (true ∷ m) (x ∷ xs) = omega (arith, sum-where_true m xs, sum-append (x ∷ []) xs, sum-append (x ∷ []) (items_where_true m xs))
sum-where_true (false ∷ m) (x ∷ xs) = omega (arith, sum-where_true m xs, sum-append (x ∷ []) xs)

sum-sizes : (offsets : List ℕ) → IsNonDecreasing offsets → (k : ℕ) → k < length offsets → sum (take k (sizes offsets)) + get_or offsets 0 0 ≡ get_or offsets k 0
sum-sizes offsets ascending zero h = omega arith
sum-sizes offsets ascending (suc k) h =
    let next : suc k ≡ k + 1 = omega arith in
    omega (
      arith,
      sum-sizes offsets ascending k (omega arith),
      ap (λ n. sum (take n (sizes offsets))) next,
      ap (λ n. get_or offsets n 0) next,
      sum_by_more (λ n. n) (sizes offsets) k 0 (omega (arith, length-sizes offsets)),
      get_or_from_slice_get (sizes offsets) k (get_or offsets (k + 1) 0 - get_or offsets k 0) 0 (slice_get-sizes offsets k (omega arith)),
      ascending k (k + 1) 0 (omega arith) (omega arith),
    )

-- the strings that are chosen have no more bytes than the last offset says
pub sum-chosen : (offsets : List ℕ) (m : List Bool) (n : ℕ) → IsNonDecreasing offsets → length offsets ≡ n + 1 → sum (chosen (sizes offsets) m) ≤ get_or offsets n 0
sum-chosen offsets m n ascending len =
    omega (arith, ap sum (chosen-items_where_true (sizes offsets) m), sum-where_true m (sizes offsets), sum-sizes offsets ascending n (omega arith), ap sum (take_all n (sizes offsets) (omega (arith, length-sizes offsets))))

pub number_itself : (xs : List ℕ) → map (λ n. n) xs ≡ xs
number_itself xs = map-id xs
