-- The indices that two ascending lists have in common, found at their fronts.
use Rattle.mask_bits.proofs.Common.{filter, true, Bool, map, map-append, length-map, take-append-le, take_all, drop-append-le, common_steps, take-set_at, suc, append_assoc, append-nil, ◌≡◌, ℕ, ◌+◌, ◌<◌, ◌≤◌, false, nat_eq, nat_le, set, List, [], ◌∷◌, ◌++◌, length, get_or, take, drop, ◌||◌, ◌-◌, cond, refl, sym, ap, ap₂, subst, ◌∙◌, ◌⊎◌, inl, inr, arith, copy_within, list_any, take-paste, paste, IsStrictlyIncreasing, le-leb, lt-leb, eq-eqb, ne_eqb, cases_lt, cases_eq, cases_order, or-false, drop-set-lt, set-get_or, length-set, drop_more, length-drop, length-take, get_or-take, take-append-drop, take-set, take-take, get_or-drop, drop_all, drop-drop, get_or_default, All-head, All-tail, All-cons, All-weaker, filter-append, filter_more, list_any_none, list_any-append, list_any-from_Any, AllPairs-from_increasing, common, AreSplit, IsAt, IsFound, GoesOn, comes_to, All, Some, slice_get, get_or_from_slice_get, slice_get_within}
use Rattle.mask_bits.proofs.Lists.Places.AscendingLemmas.{none-is, rises_to}
use mir.Val.{bool_byte}

-- a merge is under way that stands there, where what is left of the list ascends
record IsUnderWay (list other : List ℕ) (i j n : ℕ) : Type 0 where
  fewer : n ≤ i
  within_list : i ≤ length list
  within_other : j ≤ length other
  ascending : IsStrictlyIncreasing (drop i list)

-- and has gone on, and comes to the same
record Merged (list new other : List ℕ) (i j n i' j' n' : ℕ) : Type 0 where
  under_way : IsUnderWay new other i' j' n'
  same : comes_to new other i' j' n' ≡ comes_to list other i j n

-- what ascends from place i on does so from a later one on
pub ascending-later : (xs : List ℕ) (i k : ℕ) → i ≤ k → IsStrictlyIncreasing (drop i xs) → IsStrictlyIncreasing (drop k xs)
ascending-later xs i k h ascending m inside = grind (arith, common_steps, length-drop i xs, length-drop k xs, get_or-drop i xs (k - i + m) 0, get_or-drop i xs (k - i + m + 1) 0, get_or-drop k xs m 0, get_or-drop k xs (m + 1) 0)

common-none : (xs : List ℕ) → common xs [] ≡ []
common-none [] = refl
common-none (x ∷ xs) = common-none xs

-- the one list's first is below all of the other
common-left : (x : ℕ) (xs ys : List ℕ) → All (λ y. x < y) ys → common (x ∷ xs) ys ≡ common xs ys
common-left x xs ys below = rw (list_any_none (nat_eq x) ys (λ k d h. ne_eqb x (get_or ys k d) (λ same. absurd (omega (arith, below k d h))))) refl

-- the other's first is below all of the one
common-right : (y : ℕ) (xs ys : List ℕ) → All (λ x. y < x) xs → common xs (y ∷ ys) ≡ common xs ys
common-right y [] ys below = refl
common-right y (x ∷ xs) ys below = grind (arith, common_steps, ne_eqb, All-head, All-tail, common-right y xs ys (All-tail (λ x. y < x) x xs below))

-- both have the same first
common-first : (x : ℕ) (xs ys : List ℕ) → All (λ z. x < z) xs → common (x ∷ xs) (x ∷ ys) ≡ x ∷ common xs ys
common-first x xs ys below = rw (eq-eqb x x refl, common-right x xs ys below) refl

-- ---- either list may come first

above-first : (x : ℕ) (xs : List ℕ) → IsStrictlyIncreasing (x ∷ xs) → All (λ z. x < z) xs
above-first x xs ascending k d h = omega (arith, get_or_default xs k d 0 h, AllPairs-from_increasing (x ∷ xs) ascending 0 (suc k) 0 (omega arith) (omega arith))

above-all : (x y : ℕ) (ys : List ℕ) → IsStrictlyIncreasing (y ∷ ys) → x < y → All (λ z. x < z) (y ∷ ys)
above-all x y ys ascending less = All-cons (λ z. x < z) y ys less (All-weaker (λ z. y < z) (λ z. x < z) (λ z more. omega arith) ys (above-first y ys ascending))

ascending-rest : (x : ℕ) (xs : List ℕ) → IsStrictlyIncreasing (x ∷ xs) → IsStrictlyIncreasing xs
ascending-rest x xs ascending k h =
    let next : suc k + 1 ≡ suc (k + 1) = omega arith in
    subst (λ (j : ℕ). get_or xs k 0 < get_or (x ∷ xs) j 0) next (ascending (suc k) (omega arith))

pub common_either_way : (xs ys : List ℕ) → IsStrictlyIncreasing xs → IsStrictlyIncreasing ys → common xs ys ≡ common ys xs
common_either_way [] ys a b = sym (common-none ys)
common_either_way (x ∷ xs) [] a b = common-none (x ∷ xs)
common_either_way (x ∷ xs) (y ∷ ys) a b = elim (cases_order x y) [
  | inl same ↦
      let e : common (y ∷ ys) (y ∷ xs) ≡ y ∷ common ys xs = common-first y ys xs (above-first y ys b) in
      ap (λ z. common (x ∷ xs) (z ∷ ys)) (sym same)
      ∙ common-first x xs ys (above-first x xs a)
      ∙ ap (λ zs. x ∷ zs) (common_either_way xs ys (ascending-rest x xs a) (ascending-rest y ys b))
      ∙ ap (λ z. z ∷ common ys xs) same
      ∙ sym e
      ∙ ap (λ z. common (y ∷ ys) (z ∷ xs)) (sym same)
  | inr (inl less) ↦
      let above : All (λ z. x < z) (y ∷ ys) = above-all x y ys b less in
      common-left x xs (y ∷ ys) above
      ∙ common_either_way xs (y ∷ ys) (ascending-rest x xs a) b
      ∙ sym (common-right x (y ∷ ys) xs above)
  | inr (inr more) ↦
      let above : All (λ z. y < z) (x ∷ xs) = above-all y x xs a more in
      common-right y (x ∷ xs) ys above
      ∙ common_either_way (x ∷ xs) ys a (ascending-rest y ys b)
      ∙ sym (common-left y ys (x ∷ xs) above)
]

-- ---- what is left of two lists, from place i of the one and from place j of the other

common-equal : (xs ys : List ℕ) (i j : ℕ) → IsStrictlyIncreasing (drop i xs) → i < length xs → j < length ys → get_or xs i 0 ≡ get_or ys j 0
    → common (drop i xs) (drop j ys) ≡ get_or xs i 0 ∷ common (drop (i + 1) xs) (drop (j + 1) ys)
common-equal xs ys i j ascending h k same = grind (arith, common_steps, drop_more xs i 0 h, drop_more ys j 0 k, common-first, above-first (get_or xs i 0) (drop (i + 1) xs) (subst IsStrictlyIncreasing (drop_more xs i 0 h) ascending))

-- one of them is at its end
pub common-over : (xs ys : List ℕ) (i j : ℕ) → (length xs ≤ i) ⊎ (length ys ≤ j) → common (drop i xs) (drop j ys) ≡ []
common-over xs ys i j (inl h) = rw (drop_all i xs h) refl
common-over xs ys i j (inr h) = rw (drop_all j ys h) (common-none (drop i xs))

-- ---- one more index of the one list, where so many of the other are below it

pub common-found : (xs ys : List ℕ) (i n : ℕ) → i < length xs → n < length ys → get_or ys n 0 ≡ get_or xs i 0
    → common (take (i + 1) xs) ys ≡ common (take i xs) ys ++ get_or xs i 0 ∷ []
common-found xs ys i n h k same = grind (arith, common_steps, list_any-from_Any, get_or_default, eq-eqb, filter_more)

pub common-missed : (xs ys : List ℕ) (i n : ℕ) → IsStrictlyIncreasing ys → i < length xs → AreSplit ys n (get_or xs i 0)
    → (n < length ys → get_or ys n 0 ≡ get_or xs i 0 → ⊥) → common (take (i + 1) xs) ys ≡ common (take i xs) ys
common-missed xs ys i n ascending h split missed =
    let x : ℕ = get_or xs i 0 in
    let lacks : list_any (nat_eq (get_or xs i 0)) ys ≡ false = none-is (get_or xs i 0) ys (λ k inside same. elim (cases_lt k n) [
      | inl before ↦ absurd (omega (arith, split.before k before))
      | inr after ↦ elim (cases_eq (get_or ys n 0) (get_or xs i 0)) [
        | inl here ↦ missed (omega arith) here
        | inr apart ↦ absurd (omega (arith, split.after n (omega arith) (omega arith), rises_to ys n k ascending after inside, apart))
      ]
    ]) in
    filter_more (λ x. list_any (nat_eq x) ys) xs i 0 h ∙ ap (λ b. common (take i xs) ys ++ cond b (get_or xs i 0 ∷ []) []) lacks ∙ append-nil (common (take i xs) ys)

-- ---- both lists in two parts each

-- those below x are not among those that aren't
common-below : (x : ℕ) (zs ys ws : List ℕ) → All (λ z. z < x) zs → All (λ w. x ≤ w) ws → common zs (ys ++ ws) ≡ common zs ys
common-below x [] ys ws low above = refl
common-below x (z ∷ zs) ys ws low above =
    let none : list_any (nat_eq z) ws ≡ false = list_any_none (nat_eq z) ws (λ k d h. ne_eqb z (get_or ws k d) (λ same. absurd (omega (arith, above k d h, All-head (λ z. z < x) z zs low)))) in
    let e : list_any (nat_eq z) (ys ++ ws) ≡ list_any (nat_eq z) ys = list_any-append (nat_eq z) ys ws ∙ ap (λ b. list_any (nat_eq z) ys || b) none ∙ or-false (list_any (nat_eq z) ys) in
    rw (e, common-below x zs ys ws (All-tail (λ z. z < x) z zs low) above) refl

common-above : (x : ℕ) (zs ys ws : List ℕ) → All (λ z. x ≤ z) zs → All (λ y. y < x) ys → common zs (ys ++ ws) ≡ common zs ws
common-above x [] ys ws high below = refl
common-above x (z ∷ zs) ys ws high below =
    let none : list_any (nat_eq z) ys ≡ false = list_any_none (nat_eq z) ys (λ k d h. ne_eqb z (get_or ys k d) (λ same. absurd (omega (arith, below k d h, All-head (λ z. x ≤ z) z zs high)))) in
    let e : list_any (nat_eq z) (ys ++ ws) ≡ list_any (nat_eq z) ws = list_any-append (nat_eq z) ys ws ∙ ap (λ b. b || list_any (nat_eq z) ws) none in
    rw (e, common-above x zs ys ws (All-tail (λ z. x ≤ z) z zs high) below) refl

-- the first of a list are below y, or those from a place on aren't
all-first : (us : List ℕ) (k y : ℕ) → ((m : ℕ) → m < k → get_or us m 0 < y) → All (λ z. z < y) (take k us)
all-first us k y below m d inside = grind (arith, length-take, get_or_default, get_or-take)

all-last : (us : List ℕ) (k y : ℕ) → ((m : ℕ) → k ≤ m → m < length us → y ≤ get_or us m 0) → All (λ z. y ≤ z) (drop k us)
all-last us k y above m d inside = grind (arith, length-drop, get_or_default, get_or-drop)

pub common-parts : (xs ys : List ℕ) (m n : ℕ) → IsStrictlyIncreasing xs → m < length xs → AreSplit ys n (get_or xs m 0)
    → common xs ys ≡ common (take m xs) (take n ys) ++ common (drop m xs) (drop n ys)
common-parts xs ys m n ascending h split =
    let x = get_or xs m 0 in
    let low = all-first xs m x (λ k few. AllPairs-from_increasing xs ascending k m 0 few h) in
    let high = all-last xs m x (λ k later inside. rises_to xs m k ascending later inside) in
    let below = all-first ys n x split.before in
    let above = all-last ys n x split.after in
    ap (λ zs. common zs ys) (sym (take-append-drop m xs))
    ∙ filter-append (λ z. list_any (nat_eq z) ys) (take m xs) (drop m xs)
    ∙ ap (λ zs. common (take m xs) zs ++ common (drop m xs) zs) (sym (take-append-drop n ys))
    ∙ ap₂ (λ zs ws. zs ++ ws) (common-below x (take m xs) (take n ys) (drop n ys) low above) (common-above x (drop m xs) (take n ys) (drop n ys) high below)

-- ---- a step of a merge into the first list

-- what is below all that the other list has left is in it no more
common-passed : (us vs : List ℕ) (k y : ℕ) → All (λ z. z < y) (take k us) → All (λ z. y ≤ z) vs → common us vs ≡ common (drop k us) vs
common-passed us vs k y low high =
    ap (λ zs. common zs vs) (sym (take-append-drop k us)) ∙ filter-append (λ z. list_any (nat_eq z) vs) (take k us) (drop k us)
    ∙ ap (λ zs. zs ++ common (drop k us) vs) (common-below y (take k us) [] vs low high ∙ common-none (take k us))

common-passed_right : (us vs : List ℕ) (k x : ℕ) → All (λ z. x ≤ z) us → All (λ z. z < x) (take k vs) → common us vs ≡ common us (drop k vs)
common-passed_right us vs k x high low = ap (common us) (sym (take-append-drop k vs)) ∙ common-above x us (take k vs) (drop k vs) high low

goes-past : (xs ys : List ℕ) (i j n k l : ℕ) → IsUnderWay xs ys i j n → i + k ≤ length xs → j + l ≤ length ys
    → common (drop i xs) (drop j ys) ≡ common (drop k (drop i xs)) (drop l (drop j ys)) → Merged xs xs ys i j n (i + k) (j + l) n
goes-past xs ys i j n k l w left right same = grind (arith, common_steps, ascending-later xs i (i + k) (omega arith) w.ascending, drop-drop k i xs, drop-drop l j ys)

-- some indices of the one list, or of the other, are passed at once
goes-list : (xs ys : List ℕ) (i j n k : ℕ) → IsStrictlyIncreasing ys → i + k < length xs → j < length ys → IsUnderWay xs ys i j n
    → get_or xs (i + k) 0 < get_or ys j 0 → Merged xs xs ys i j n (i + (k + 1)) (j + 0) n
goes-list xs ys i j n k b h h' w less =
    goes-past xs ys i j n (k + 1) 0 w (omega arith) (omega arith) (common-passed (drop i xs) (drop j ys) (k + 1) (get_or ys j 0)
    (all-first (drop i xs) (k + 1) (get_or ys j 0) (λ m few. omega (arith, get_or-drop i xs k 0, rises_to (drop i xs) m k w.ascending (omega arith) (omega (arith, length-drop i xs)))))
    (all-last ys j (get_or ys j 0) (λ m later inside. rises_to ys j m b later inside)))

goes-other : (xs ys : List ℕ) (i j n k : ℕ) → IsStrictlyIncreasing ys → i < length xs → j + k < length ys → IsUnderWay xs ys i j n
    → get_or ys (j + k) 0 < get_or xs i 0 → Merged xs xs ys i j n (i + 0) (j + (k + 1)) n
goes-other xs ys i j n k b h h' w less =
    let first : i + 0 ≡ i = omega arith in
    goes-past xs ys i j n 0 (k + 1) w (omega arith) (omega arith) (common-passed_right (drop i xs) (drop j ys) (k + 1) (get_or xs i 0)
    (all-last (drop i xs) 0 (get_or xs i 0) (λ m later inside. omega (arith, get_or-drop i xs 0 0, ap (λ p. get_or xs p 0) first, rises_to (drop i xs) 0 m w.ascending later inside)))
    (all-first (drop j ys) (k + 1) (get_or xs i 0) (λ m few. omega (arith, get_or-drop j ys m 0, rises_to ys (j + m) (j + k) b (omega arith) h'))))

-- an index moved down to place n leaves what comes from its own place on
kept_from : (xs : List ℕ) (i n : ℕ) → n ≤ i → drop i (set xs n (get_or xs i 0)) ≡ drop i xs
kept_from xs i n h = grind (arith, common_steps, cases_lt, drop-set-lt, set-get_or)

goes-nowhere : (xs ys : List ℕ) (i j n : ℕ) → IsUnderWay xs ys i j n → Merged xs (set xs n (get_or xs i 0)) ys i j n i j n
goes-nowhere xs ys i j n w = grind (arith, common_steps, kept_from, length-set, take-set)

goes-equal : (xs ys : List ℕ) (i j n : ℕ) → i < length xs → j < length ys → IsUnderWay xs ys i j n
    → get_or xs i 0 ≡ get_or ys j 0 → Merged xs (set xs n (get_or xs i 0)) ys i j n (i + 1) (j + 1) (n + 1)
goes-equal xs ys i j n h k w both =
    let x : ℕ = get_or xs i 0 in
    let kept : drop (i + 1) (set xs n x) ≡ drop (i + 1) xs = drop-set-lt (i + 1) xs n x (omega (arith, w.fewer)) in
    let found : take (n + 1) (set xs n x) ≡ take n xs ++ x ∷ [] = take-set_at xs n (n + 1) x refl (omega (arith, w.fewer)) in
    record {
      under_way = record {
        fewer = omega (arith, w.fewer);
        within_list = omega (arith, length-set xs n x);
        within_other = omega arith;
        ascending = subst IsStrictlyIncreasing (sym kept) (ascending-later xs i (i + 1) (omega arith) w.ascending);
      };
      same = ap₂ (λ zs ws. zs ++ common ws (drop (j + 1) ys)) found kept
          ∙ append_assoc (take n xs) (x ∷ []) (common (drop (i + 1) xs) (drop (j + 1) ys))
          ∙ ap (λ zs. take n xs ++ zs) (sym (common-equal xs ys i j w.ascending h k both));
    }

goes-step : (xs ys : List ℕ) (i j n : ℕ) → IsStrictlyIncreasing ys → i < length xs → j < length ys → IsUnderWay xs ys i j n
    → Merged xs (set xs n (get_or xs i 0)) ys i j n (i + bool_byte (nat_le (get_or xs i 0) (get_or ys j 0))) (j + bool_byte (nat_le (get_or ys j 0) (get_or xs i 0))) (n + bool_byte (nat_eq (get_or xs i 0) (get_or ys j 0)))
goes-step xs ys i j n b h k w =
    let x : ℕ = get_or xs i 0 in
    let y : ℕ = get_or ys j 0 in
    let new : List ℕ = set xs n x in
    let all : length new ≡ length xs = length-set xs n x in
    let none : n + 0 ≡ n = omega arith in
    let here : get_or new (i + 0) 0 ≡ get_or xs (i + 0) 0 = sym (get_or-drop i new 0 0) ∙ ap (λ zs. get_or zs 0 0) (kept_from xs i n w.fewer) ∙ get_or-drop i xs 0 0 in
    let at_i : i + 0 ≡ i = omega arith in
    let at_j : j + 0 ≡ j = omega arith in
    let stays = goes-nowhere xs ys i j n w in
    elim (cases_order (get_or xs i 0) (get_or ys j 0)) [
      | inl same ↦ rw (le-leb x y (omega arith), le-leb y x (omega arith), eq-eqb x y same) (goes-equal xs ys i j n h k w same)
      | inr (inl less) ↦
          let on = goes-list new ys i j n 0 b (omega arith) k stays.under_way (omega (arith, here, ap (λ p. get_or xs p 0) at_i)) in
          rw (le-leb x y (omega arith), lt-leb y x less, ne_eqb x y (λ e. absurd (omega arith)), none) (record { under_way = on.under_way; same = on.same ∙ stays.same })
      | inr (inr more) ↦
          let on = goes-other new ys i j n 0 b (omega arith) (omega arith) stays.under_way (omega (arith, here, ap (λ p. get_or new p 0) at_i, ap (λ p. get_or xs p 0) at_i, ap (λ p. get_or ys p 0) at_j)) in
          rw (lt-leb x y more, le-leb y x (omega arith), ne_eqb x y (λ e. absurd (omega arith)), none) (record { under_way = on.under_way; same = on.same ∙ stays.same })
    ]

-- ---- the same of lists that may not ascend, of which only the places are known then

stands : (xs ys : List ℕ) (i j n : ℕ) → IsAt xs ys i j n → IsStrictlyIncreasing (drop i xs) → IsUnderWay xs ys i j n
stands xs ys i j n w ascending = record { fewer = w.fewer; within_list = w.within_list; within_other = w.within_other; ascending = ascending }

pub goes-stay : (xs ys : List ℕ) (i j n : ℕ) → IsAt xs ys i j n → GoesOn xs xs ys i j n i j n
goes-stay xs ys i j n w = record { at = w; ascends = λ b a. a; same = λ b a. refl }

pub goes-further : (xs zs ws ys : List ℕ) (i j n i' j' n' i'' j'' n'' : ℕ) → GoesOn xs zs ys i j n i' j' n' → GoesOn zs ws ys i' j' n' i'' j'' n'' → GoesOn xs ws ys i j n i'' j'' n''
goes-further xs zs ws ys i j n i' j' n' i'' j'' n'' first second = record {
  at = second.at;
  ascends = λ b a. second.ascends b (first.ascends b a);
  same = λ b a. second.same b (first.ascends b a) ∙ first.same b a;
}

-- a run of the one list is passed, or of the other
pub goes-past_list : (xs ys : List ℕ) (i j n k : ℕ) → IsAt xs ys i j n → i + k < length xs → j < length ys → get_or xs (i + k) 0 < get_or ys j 0
    → GoesOn xs xs ys i j n (i + (k + 1)) j n
goes-past_list xs ys i j n k w h h' less =
    let at_j : j + 0 ≡ j = omega arith in
    let on : IsStrictlyIncreasing ys → IsStrictlyIncreasing (drop i xs) → Merged xs xs ys i j n (i + (k + 1)) j n
    = λ b a. subst (λ (m : ℕ). Merged xs xs ys i j n (i + (k + 1)) m n) at_j (goes-list xs ys i j n k b h h' (stands xs ys i j n w a) less) in
    record {
      at = record { fewer = omega (arith, w.fewer); within_list = omega arith; within_other = omega arith };
      ascends = λ b a. (on b a).under_way.ascending;
      same = λ b a. (on b a).same;
    }

pub goes-past_other : (xs ys : List ℕ) (i j n k : ℕ) → IsAt xs ys i j n → i < length xs → j + k < length ys → get_or ys (j + k) 0 < get_or xs i 0
    → GoesOn xs xs ys i j n i (j + (k + 1)) n
goes-past_other xs ys i j n k w h h' less =
    let at_i : i + 0 ≡ i = omega arith in
    let on : IsStrictlyIncreasing ys → IsStrictlyIncreasing (drop i xs) → Merged xs xs ys i j n i (j + (k + 1)) n
    = λ b a. subst (λ (m : ℕ). Merged xs xs ys i j n m (j + (k + 1)) n) at_i (goes-other xs ys i j n k b h h' (stands xs ys i j n w a) less) in
    record {
      at = record { fewer = w.fewer; within_list = omega arith; within_other = omega arith };
      ascends = λ b a. (on b a).under_way.ascending;
      same = λ b a. (on b a).same;
    }

-- a step, where the numbers were read and one was put
step-places : (x y : ℕ) → (bool_byte (nat_le x y) ≤ 1) × (bool_byte (nat_le y x) ≤ 1) × (bool_byte (nat_eq x y) ≤ bool_byte (nat_le x y))
step-places x y = elim (cases_order x y) [
  | inl same ↦ rw (le-leb x y (omega arith), le-leb y x (omega arith), eq-eqb x y same) (omega arith, omega arith, omega arith)
  | inr (inl less) ↦ rw (le-leb x y (omega arith), lt-leb y x less, ne_eqb x y (λ e. absurd (omega arith))) (omega arith, omega arith, omega arith)
  | inr (inr more) ↦ rw (lt-leb x y more, le-leb y x (omega arith), ne_eqb x y (λ e. absurd (omega arith))) (omega arith, omega arith, omega arith)
]

pub goes-by : (xs ys new : List ℕ) (i j n x y : ℕ) → IsAt xs ys i j n → slice_get xs i ≡ Some x → slice_get ys j ≡ Some y → new ≡ set xs n x
    → GoesOn xs new ys i j n (i + bool_byte (nat_le x y)) (j + bool_byte (nat_le y x)) (n + bool_byte (nat_eq x y))
goes-by xs ys new i j n x y w left right put =
    let inside : i < length xs = slice_get_within xs i x left in
    let inside_other : j < length ys = slice_get_within ys j y right in
    let len : length new ≡ length xs = ap length put ∙ length-set xs n x in
    let few = step-places x y in
    let on : IsStrictlyIncreasing ys → IsStrictlyIncreasing (drop i xs) → Merged xs new ys i j n (i + bool_byte (nat_le x y)) (j + bool_byte (nat_le y x)) (n + bool_byte (nat_eq x y))
    = λ b a. rw (put, ← get_or_from_slice_get xs i x 0 left, ← get_or_from_slice_get ys j y 0 right) (goes-step xs ys i j n b inside inside_other (stands xs ys i j n w a)) in
    record {
      at = record { fewer = omega (arith, w.fewer, few.2); within_list = omega (arith, few.0); within_other = omega (arith, few.1) };
      ascends = λ b a. (on b a).under_way.ascending;
      same = λ b a. (on b a).same;
    }

-- and its end
pub merge_is_over : (xs ys : List ℕ) (i j n : ℕ) → (length xs ≤ i) ⊎ (length ys ≤ j) → take n xs ≡ comes_to xs ys i j n
merge_is_over xs ys i j n over = sym (append-nil (take n xs)) ∙ ap (λ zs. take n xs ++ zs) (sym (common-over xs ys i j over))

ascending-take : (n : ℕ) (xs : List ℕ) → IsStrictlyIncreasing xs → IsStrictlyIncreasing (take n xs)
ascending-take n xs ascending = grind (arith, length-take, get_or-take)

-- what was found in the first parts and in the last ones, moved together
pub found-joined : (xs ys both moved : List ℕ) (m n f l : ℕ) → m < length xs → n ≤ length ys → (IsStrictlyIncreasing ys → AreSplit ys n (get_or xs m 0))
    → IsFound (take m xs) (take n ys) (take m both) f → IsFound (drop m xs) (drop n ys) (drop m both) l → length moved ≡ length both → length both ≡ length xs
    → take (f + l) moved ≡ take f both ++ take l (drop m both) → IsFound xs ys moved (f + l)
found-joined xs ys both moved m n f l h h' split first last len len' joined = record {
  within = omega (arith, first.within, last.within, length-take m both, length-drop m both);
  found = λ a b.
      joined
      ∙ ap₂ (λ zs ws. zs ++ ws) (sym (take-take f m both (omega (arith, first.within, length-take m both))) ∙ first.found (ascending-take m xs a) (ascending-take n ys b)) (last.found (ascending-later xs 0 m (omega arith) a) (ascending-later ys 0 n (omega arith) b))
      ∙ sym (common-parts xs ys m n a h (split b));
}

-- a merge from the fronts that has gone on, and what it ends with
pub found-from_fronts : (xs now both ys : List ℕ) (i j n r : ℕ) → GoesOn xs now ys 0 0 0 i j n → r ≤ length both
    → (IsStrictlyIncreasing ys → IsStrictlyIncreasing (drop i now) → take r both ≡ comes_to now ys i j n) → IsFound xs ys both r
found-from_fronts xs now both ys i j n r on within rest = record {
  within = within;
  found = λ a b. rest b (on.ascends b a) ∙ on.same b a;
}

-- items from place m on, moved behind the first f
pub take-moved : {X : Type 0} (xs : List X) (m f l : ℕ) → f ≤ m → m + l ≤ length xs → take (f + l) (copy_within xs m (m + l) f) ≡ take f xs ++ take l (drop m xs)
take-moved xs m f l before inside = grind (arith, paste, take-paste, length-drop, length-take)

pub found-same : (xs xs' ys ys' both both' : List ℕ) (n : ℕ) → xs ≡ xs' → ys ≡ ys' → both ≡ both' → IsFound xs ys both n → IsFound xs' ys' both' n
found-same xs xs' ys ys' both both' n left right joined found = subst (λ zs. IsFound zs ys' both' n) left (subst (λ zs. IsFound xs zs both' n) right (subst (λ zs. IsFound xs ys zs n) joined found))

-- two parts, one after the other
pub part-first : {X : Type 0} (f : X → ℕ) (xs ys : List X) (n : ℕ) → length xs ≡ n → map f xs ≡ take n (map f (xs ++ ys))
part-first f xs ys n len = grind (arith, map-append, take-append-le, take_all, length-map)

pub part-last : {X : Type 0} (f : X → ℕ) (xs ys : List X) (n : ℕ) → length xs ≡ n → map f ys ≡ drop n (map f (xs ++ ys))
part-last f xs ys n len = grind (arith, map-append, drop-append-le, drop_all, length-map)

-- ---- those of a list that pass a test

-- a bool counts as one at most
pub bool_byte-le : (b : Bool) → bool_byte b ≤ 1
bool_byte-le true = omega arith
bool_byte-le false = omega arith

-- an item put behind those so far is one of them where it passes
put-passing : {X : Type 0} (out found : List X) (n : ℕ) (x : X) (b : Bool) → n < length out → take n out ≡ found → take (n + bool_byte b) (set out n x) ≡ found ++ cond b (x ∷ []) []
put-passing out found n x true room so_far = take-set_at out n (n + 1) x refl room ∙ ap (λ zs. zs ++ x ∷ []) so_far
put-passing out found n x false room so_far = let same : n + 0 ≡ n = omega arith in ap (λ (m : ℕ). take m (set out n x)) same ∙ take-set out n x ∙ so_far ∙ sym (append-nil found)

pub filtered-more : {X : Type 0} (f : X → Bool) (xs out : List X) (k n : ℕ) (x : X) → slice_get xs k ≡ Some x → n < length out → take n out ≡ filter f (take k xs)
    → take (n + bool_byte (f x)) (set out n x) ≡ filter f (take (k + 1) xs)
filtered-more f xs out k n x read room so_far =
    let here : get_or xs k x ≡ x = get_or_from_slice_get xs k x x read in
    put-passing out (filter f (take k xs)) n x (f x) room so_far
    ∙ ap (λ z. filter f (take k xs) ++ cond (f z) (z ∷ []) []) (sym here)
    ∙ sym (filter_more f xs k x (slice_get_within xs k x read))
