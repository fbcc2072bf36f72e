-- What a test leaves of the values of words and of bytes, and one bit after another.
use Rattle.mask_bits.proofs.Common.{◌≡◌, ◌≢◌, ℕ, ◌+◌, ◌-◌, ◌*◌, ◌/◌, ◌%◌, ◌^◌, ◌<◌, ◌≤◌, Bool, true, false, List, [], ◌∷◌, length, get_or, map, min, put_mid, take, drop, zip, nat_eq, refl, sym, subst, ap, ◌∙◌, inl, inr, arith, All, All-head, All-tail, ap₂, ◌++◌, repeated, get_or_past, bit_at_above, Bor, FnReturnsAt, Shared, bit_at, bit_and, bit_or, bool_byte, cases_eq, cases_lt, nat_tests, get_or-take, get_or-drop, bit_at-lt, bit_at-zero, bit_at_and, bit_at_or, bit_at_set_same, bit_at_set_other, w64, AreAnswers, AreLeft, AreLeftAsComputed, leaves, and_of, bitmap, backing_bit, window, word_bits, ◌⊎◌, length-take-le, length-drop}
use Rattle.mask_bits.proofs.BufferLemmas.{length-values}
use Rattle.mask_bits.proofs.Lists.CountLemmas.{get_or-padded}
use Rattle.mask_bits.proofs.Lists.LeavesLemmas.{LeavesEach, answer_at, left_from_places, places_of_left}
use Rattle.mask_bits.proofs.Lists.Words.FrontLemmas.{get_or-front, get_or-put_mid_inside, get_or-window}
use Rattle.mask_bits.proofs.Lists.Words.LowestLemmas.{low, low-within, low-set, low-first, bit_at-lowest_cleared, bit_at-lowest_others}
use Rattle.mask_bits.proofs.Lists.Words.WordLemmas.{get_or-word_bits, length-word_bits}
use Rattle.std.proofs.lemmas.Slice.Zip.{length-zip}

-- ---- of a word

-- the lowest n bits of a word, each of what it is at its row
pub left_of_bits : {T : Type 0} (gives : T → Bool → Type 0) (rows : List T) (word left : ℕ) → length rows ≤ 64
    → LeavesEach gives rows (λ j. nat_eq (bit_at word j) 1) (λ j. nat_eq (bit_at left j) 1) (length rows) → AreLeft gives rows (word_bits word) (take (length rows) (word_bits left))
left_of_bits gives rows word left few at =
    left_from_places gives rows (word_bits word) (take (length rows) (word_bits left)) (omega (arith, length-word_bits word)) (length-take-le (length rows) (word_bits left) (omega (arith, length-word_bits left))) (λ j d h.
    subst (λ (x : Bool). leaves gives (get_or rows j d) x (get_or (take (length rows) (word_bits left)) j false)) (sym (get_or-word_bits word j false (omega arith)))
    (subst (λ (x : Bool). leaves gives (get_or rows j d) (nat_eq (bit_at word j) 1) x) (sym (get_or-take (length rows) (word_bits left) j false h ∙ get_or-word_bits left j false (omega arith))) (at j d h)))

-- ---- one bit after another

-- of the bits that are still to be asked none is answered, and each other one is what is left of its value
pub record IsAskedSoFar {T : Type 0} (gives : T → Bool → Type 0) (rows : List T) (word asked left : ℕ) : Type 0 where
  pub part : (j : ℕ) → j < 64 → bit_at asked j ≡ 1 → bit_at word j ≡ 1
  pub waits : (j : ℕ) → j < 64 → bit_at asked j ≡ 1 → bit_at left j ≡ 0
  pub done : (j : ℕ) (d : T) → j < length rows → bit_at asked j ≡ 0 → leaves gives (get_or rows j d) (nat_eq (bit_at word j) 1) (nat_eq (bit_at left j) 1)

left_false : {T : Type 0} (gives : T → Bool → Type 0) (row : T) (before left : Bool) → before ≡ false → left ≡ false → leaves gives row before left
left_false gives row before left was is = subst (λ (x : Bool). leaves gives row x left) (sym was) is

left_true : {T : Type 0} (gives : T → Bool → Type 0) (row : T) (before left answer : Bool) → before ≡ true → left ≡ answer → gives row answer → leaves gives row before left
left_true gives row before left answer was is given = subst (λ (x : Bool). leaves gives row x left) (sym was) (subst (gives row) (sym is) given)

-- none yet
pub none_asked : {T : Type 0} (gives : T → Bool → Type 0) (rows : List T) (word : ℕ) → IsAskedSoFar gives rows word word 0
none_asked gives rows word = record {
  part = λ j few set. set;
  waits = λ j few set. bit_at-zero j;
  done = λ j d h clear. left_false gives (get_or rows j d) _ _ (ap (λ (x : ℕ). nat_eq x 1) clear) (ap (λ (x : ℕ). nat_eq x 1) (bit_at-zero j));
}

-- the bit of an answer, and the others
answered-here : (left k : ℕ) (answer : Bool) → k < 64 → bit_at left k ≡ 0 → nat_eq (bit_at (bit_or left (bool_byte answer * 2 ^ k % 2 ^ 64)) k) 1 ≡ answer
answered-here left k true few clear = ap (λ (x : ℕ). nat_eq x 1) (bit_at_set_same w64 left k few)
answered-here left k false few clear = grind (arith, bit_at_or left 0 k, bit_at-zero k, clear)

answered-other : (left k j : ℕ) (answer : Bool) → k < 64 → j < 64 → j ≢ k → bit_at (bit_or left (bool_byte answer * 2 ^ k % 2 ^ 64)) j ≡ bit_at left j
answered-other left k j true few h other = bit_at_set_other w64 left k few j other
answered-other left k j false few h other = grind (arith, bit_at_or left 0 j, bit_at-zero j)

-- the lowest one that is still to be asked
pub one_more_asked : {T : Type 0} (gives : T → Bool → Type 0) (rows : List T) (word asked left : ℕ) (answer : Bool) → length rows ≤ 64 → 0 < asked → asked < 2 ^ 64
    → ((d : T) → gives (get_or rows (low asked) d) answer) → IsAskedSoFar gives rows word asked left
    → IsAskedSoFar gives rows word (bit_and asked (asked - 1)) (bit_or left (bool_byte answer * 2 ^ low asked % 2 ^ 64))
one_more_asked {T} gives rows word asked left answer few some fits given so_far =
    let k : ℕ = low asked in
    let within : k < 64 = low-within asked some fits in
    let set : bit_at asked k ≡ 1 = low-set asked some fits in
    let below = λ (j : ℕ) (h : j ≤ k). bit_at-lowest_cleared asked j some fits h in
    let above = λ (j : ℕ) (h : k < j). bit_at-lowest_others asked j some fits h in
    record {
      part = λ j in_word next. elim (cases_lt k j) [
        | inl later ↦ so_far.part j in_word (sym (above j later) ∙ next)
        | inr first ↦ absurd (omega (arith, below j first, next))
      ];
      waits = λ j in_word next. elim (cases_lt k j) [
        | inl later ↦ answered-other left k j answer within in_word (omega (arith, later)) ∙ so_far.waits j in_word (sym (above j later) ∙ next)
        | inr first ↦ absurd (omega (arith, below j first, next))
      ];
      done = λ j d h clear. elim (cases_eq j k) [
        | inl here ↦
            subst (λ (i : ℕ). leaves gives (get_or rows i d) (nat_eq (bit_at word i) 1) (nat_eq (bit_at (bit_or left (bool_byte answer * 2 ^ k % 2 ^ 64)) i) 1)) (sym here)
            (left_true gives (get_or rows k d) _ _ answer (ap (λ (x : ℕ). nat_eq x 1) (so_far.part k within set)) (answered-here left k answer within (so_far.waits k within set)) (given d))
        | inr other ↦
            subst (λ (x : ℕ). leaves gives (get_or rows j d) (nat_eq (bit_at word j) 1) (nat_eq x 1)) (sym (answered-other left k j answer within (omega (arith, h, few)) other)) (so_far.done j d h (elim (cases_lt k j) [
              | inl later ↦ sym (above j later) ∙ clear
              | inr first ↦ low-first asked j some fits (omega (arith, first, other))
            ]))
      ];
    }

-- all of them
pub all_asked : {T : Type 0} (gives : T → Bool → Type 0) (rows : List T) (word asked left : ℕ) → length rows ≤ 64 → asked ≡ 0 → IsAskedSoFar gives rows word asked left
    → AreLeft gives rows (word_bits word) (take (length rows) (word_bits left))
all_asked gives rows word asked left few none so_far = left_of_bits gives rows word left few (λ j d h. so_far.done j d h (ap (λ (x : ℕ). bit_at x j) none ∙ bit_at-zero j))

-- the lowest bit that is still to be asked has a row
pub asked_within : {T : Type 0} (gives : T → Bool → Type 0) (rows : List T) (word asked left : ℕ) → 0 < asked → asked < 2 ^ 64
    → ((j : ℕ) → length rows ≤ j → bit_at word j ≡ 0) → IsAskedSoFar gives rows word asked left → low asked < length rows
asked_within gives rows word asked left some fits within so_far = elim (cases_lt (low asked) (length rows)) [
  | inl few ↦ few
  | inr past ↦
      absurd (omega (arith, within (low asked) past, so_far.part (low asked) (low-within asked some fits) (low-set asked some fits)))
]

-- ---- by the answers of all rows

bit_by_answers : {T : Type 0} (gives : T → Bool → Type 0) (row : T) (word answers j : ℕ) → gives row (nat_eq (bit_at answers j) 1) → leaves gives row (nat_eq (bit_at word j) 1) (nat_eq (bit_at (bit_and word answers) j) 1)
bit_by_answers gives row word answers j given = elim (cases_eq (bit_at word j) 1) [
  | inl set ↦
      let is : bit_at (bit_and word answers) j ≡ bit_at answers j = omega (arith, bit_at_and word answers j, set, bit_at-lt answers j) in
      left_true gives row _ _ (nat_eq (bit_at answers j) 1) (ap (λ (x : ℕ). nat_eq x 1) set) (ap (λ (x : ℕ). nat_eq x 1) is) given
  | inr other ↦
      let was : bit_at word j ≡ 0 = omega (arith, other, bit_at-lt word j) in
      let is : bit_at (bit_and word answers) j ≡ 0 = omega (arith, bit_at_and word answers j, was) in
      left_false gives row _ _ (ap (λ (x : ℕ). nat_eq x 1) was) (ap (λ (x : ℕ). nat_eq x 1) is)
]

-- the bits of a word that are answered so
pub left_by_answers : {T : Type 0} (gives : T → Bool → Type 0) (rows : List T) (word answers : ℕ) → length rows ≤ 64 → AreAnswers gives rows (take (length rows) (word_bits answers))
    → AreLeft gives rows (word_bits word) (take (length rows) (word_bits (bit_and word answers)))
left_by_answers gives rows word answers few are =
    let n : ℕ = length rows in
    left_of_bits gives rows word (bit_and word answers) few (λ j d h.
    bit_by_answers gives (get_or rows j d) word answers j
    (subst (gives (get_or rows j d)) (get_or-take n (word_bits answers) j false h ∙ get_or-word_bits answers j false (omega (arith, h, few))) (answer_at gives rows (take n (word_bits answers)) j d h are)))

-- ---- the lowest bits of a word

-- no bit is set past all 64
pub none_past : {T : Type 0} (rows : List T) (word j : ℕ) → length rows ≡ 64 → word < 2 ^ 64 → length rows ≤ j → bit_at word j ≡ 0
none_past rows word j all fits past = bit_at_above word 64 j fits (omega (arith, all, past))

-- nor past the lowest n, where they were taken
pub low_clear : (v w n j : ℕ) → v < 2 ^ 64 → word_bits v ≡ take n (word_bits w) ++ repeated (64 - n) false → n ≤ 64 → n ≤ j → bit_at v j ≡ 0
low_clear v w n j fits are few past = elim (cases_lt j 64) [
  | inl in_word ↦
      grind (arith, nat_tests, bit_at-lt v j, get_or-word_bits v j false in_word, are, get_or-padded (take n (word_bits w)) (64 - n) j, get_or_past (take n (word_bits w)) j false, length-take-le n (word_bits w), length-word_bits w)
  | inr above ↦ bit_at_above v 64 j fits above
]

low_same : (v w n j : ℕ) → word_bits v ≡ take n (word_bits w) ++ repeated (64 - n) false → j < n → get_or (word_bits v) j false ≡ get_or (word_bits w) j false
low_same v w n j are h = grind (arith, are, get_or-padded (take n (word_bits w)) (64 - n) j, get_or-take n (word_bits w) j false h)

-- what is left of the lowest bits is left of the word
pub left_of_low : {T : Type 0} (gives : T → Bool → Type 0) (rows : List T) (v w left : ℕ) → word_bits v ≡ take (length rows) (word_bits w) ++ repeated (64 - length rows) false → length rows ≤ 64
    → AreLeft gives rows (word_bits v) (take (length rows) (word_bits left)) → AreLeft gives rows (word_bits w) (take (length rows) (word_bits left))
left_of_low gives rows v w left are few is_left =
    let n : ℕ = length rows in
    let b : List Bool = take n (word_bits left) in
    left_from_places gives rows (word_bits w) b (omega (arith, few, length-word_bits w)) (length-take-le n (word_bits left) (omega (arith, few, length-word_bits left))) (λ j d h.
    subst (λ (x : Bool). leaves gives (get_or rows j d) x (get_or b j false)) (low_same v w n j are h) (places_of_left gives rows (word_bits v) b (omega (arith, few, length-word_bits v)) is_left j d h))

-- ---- of bytes, a word after another

-- the values of the next rows, which are within a word
pub left_more : {T : Type 0} (gives : T → Bool → Type 0) (rows : List T) (old cur new : List ℕ) (n k word left : ℕ) → k ≤ 64 → n + k ≤ length rows
    → ((p : ℕ) → n ≤ p → backing_bit cur p ≡ backing_bit old p)
    → ((j : ℕ) → j < k → get_or (word_bits word) j false ≡ backing_bit cur (n + j))
    → AreLeft gives (take k (drop n rows)) (word_bits word) (take (length (take k (drop n rows))) (word_bits left))
    → ((j : ℕ) → j < k → backing_bit new (n + j) ≡ get_or (word_bits left) j false)
    → ((p : ℕ) → p < n → backing_bit new p ≡ backing_bit cur p)
    → LeavesEach gives rows (backing_bit old) (backing_bit cur) n → LeavesEach gives rows (backing_bit old) (backing_bit new) (n + k)
left_more {T} gives rows old cur new n k word left few within rest is_word part here before so_far p d h =
    let rs : List T = take k (drop n rows) in
    let size : length rs ≡ k = length-take-le k (drop n rows) (omega (arith, within, length-drop n rows)) in
    elim (cases_lt p n) [
      | inl first ↦ subst (λ (x : Bool). leaves gives (get_or rows p d) (backing_bit old p) x) (sym (before p first)) (so_far p d first)
      | inr later ↦
          let j : ℕ = p - n in
          let in_word : j < k = omega (arith, later, h) in
          let place : n + j ≡ p = omega (arith, later) in
          let row : get_or rs j d ≡ get_or rows p d = get_or-take k (drop n rows) j d in_word ∙ get_or-drop n rows j d ∙ ap (λ (i : ℕ). get_or rows i d) place in
          let was : get_or (word_bits word) j false ≡ backing_bit old p = is_word j in_word ∙ ap (backing_bit cur) place ∙ rest p later in
          let is : get_or (take (length rs) (word_bits left)) j false ≡ backing_bit new p
          = get_or-take (length rs) (word_bits left) j false (omega (arith, size, in_word)) ∙ sym (here j in_word) ∙ ap (backing_bit new) place in
          let at = places_of_left gives rs (word_bits word) (take (length rs) (word_bits left)) (omega (arith, size, few, length-word_bits word)) part j d (omega (arith, size, in_word)) in
          subst (λ (x : Bool). leaves gives (get_or rows p d) (backing_bit old p) x) is
          (subst (λ (x : Bool). leaves gives (get_or rows p d) x (get_or (take (length rs) (word_bits left)) j false)) was
          (subst (λ (r : T). leaves gives r (get_or (word_bits word) j false) (get_or (take (length rs) (word_bits left)) j false)) row at))
    ]

-- a word without true values stays
pub left_none : {T : Type 0} (gives : T → Bool → Type 0) (rows : List T) (old cur : List ℕ) (n : ℕ) → ((p : ℕ) → n ≤ p → backing_bit cur p ≡ backing_bit old p)
    → ((j : ℕ) → j < 64 → backing_bit cur (n + j) ≡ false) → LeavesEach gives rows (backing_bit old) (backing_bit cur) n → LeavesEach gives rows (backing_bit old) (backing_bit cur) (n + 64)
left_none gives rows old cur n rest none so_far p d h = elim (cases_lt p n) [
  | inl first ↦ so_far p d first
  | inr later ↦
      let clear : backing_bit cur p ≡ false = ap (backing_bit cur) (omega (arith, later)) ∙ none (p - n) (omega (arith, later, h)) in
      left_false gives (get_or rows p d) _ _ (sym (rest p later) ∙ clear) clear
]

-- the values of the first n rows are what is left of them, and the others are as they were
pub record IsLeftSoFar {T : Type 0} (gives : T → Bool → Type 0) (rows : List T) (old new : List ℕ) (n : ℕ) : Type 0 where
  pub left : LeavesEach gives rows (backing_bit old) (backing_bit new) n
  pub rest : (p : ℕ) → n ≤ p → backing_bit new p ≡ backing_bit old p

bit_of_window : (bytes : List ℕ) (p w j : ℕ) → word_bits w ≡ window bytes p → j < 64 → get_or (word_bits w) j false ≡ backing_bit bytes (p + j)
bit_of_window bytes p w j shows h = ap (λ (xs : List Bool). get_or xs j false) shows ∙ get_or-window bytes p j false h

-- one more word
pub left_word : {T : Type 0} (gives : T → Bool → Type 0) (rows : List T) (old cur new : List ℕ) (i word left : ℕ) → 64 * i + 64 ≤ length rows → word_bits word ≡ window cur (64 * i)
    → AreLeft gives (take (64 * i + 64 - 64 * i) (drop (64 * i) rows)) (word_bits word) (take (length (take (64 * i + 64 - 64 * i) (drop (64 * i) rows))) (word_bits left))
    → window new (64 * i) ≡ word_bits left → ((p : ℕ) → ((p < 64 * i) ⊎ (64 * i + 64 ≤ p)) → backing_bit new p ≡ backing_bit cur p)
    → IsLeftSoFar gives rows old cur (64 * i) → IsLeftSoFar gives rows old new (64 * (i + 1))
left_word {T} gives rows old cur new i word left within is_word part here others so_far =
    let n : ℕ = 64 * i in
    let size : n + 64 - n ≡ 64 = omega arith in
    let next : n + 64 ≡ 64 * (i + 1) = omega arith in
    record {
      left = subst (LeavesEach gives rows (backing_bit old) (backing_bit new)) next
          (left_more gives rows old cur new n 64 word left (omega arith) within so_far.rest (λ j h. bit_of_window cur n word j is_word h)
          (subst (λ (k : ℕ). AreLeft gives (take k (drop n rows)) (word_bits word) (take (length (take k (drop n rows))) (word_bits left))) size part)
          (λ j h. sym (bit_of_window new n left j (sym here) h)) (λ p h. others p (inl h)) so_far.left);
      rest = λ p h. others p (inr (omega (arith, h))) ∙ so_far.rest p (omega (arith, h));
    }

-- one more word without true values
pub left_zero : {T : Type 0} (gives : T → Bool → Type 0) (rows : List T) (old cur : List ℕ) (i word : ℕ) → word_bits word ≡ window cur (64 * i) → word ≡ 0
    → IsLeftSoFar gives rows old cur (64 * i) → IsLeftSoFar gives rows old cur (64 * (i + 1))
left_zero gives rows old cur i word is_word none so_far =
    let n : ℕ = 64 * i in
    let next : n + 64 ≡ 64 * (i + 1) = omega arith in
    let clear = λ (j : ℕ) (h : j < 64). sym (bit_of_window cur n word j is_word h) ∙ get_or-word_bits word j false h ∙ ap (λ (w : ℕ). nat_eq (bit_at w j) 1) none ∙ ap (λ (x : ℕ). nat_eq x 1) (bit_at-zero j) in
    record {
      left = subst (LeavesEach gives rows (backing_bit old) (backing_bit cur)) next (left_none gives rows old cur n so_far.rest clear so_far.left);
      rest = λ p h. so_far.rest p (omega (arith, h));
    }

-- as much of the last word as there are bytes for
pub bits_of_last : (bytes ys : List ℕ) (w i e : ℕ) → 8 * i ≤ length bytes → e ≡ min (length bytes) (8 * i + 8) → length ys ≡ e - 8 * i → bitmap ys 0 (8 * (e - 8 * i)) ≡ take (8 * (e - 8 * i)) (word_bits w)
    → (j : ℕ) → j < 64 → 64 * i + j < 8 * length bytes → backing_bit (put_mid (8 * i) (e - 8 * i) bytes ys) (64 * i + j) ≡ get_or (word_bits w) j false
bits_of_last bytes ys w i e begins end len shows j in_word within =
    let n : ℕ = 8 * (e - 8 * i) in
    let few : j < n = omega (arith, end, in_word, within) in
    grind (arith, get_or-put_mid_inside (8 * i) e bytes ys (j / 8) begins len, get_or-front ys n j false few, ap (λ (xs : List Bool). get_or xs j false) shows, get_or-take n (word_bits w) j false few)

-- all of them
pub left_of_bytes : {T : Type 0} (gives : T → Bool → Type 0) (rows : List T) (old new : List ℕ) → LeavesEach gives rows (backing_bit old) (backing_bit new) (length rows)
    → AreLeft gives rows (bitmap old 0 (length rows)) (bitmap new 0 (length rows))
left_of_bytes gives rows old new each =
    let n : ℕ = length rows in
    let sizes = λ (bytes : List ℕ). length-values (record { bytes = bytes; offset = 0; len = n }) in
    left_from_places gives rows (bitmap old 0 n) (bitmap new 0 n) (omega (arith, sizes old)) (sizes new) (λ j d h.
    subst (λ (x : Bool). leaves gives (get_or rows j d) (get_or (bitmap old 0 n) j false) x) (sym (get_or-front new n j false h))
    (subst (λ (x : Bool). leaves gives (get_or rows j d) x (backing_bit new j)) (sym (get_or-front old n j false h)) (each j d h)))

-- and the rows past the whole words
pub left_last : {T : Type 0} (gives : T → Bool → Type 0) (rows : List T) (old cur new : List ℕ) (n word left : ℕ) → n ≤ length rows → length rows ≤ n + 64 → length rows ≤ 8 * length cur
    → word_bits word ≡ window cur n → AreLeft gives (take (length rows - n) (drop n rows)) (word_bits word) (take (length (take (length rows - n) (drop n rows))) (word_bits left))
    → ((j : ℕ) → j < 64 → n + j < 8 * length cur → backing_bit new (n + j) ≡ get_or (word_bits left) j false) → ((p : ℕ) → p < n → backing_bit new p ≡ backing_bit cur p)
    → IsLeftSoFar gives rows old cur n → AreLeft gives rows (bitmap old 0 (length rows)) (bitmap new 0 (length rows))
left_last {T} gives rows old cur new n word left begun few covered is_word part here before so_far =
    let k : ℕ = length rows - n in
    let end : n + k ≡ length rows = omega (arith, begun) in
    left_of_bytes gives rows old new (subst (LeavesEach gives rows (backing_bit old) (backing_bit new)) end
    (left_more gives rows old cur new n k word left (omega (arith, few)) (omega (arith, begun)) so_far.rest (λ j h. bit_of_window cur n word j is_word (omega (arith, h, few)))
    part (λ j h. here j (omega (arith, h, few)) (omega (arith, h, begun, covered))) before so_far.left))

-- what is true in a list and in the same one
pub and_itself : (a : List Bool) → and_of a a ≡ a
and_itself [] = refl
and_itself (true ∷ a) = ap (λ (xs : List Bool). true ∷ xs) (and_itself a)
and_itself (false ∷ a) = ap (λ (xs : List Bool). false ∷ xs) (and_itself a)

-- ---- a function of a row

as_left : {F T : Type 0} (g : Shared F (Bor T × Unit {0}) Bool) (test : F) (rows : List T) (before left : List Bool) (f : T → Bool)
    → ((row : Bor T) (b : Bool) → g.post test (row, tt) b → b ≡ f row.now) → length before ≡ length rows → length left ≡ length rows
    → All (λ p. leaves (FnReturnsAt g test) p.0.0 p.0.1 p.1) (zip (zip rows before) left) → left ≡ and_of before (map f rows)
as_left g test [] [] [] f is same len all = refl
as_left g test [] (x ∷ before) left f is same len all = absurd (omega (arith, same))
as_left g test [] [] (b ∷ left) f is same len all = absurd (omega (arith, len))
as_left g test (r ∷ rows) [] left f is same len all = absurd (omega (arith, same))
as_left g test (r ∷ rows) (x ∷ before) [] f is same len all = absurd (omega (arith, len))
as_left {F} {T} g test (r ∷ rows) (true ∷ before) (b ∷ left) f is same len all =
    let P : (T × Bool) × Bool → Type 0 = λ p. leaves (FnReturnsAt g test) p.0.0 p.0.1 p.1 in
    let first : FnReturnsAt g test r b = All-head P ((r, true), b) (zip (zip rows before) left) all in
    let rest = as_left g test rows before left f is (omega (arith, same)) (omega (arith, len)) (All-tail P ((r, true), b) (zip (zip rows before) left) all) in
    grind (arith, first, rest, is)
as_left {F} {T} g test (r ∷ rows) (false ∷ before) (b ∷ left) f is same len all =
    let P : (T × Bool) × Bool → Type 0 = λ p. leaves (FnReturnsAt g test) p.0.0 p.0.1 p.1 in
    let first : b ≡ false = All-head P ((r, false), b) (zip (zip rows before) left) all in
    ap₂ (λ (y : Bool) (ys : List Bool). y ∷ ys) first (as_left g test rows before left f is (omega (arith, same)) (omega (arith, len)) (All-tail P ((r, false), b) (zip (zip rows before) left) all))

pub computed_of_left : {F T : Type 0} (g : Shared F (Bor T × Unit {0}) Bool) (test : F) (rows : List T) (before left : List Bool) → length before ≡ length rows → AreLeft (FnReturnsAt g test) rows before left
    → AreLeftAsComputed (λ row b. g.post test (row, tt) b) rows before left
computed_of_left g test rows before left same are f is = as_left g test rows before left f is same (omega (arith, are.len, length-zip rows before, same)) are.each
