-- The rows at a byte's set bits, moved by the table, and those of the bits of a word, sixteen at a time.
use Rattle.mask_bits.proofs.Common.{◌≡◌, ℕ, ◌+◌, ◌-◌, ◌*◌, ◌/◌, ◌%◌, ◌^◌, ◌<◌, ◌≤◌, Bool, false, List, [], ◌++◌, length, get_or, take, drop, map, filter_map, slice_get, slice_range, refl, sym, subst, ap, ap₂, ◌∙◌, inl, inr, arith, bit_and, count_ones, add-zero, and_mask, append-nil, append_assoc, cases_lt, div-eq_of_lt, Each1-from_get_or, swz_l, SwzOk, SwzOk-from_below, length-swz_l, get_or-swz_l_below, drop_all, get_or-append_right, get_or-drop, get_or-map, get_or-replicate, get_or-take, get_or_append_left, get_or_past, length-append, length-map, length-replicate, replicate, shr-shr, take-append-drop, take-take, take_rest, All, All-weaker, chosen, count, indices_from, positions, repeated, word_bits}
use lib.Seq.{drop-append_seam}
use mir.Syntax.{Width}
use Rattle.std.proofs.lemmas.List.{drop-drop, drop-take, ext_get_or, length-drop, length-take, take_all}
use Rattle.std.proofs.lemmas.List.Elements.{All-drop}
use Rattle.mask_bits.proofs.ByteLemmas.{count-front, front-bits}
use Rattle.mask_bits.proofs.Lists.ChooseLemmas.{chosen_at_positions}
use Rattle.mask_bits.proofs.Lists.CountLemmas.{count-append}
use Rattle.mask_bits.proofs.Lists.LawLemmas.{length-chosen}
use Rattle.mask_bits.proofs.Lists.Places.PlaceLemmas.{count-le-length, positions-within}
use Rattle.mask_bits.proofs.Lists.Places.PushLemmas.{no_places}
use Rattle.mask_bits.proofs.Lists.Places.SelectLemmas.{indices_from-append, indices_from-moved}
use Rattle.mask_bits.proofs.Lists.PushRowsLemmas.{places-padded}
use Rattle.mask_bits.proofs.Lists.RowLemmas.{chosen_of_two_chunks}
use Rattle.mask_bits.proofs.Lists.Words.ExtractLemmas.{get_or-chosen}
use Rattle.mask_bits.proofs.Lists.Words.ShiftLemmas.{get_or-word_bits_shr}
use Rattle.mask_bits.proofs.Lists.Words.WordLemmas.{length-word_bits}

-- ---- lanes by their numbers

module _ (w : Width) (n : ℕ) (js : List ℕ) (long : length js ≡ n) (small : (k : ℕ) → k < n → get_or js k 0 < n) where
  pub SwzOk-all : SwzOk w n n 0 js
  SwzOk-all = SwzOk-from_below w n 1 n 0 js (omega arith) (omega arith) (Each1-from_get_or (λ j. j < n) js 0 (λ i l. small i (omega arith)))

  pub get_or-lanes : (v : List ℕ) (k : ℕ) → k < n → get_or (swz_l w n v 0 js) k 0 ≡ get_or v (get_or js k 0) 0
  get_or-lanes v k h =
      get_or-swz_l_below w n v 0 js k (omega arith) (small k h)
      ∙ ap (λ i. get_or v (n * i + get_or js k 0) 0) (div-eq_of_lt {n = 0 + k} {m = n} (omega arith))
      ∙ ap (λ i. get_or v i 0) (omega arith)

-- the lanes at the places of a number's set bits are the rows that these choose
pub lanes-rows : (w : Width) (n : ℕ) (rows places : List ℕ) (b : ℕ) → n ≤ 64 → b < 2 ^ n → length rows ≡ n → length places ≡ n → ((k : ℕ) → k < n → get_or places k 0 < n)
    → ((k : ℕ) → k < count_ones b → get_or places k 0 ≡ get_or (positions (take n (word_bits b))) k 0)
    → take (count_ones b) (swz_l w n (take n rows) 0 places) ≡ chosen rows (take n (word_bits b))
lanes-rows w n rows places b most few all long small listed =
    let m : List Bool = take n (word_bits b) in
    let c : ℕ = count_ones b in
    let lanes : List ℕ = swz_l w n (take n rows) 0 places in
    let counted : count m ≡ c = count-front b n most few in
    let values : length rows ≡ length m = omega (arith, all, length-take n (word_bits b), length-word_bits b) in
    let wide : length lanes ≡ n = length-swz_l w n (take n rows) 0 places ∙ long in
    let fewer : c ≤ n = omega (arith, counted, count-le-length m, values, all) in
    ext_get_or 0 (take c lanes) (chosen rows m) (omega (arith, length-take c lanes, wide, fewer, length-chosen rows m values, counted)) (λ k h.
    let inside : k < c = omega (arith, length-take c lanes) in
    get_or-take c lanes k 0 inside
    ∙ get_or-lanes w n places long small (take n rows) k (omega (arith, inside, fewer))
    ∙ ap (λ (xs : List ℕ). get_or xs (get_or places k 0) 0) (take_all n rows (omega (arith, all)))
    ∙ ap (λ p. get_or rows p 0) (listed k inside)
    ∙ sym (get_or-chosen rows m k 0 values (omega (arith, inside, counted))))

-- ---- the bits of a word from a place on

-- the word shifted down, whose highest bits are none
word_bits-shr : (w k : ℕ) → w < 2 ^ 64 → k ≤ 64 → word_bits (w / 2 ^ k) ≡ drop k (word_bits w) ++ repeated k false
unfolding repeated
word_bits-shr w k fits few =
    let rest : List Bool = drop k (word_bits w) in
    let long : length rest ≡ 64 - k = omega (arith, length-drop k (word_bits w), length-word_bits w) in
    let all : length (rest ++ replicate k false) ≡ 64 = omega (arith, length-append rest (replicate k false), length-replicate k false, long, few) in
    ext_get_or false (word_bits (w / 2 ^ k)) (rest ++ replicate k false) (length-word_bits (w / 2 ^ k) ∙ sym all) (λ j h.
    let inside : j < 64 = omega (arith, length-word_bits (w / 2 ^ k)) in
    get_or-word_bits_shr w k j fits inside
    ∙ elim (cases_lt j (64 - k)) [
      | inl here ↦ sym (get_or_append_left rest (replicate k false) false j (omega (arith, long, here)) ∙ get_or-drop k (word_bits w) j false)
      | inr past ↦ get_or_past (word_bits w) (k + j) false (omega (arith, length-word_bits w)) ∙ sym (get_or-append_right rest (replicate k false) (64 - k) j false long past ∙ get_or-replicate k (j - (64 - k)) false false (omega arith))
    ])

places-shr : (w k : ℕ) → w < 2 ^ 64 → k ≤ 64 → positions (word_bits (w / 2 ^ k)) ≡ positions (drop k (word_bits w))
places-shr w k fits few = ap positions (word_bits-shr w k fits few) ∙ places-padded (drop k (word_bits w)) k

chosen-shr : {X : Type 0} (rows : List X) (w k : ℕ) → w < 2 ^ 64 → k ≤ 64 → k ≤ length rows → chosen rows (word_bits w) ≡ chosen (take k rows) (take k (word_bits w)) ++ chosen (drop k rows) (word_bits (w / 2 ^ k))
chosen-shr {X} rows w k fits few enough =
    let bits : List Bool = word_bits w in
    let rest : List X = drop k rows in
    ap₂ chosen (sym (take-append-drop k rows)) (sym (take-append-drop k bits))
    ∙ chosen_of_two_chunks (take k rows) rest (take k bits) (drop k bits) (omega (arith, length-take k rows, length-take k bits, length-word_bits w))
    ∙ ap (λ (xs : List X). chosen (take k rows) (take k bits) ++ xs)
    (chosen_at_positions rest (drop k bits) ∙ ap (filter_map (λ i. slice_get rest i)) (sym (places-shr w k fits few)) ∙ sym (chosen_at_positions rest (word_bits (w / 2 ^ k))))

count-shr : (w k : ℕ) → w < 2 ^ 64 → k ≤ 64 → count (word_bits w) ≡ count (take k (word_bits w)) + count (word_bits (w / 2 ^ k))
count-shr w k fits few =
    ap count (sym (take-append-drop k (word_bits w)))
    ∙ count-append (take k (word_bits w)) (drop k (word_bits w))
    ∙ ap (λ n. count (take k (word_bits w)) + n) (ap (λ (ps : List ℕ). length ps) (sym (places-shr w k fits few)))

-- the places before, and those from there on
places-split : (w k : ℕ) → w < 2 ^ 64 → k ≤ 64 → positions (word_bits w) ≡ positions (take k (word_bits w)) ++ map (λ p. k + p) (positions (word_bits (w / 2 ^ k)))
places-split w k fits few =
    let front : List Bool = take k (word_bits w) in
    let rest : List Bool = drop k (word_bits w) in
    let start : 0 + length front ≡ k + 0 = omega (arith, length-take k (word_bits w), length-word_bits w) in
    ap positions (sym (take-append-drop k (word_bits w)))
    ∙ indices_from-append 0 front rest
    ∙ ap (λ (xs : List ℕ). positions front ++ xs) (ap (λ n. indices_from n rest) start ∙ indices_from-moved k 0 rest ∙ ap (map (λ p. k + p)) (sym (places-shr w k fits few)))

-- if none was past n, none is
within-shr : (w k n : ℕ) → w < 2 ^ 64 → k ≤ 64 → All (λ p. p < n) (positions (word_bits w)) → All (λ p. p < n - k) (positions (word_bits (w / 2 ^ k)))
within-shr w k n fits few all =
    let before : List ℕ = positions (take k (word_bits w)) in
    let ps : List ℕ = positions (word_bits (w / 2 ^ k)) in
    let moved : List ℕ = map (λ p. k + p) ps in
    let behind : All (λ p. p < n) moved =
    subst (All (λ p. p < n)) (ap (drop (length before)) (places-split w k fits few) ∙ drop-append_seam before moved) (All-drop (λ p. p < n) (length before) (positions (word_bits w)) all) in
    let long : length moved ≡ length ps = length-map ps (λ p. k + p) in
    λ i d h. omega (arith, get_or-map (λ p. k + p) ps i d d h, behind i d (omega (arith, h, long)))

-- where no bit from n on is set, the places are those of the lowest n
places-low : (b n : ℕ) → n ≤ 64 → b < 2 ^ n → b < 2 ^ 64 → positions (word_bits b) ≡ positions (take n (word_bits b))
places-low b n most few fits =
    places-split b n fits most ∙ ap (λ (xs : List ℕ). positions (take n (word_bits b)) ++ map (λ p. n + p) xs) (no_places (b / 2 ^ n) (div-eq_of_lt few)) ∙ append-nil (positions (take n (word_bits b)))

-- ---- sixteen bits

sixteen-low : (w : ℕ) → take 16 (word_bits (bit_and w 65535)) ≡ take 16 (word_bits w)
sixteen-low w = front-bits w (bit_and w 65535) 0 16 (omega arith) (ap (λ x. x % 2 ^ 16) (and_mask w 16) ∙ omega arith)

-- the rows of sixteen bits, and those of what is left
pub chosen-sixteen_more : {X : Type 0} (rows : List X) (w j : ℕ) → w < 2 ^ 64 → 16 * j + 16 ≤ length rows
    → chosen (drop (16 * j) rows) (word_bits w) ≡ chosen (slice_range rows (16 * j) (16 * j + 16)) (take 16 (word_bits (bit_and w 65535))) ++ chosen (drop (16 * (j + 1)) rows) (word_bits (w / 2 ^ 16))
chosen-sixteen_more {X} rows w j fits enough =
    let few : 16 ≡ 16 * j + 16 - 16 * j = omega arith in
    let next : 16 * j + 16 ≡ 16 * (j + 1) = omega arith in
    chosen-shr (drop (16 * j) rows) w 16 fits (omega arith) (omega (arith, length-drop (16 * j) rows))
    ∙ ap₂ (λ (xs ys : List X). xs ++ ys)
    (ap₂ chosen (ap (λ n. take n (drop (16 * j) rows)) few) (sym (sixteen-low w)))
    (ap (λ (xs : List X). chosen xs (word_bits (w / 2 ^ 16))) (drop-drop 16 (16 * j) rows ∙ ap (λ n. drop n rows) next))

pub count-sixteen_more : (w : ℕ) → w < 2 ^ 64 → count (word_bits w) ≡ count (take 16 (word_bits (bit_and w 65535))) + count (word_bits (w / 2 ^ 16))
count-sixteen_more w fits = count-shr w 16 fits (omega arith) ∙ ap (λ m. count m + count (word_bits (w / 2 ^ 16))) (sym (sixteen-low w))

-- one more part is pushed
pub part-pushed : {X : Type 0} (rows all before after : List X) (w j : ℕ) → w < 2 ^ 64 → 16 * j + 16 ≤ length rows
    → before ++ chosen (drop (16 * j) rows) (word_bits w) ≡ all
    → after ≡ before ++ chosen (slice_range rows (16 * j) (16 * j + 16)) (take 16 (word_bits (bit_and w 65535)))
    → after ++ chosen (drop (16 * (j + 1)) rows) (word_bits (w / 2 ^ 16)) ≡ all
part-pushed {X} rows all before after w j fits enough so_far pushed =
    let here : List X = chosen (slice_range rows (16 * j) (16 * j + 16)) (take 16 (word_bits (bit_and w 65535))) in
    let rest : List X = chosen (drop (16 * (j + 1)) rows) (word_bits (w / 2 ^ 16)) in
    ap (λ (xs : List X). xs ++ rest) pushed ∙ append_assoc before here rest ∙ ap (λ (xs : List X). before ++ xs) (sym (chosen-sixteen_more rows w j fits enough)) ∙ so_far

pub shr-sixteen_more : (w left j : ℕ) → left ≡ w / 2 ^ (16 * j) → left / 2 ^ 16 ≡ w / 2 ^ (16 * (j + 1))
shr-sixteen_more w left j is =
    let next : 16 * j + 16 ≡ 16 * (j + 1) = omega arith in
    ap (λ n. n / 2 ^ 16) is ∙ shr-shr w (16 * j) 16 ∙ ap (λ n. w / 2 ^ n) next

-- after all 64 bits nothing is left
pub chosen-of_zero : {X : Type 0} (rows : List X) (w : ℕ) → w ≡ 0 → chosen rows (word_bits w) ≡ []
chosen-of_zero rows w none = chosen_at_positions rows (word_bits w) ∙ ap (filter_map (λ i. slice_get rows i)) (no_places w none)

pub within-sixteen_more : (w j n : ℕ) → w < 2 ^ 64 → All (λ p. p < n - 16 * j) (positions (word_bits w)) → All (λ p. p < n - 16 * (j + 1)) (positions (word_bits (w / 2 ^ 16)))
within-sixteen_more w j n fits all = λ i d h. omega (arith, within-shr w 16 (n - 16 * j) fits (omega arith) all i d h)

low-byte : (b : ℕ) → take 8 (take 16 (word_bits b)) ≡ take 8 (word_bits (bit_and b 255))
low-byte b = take-take 8 16 (word_bits b) (omega arith) ∙ sym (front-bits b (bit_and b 255) 0 8 (omega arith) (ap (λ x. x % 2 ^ 8) (and_mask b 8) ∙ omega arith))

high-byte : (b : ℕ) → drop 8 (take 16 (word_bits b)) ≡ take 8 (word_bits (b / 2 ^ 8))
high-byte b = drop-take 8 8 (word_bits b) ∙ sym (front-bits b (b / 2 ^ 8) 8 8 (omega arith) refl)

-- a number of sixteen bits has no others
places-sixteen : (b : ℕ) → b < 2 ^ 16 → positions (word_bits b) ≡ positions (take 16 (word_bits b))
places-sixteen b few = places-low b 16 (omega arith) few (omega arith)

pub chosen-sixteen : {X : Type 0} (rows : List X) (b : ℕ) → b < 2 ^ 16 → chosen rows (word_bits b) ≡ chosen rows (take 16 (word_bits b))
chosen-sixteen rows b few = chosen_at_positions rows (word_bits b) ∙ ap (filter_map (λ i. slice_get rows i)) (places-sixteen b few) ∙ sym (chosen_at_positions rows (take 16 (word_bits b)))

pub count-sixteen : (b : ℕ) → b < 2 ^ 16 → count (word_bits b) ≡ count (take 16 (word_bits b))
count-sixteen b few = ap (λ (ps : List ℕ). length ps) (places-sixteen b few)

pub within-sixteen : (b n : ℕ) → b < 2 ^ 16 → n ≡ 16 → All (λ p. p < n) (positions (word_bits b))
within-sixteen b n few all =
    let bits : List Bool = take 16 (word_bits b) in
    subst (All (λ p. p < n)) (sym (places-sixteen b few)) (All-weaker (λ p. p < length bits) (λ p. p < n) (λ p h. omega (arith, length-take 16 (word_bits b), length-word_bits b)) (positions bits) (positions-within bits))

pub few-of_byte : (b : ℕ) → count (take 8 (word_bits b)) ≤ 8
few-of_byte b = omega (arith, count-le-length (take 8 (word_bits b)), length-take 8 (word_bits b))

-- the rows of its two bytes
pub chosen-two_bytes : {X : Type 0} (rows : List X) (b : ℕ) → length rows ≡ 16
    → chosen rows (take 16 (word_bits b)) ≡ chosen (take 8 rows) (take 8 (word_bits (bit_and b 255))) ++ chosen (slice_range rows 8 16) (take 8 (word_bits (b / 2 ^ 8)))
chosen-two_bytes {X} rows b long =
    let bits : List Bool = take 16 (word_bits b) in
    let rest : take 8 (drop 8 rows) ≡ drop 8 rows = take_all 8 (drop 8 rows) (omega (arith, length-drop 8 rows)) in
    ap₂ chosen (sym (take-append-drop 8 rows)) (sym (take-append-drop 8 bits))
    ∙ chosen_of_two_chunks (take 8 rows) (drop 8 rows) (take 8 bits) (drop 8 bits) (omega (arith, length-take 8 rows, length-take 8 bits, length-take 16 (word_bits b), length-word_bits b))
    ∙ ap₂ (λ (xs : List X) (v : List Bool). chosen (take 8 rows) v ++ chosen xs (drop 8 bits)) (sym rest) (low-byte b)
    ∙ ap (λ (v : List Bool). chosen (take 8 rows) (take 8 (word_bits (bit_and b 255))) ++ chosen (take 8 (drop 8 rows)) v) (high-byte b)

pub count-two_bytes : (b : ℕ) → count (take 16 (word_bits b)) ≡ count (take 8 (word_bits (bit_and b 255))) + count (take 8 (word_bits (b / 2 ^ 8)))
count-two_bytes b =
    let bits : List Bool = take 16 (word_bits b) in
    ap count (sym (take-append-drop 8 bits)) ∙ count-append (take 8 bits) (drop 8 bits) ∙ ap₂ (λ (v w : List Bool). count v + count w) (low-byte b) (high-byte b)

pub ruleset rows_of_sixteen = (part-pushed, count-sixteen_more, shr-sixteen_more, chosen-of_zero, append-nil)

pub ruleset rows_of_bits = (chosen-sixteen, count-sixteen, within-sixteen)

pub ruleset rows_of_two_bytes = (chosen-two_bytes, count-two_bytes, few-of_byte, append_assoc)
