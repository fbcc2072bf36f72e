-- The places of a byte's set bits, by the table, and the bytes of a word.
use Rattle.mask_bits.proofs.Common.{◌≡◌, ℕ, ◌+◌, ◌*◌, ◌/◌, ◌%◌, ◌^◌, ◌<◌, ◌≤◌, Bool, true, false, nat_eq, List, subst, ◌++◌, length, get_or, take, drop, map, refl, sym, ap, ◌∙◌, arith, count_ones, add-zero, mod-eq_of_lt, append-nil, append_assoc, agree_below, agree_below_at, indices_from, positions, count, count_below, AreLanes, word_bits, get_or-drop, get_or-map, length-map, get_or-take, take-append-drop, take-take, length-append, drop_all, and_mask, ones-le, bit_at, between, get_or-between, length-between, eqb-true, eqb, drop-drop, ext_get_or, length-drop, length-take, bit_and}
use Rattle.std.proofs.lemmas.List.{map-append, take-map}
use Rattle.std.proofs.lemmas.Simd.{map-map}
use Rattle.mask_bits.specs.declared.byte_places.TheConstants.{PLACES}
use Rattle.mask_bits.proofs.Lists.CountLemmas.{count-append}
use Rattle.mask_bits.proofs.Lists.LimitLemmas.{count_below_position}
use Rattle.mask_bits.proofs.Lists.Words.ShiftLemmas.{bit_at-mod, bit_at-shr}
use Rattle.mask_bits.proofs.Lists.Places.PlaceLemmas.{count-le-length, place-true, positions-within}
use Rattle.mask_bits.proofs.Lists.Places.SelectLemmas.{indices_from-append, indices_from-moved}
use Rattle.mask_bits.proofs.Lists.Words.WordLemmas.{count_below-word_bits, get_or-word_bits, length-word_bits}
use Rattle.mask_bits.proofs.Lists.Places.PushLemmas.{length-indices}

-- whether place k of byte b stands in the table
abbrev is_listed : ℕ → ℕ → Bool
is_listed b k = eqb (get_or PLACES (8 * b + k) 0) (get_or (positions (take 8 (word_bits b))) k 0)

abbrev all_listed : ℕ → Bool
all_listed b = agree_below (is_listed b) (λ _. true) (count_ones b)

-- computed
each_listed : (b : ℕ) → b < 256 → all_listed b ≡ true
unfolding word_bits lib.Count.ones
each_listed b few = agree_below_at all_listed (λ _. true) 256 b refl few

place-listed : (b k : ℕ) → b < 256 → k < count_ones b → get_or PLACES (8 * b + k) 0 ≡ get_or (positions (take 8 (word_bits b))) k 0
place-listed b k few inside = eqb-true _ _ (agree_below_at (is_listed b) (λ _. true) (count_ones b) k (each_listed b few) inside)

-- whether each of a byte's eight entries is a place
abbrev all_within : ℕ → Bool
all_within b = agree_below (λ k. eqb (get_or PLACES (8 * b + k) 0 / 8) 0) (λ _. true) 8

-- computed
each_within : (b : ℕ) → b < 256 → all_within b ≡ true
each_within b few = agree_below_at all_within (λ _. true) 256 b refl few

place-within : (b k : ℕ) → b < 256 → k < 8 → get_or PLACES (8 * b + k) 0 < 8
place-within b k few inside = omega (arith, eqb-true _ _ (agree_below_at (λ j. eqb (get_or PLACES (8 * b + j) 0 / 8) 0) (λ _. true) 8 k (each_within b few) inside))

-- eight entries of a table
length-eight : (table : List ℕ) (n : ℕ) → n + 8 ≤ length table → length (take 8 (between n (n + 8) table)) ≡ 8
length-eight table n h = omega (arith, length-take 8 (between n (n + 8) table), length-between table n (n + 8) h)

get_or-eight : (table : List ℕ) (n k : ℕ) → k < 8 → get_or (take 8 (between n (n + 8) table)) k 0 ≡ get_or table (n + k) 0
get_or-eight table n k h = get_or-take 8 (between n (n + 8) table) k 0 h ∙ get_or-between table n (n + 8) k 0 (omega arith)

length-PLACES : length PLACES ≡ 2048
length-PLACES = refl

pub length-places : (b : ℕ) → b < 256 → length (take 8 (between (8 * b) (8 * b + 8) PLACES)) ≡ 8
length-places b few = length-eight PLACES (8 * b) (omega (arith, length-PLACES))

pub places-within : (b k : ℕ) → b < 256 → k < 8 → get_or (take 8 (between (8 * b) (8 * b + 8) PLACES)) k 0 < 8
places-within b k few inside = omega (arith, get_or-eight PLACES (8 * b) k inside, place-within b k few inside)

pub places-listed : (b k : ℕ) → b < 256 → k < count_ones b → get_or (take 8 (between (8 * b) (8 * b + 8) PLACES)) k 0 ≡ get_or (positions (take 8 (word_bits b))) k 0
places-listed b k few inside = get_or-eight PLACES (8 * b) k (omega (arith, ones-le 8 b few)) ∙ place-listed b k few inside

pub count-front : (b n : ℕ) → n ≤ 64 → b < 2 ^ n → count (take n (word_bits b)) ≡ count_ones b
count-front b n most few = count_below-word_bits b n most ∙ ap count_ones (mod-eq_of_lt few)

pub count-byte : (b : ℕ) → b < 256 → count (take 8 (word_bits b)) ≡ count_ones b
count-byte b few = count-front b 8 (omega arith) few

-- p is the place of set bit number k of byte b
abbrev pub IsPlace : ℕ → ℕ → ℕ → Type 0
IsPlace b k p = (p < 8) × (bit_at b p ≡ 1) × (count_below (word_bits b) p ≡ k)

place-is : (b k : ℕ) → b < 256 → k < count_ones b → IsPlace b k (get_or (positions (take 8 (word_bits b))) k 0)
place-is b k few inside =
    let m : List Bool = take 8 (word_bits b) in
    let p : ℕ = get_or (positions m) k 0 in
    let counted : k < count m = omega (arith, inside, count-byte b few) in
    let within : p < 8 = omega (arith, length-take 8 (word_bits b), positions-within m k 0 counted) in
    let holds : nat_eq (bit_at b p) 1 ≡ true = sym (get_or-take 8 (word_bits b) p false within ∙ get_or-word_bits b p false (omega (arith, within))) ∙ place-true m k counted in
    (within, eqb-true _ _ holds, ap count (sym (take-take p 8 (word_bits b) (omega (arith, within)))) ∙ count_below_position m k counted)

pub place-read : (b k : ℕ) → b < 256 → k < count_ones b → IsPlace b k (get_or PLACES (8 * b + k) 0)
place-read b k few inside = subst (IsPlace b k) (sym (place-listed b k few inside)) (place-is b k few inside)

-- eight places behind a base, where lanes add without a loss, or keep the lowest bits
pub places-behind : (f : ℕ → ℕ) (places lanes : List ℕ) → length places ≡ 8 → AreLanes 8 lanes (λ j. f (get_or places j 0)) → lanes ≡ map f places
places-behind f places lanes eight are =
    ext_get_or 0 lanes (map f places) (are.lanes ∙ sym (length-map places f ∙ eight)) (λ k h.
    let inside : k < length places = omega (arith, are.lanes, eight) in
    are.each k (omega (arith, are.lanes)) ∙ sym (get_or-map f places k 0 0 inside))

-- the first places are those of the set bits
places-first : (b : ℕ) (places : List ℕ) → b < 256 → length places ≡ 8
    → ((k : ℕ) → k < count_ones b → get_or places k 0 ≡ get_or (positions (take 8 (word_bits b))) k 0)
    → take (count_ones b) places ≡ positions (take 8 (word_bits b))
places-first b places few eight listed =
    let m : List Bool = take 8 (word_bits b) in
    let n : ℕ = count_ones b in
    let counted : count m ≡ n = count-byte b few in
    let most : n ≤ 8 = omega (arith, counted, count-le-length m, length-take 8 (word_bits b), length-word_bits b) in
    ext_get_or 0 (take n places) (positions m) (omega (arith, length-take n places, eight, most, counted)) (λ k h.
    let inside : k < n = omega (arith, length-take n places) in
    get_or-take n places k 0 inside ∙ listed k inside)

-- so what is made of them behind the base is made of the indices
pub indices-listed : {X : Type 0} (of : ℕ → X) (base b : ℕ) (places : List ℕ) → b < 256 → length places ≡ 8
    → ((k : ℕ) → k < count_ones b → get_or places k 0 ≡ get_or (positions (take 8 (word_bits b))) k 0)
    → take (count_ones b) (map (λ p. of (base + p)) places) ≡ map of (indices_from base (take 8 (word_bits b)))
indices-listed {X} of base b places few eight listed =
    let m : List Bool = take 8 (word_bits b) in
    let moved : indices_from base m ≡ map (λ p. base + p) (positions m) = ap (λ k. indices_from k m) (sym (add-zero base)) ∙ indices_from-moved base 0 m in
    take-map (λ p. of (base + p)) (count_ones b) places
    ∙ ap (map (λ p. of (base + p))) (places-first b places few eight listed)
    ∙ sym (ap (map of) moved ∙ map-map of (λ p. base + p) (positions m))

-- ---- the bytes of a word

-- byte j
abbrev pub byte_of : ℕ → ℕ → ℕ
byte_of w j = bit_and (w / 2 ^ (8 * j)) 255

-- the n bits from place s on are those of a number that agrees with what is there
pub front-bits : (w x s n : ℕ) → s + n ≤ 64 → x % 2 ^ n ≡ w / 2 ^ s % 2 ^ n → take n (word_bits x) ≡ take n (drop s (word_bits w))
front-bits w x s n within is =
    let here : length (take n (word_bits x)) ≡ n = omega (arith, length-take n (word_bits x), length-word_bits x) in
    let there : length (take n (drop s (word_bits w))) ≡ n = omega (arith, length-take n (drop s (word_bits w)), length-drop s (word_bits w), length-word_bits w) in
    ext_get_or false (take n (word_bits x)) (take n (drop s (word_bits w))) (here ∙ sym there) (λ k h.
    let inside : k < n = omega (arith, here) in
    get_or-take n (word_bits x) k false inside
    ∙ get_or-word_bits x k false (omega arith)
    ∙ ap (λ b. nat_eq b 1) (sym (bit_at-mod x n k inside) ∙ ap (λ y. bit_at y k) is ∙ bit_at-mod (w / 2 ^ s) n k inside ∙ bit_at-shr w s k)
    ∙ sym (get_or-word_bits w (s + k) false (omega arith))
    ∙ sym (get_or-take n (drop s (word_bits w)) k false inside ∙ get_or-drop s (word_bits w) k false))

byte-bits : (w j : ℕ) → j < 8 → take 8 (word_bits (byte_of w j)) ≡ take 8 (drop (8 * j) (word_bits w))
byte-bits w j few = front-bits w (byte_of w j) (8 * j) 8 (omega arith) (ap (λ x. x % 2 ^ 8) (and_mask (w / 2 ^ (8 * j)) 8) ∙ omega arith)

-- one byte, and what is left
pub bits-byte_more : (w j : ℕ) → j < 8 → drop (8 * j) (word_bits w) ≡ take 8 (word_bits (byte_of w j)) ++ drop (8 * (j + 1)) (word_bits w)
bits-byte_more w j few =
    let next : 8 * j + 8 ≡ 8 * (j + 1) = omega arith in
    sym (take-append-drop 8 (drop (8 * j) (word_bits w)))
    ∙ ap (λ (xs : List Bool). xs ++ drop 8 (drop (8 * j) (word_bits w))) (sym (byte-bits w j few))
    ∙ ap (λ (xs : List Bool). take 8 (word_bits (byte_of w j)) ++ xs) (drop-drop 8 (8 * j) (word_bits w) ∙ ap (λ k. drop k (word_bits w)) next)

pub count-byte_more : (w j : ℕ) → j < 8 → count (drop (8 * j) (word_bits w)) ≡ count (take 8 (word_bits (byte_of w j))) + count (drop (8 * (j + 1)) (word_bits w))
count-byte_more w j few = ap count (bits-byte_more w j few) ∙ count-append (take 8 (word_bits (byte_of w j))) (drop (8 * (j + 1)) (word_bits w))

pub indices-byte_more : (base w j : ℕ) → j < 8
    → indices_from (base + 8 * j) (drop (8 * j) (word_bits w)) ≡ indices_from (base + 8 * j) (take 8 (word_bits (byte_of w j))) ++ indices_from (base + 8 * (j + 1)) (drop (8 * (j + 1)) (word_bits w))
indices-byte_more base w j few =
    let here : List Bool = take 8 (word_bits (byte_of w j)) in
    let rest : List Bool = drop (8 * (j + 1)) (word_bits w) in
    let next : base + 8 * j + length here ≡ base + 8 * (j + 1) = omega (arith, length-take 8 (word_bits (byte_of w j)), length-word_bits (byte_of w j)) in
    ap (indices_from (base + 8 * j)) (bits-byte_more w j few)
    ∙ indices_from-append (base + 8 * j) here rest
    ∙ ap (λ k. indices_from (base + 8 * j) here ++ indices_from k rest) next

pub ruleset bytes_of_word = (byte_of, indices-byte_more, count-byte_more, length-indices, length-map, length-word_bits, map-append, append-nil, append_assoc, length-append, drop_all)
