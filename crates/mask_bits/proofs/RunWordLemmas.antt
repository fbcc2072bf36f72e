-- Runs of a list, word by word, by where they begin and end.
use Rattle.mask_bits.proofs.Common.{◌≡◌, ◌≢◌, ℕ, zero, suc, ◌+◌, ◌*◌, ◌-◌, ◌/◌, ◌%◌, ◌^◌, ◌<◌, ◌≤◌, ◌&&◌, not, Bool, true, false, nat_eq, List, [], ◌∷◌, ◌++◌, length, get_or, take, drop, count_ones, refl, sym, ap, ap₂, ◌∙◌, inl, inr, arith, mod-eq_of_lt, add-zero, bit_and, bit_or, zip, append-nil, bit_at, bit_not, leading_ones, leading_of_zero, cases_eq, true≢false, bit_at_not, bit_at-lt, bit_at_ones, bit_at_above, bit_at-zero, take-append-drop, nil_from_length, get_or-take, get_or_past, and_le_l, length-zip, indices_from, count, repeated, runs, runs_from, with_index, runs_behind, runs_between, AreEdges, begins, starts_of, word_bits, word_part, padded_remainder, w64, drop-drop, ext_get_or, length-take, length-drop, bool_byte, append_assoc}
use Rattle.mask_bits.proofs.Lists.CountLemmas.{count-append, get_or-padded}
use Rattle.mask_bits.proofs.Lists.Words.WalkLemmas.{runs_from-repeated_false}
use Rattle.mask_bits.proofs.Lists.Places.PushLemmas.{cleared, cleared-some, length-indices, length-indices_of_word}
use Rattle.mask_bits.proofs.Lists.Places.SelectLemmas.{places-lowest, indices-of_none, high}
use Rattle.mask_bits.proofs.Lists.Runs.RunLemmas.{with_index-longer, runs_from-front}
use Rattle.mask_bits.proofs.Lists.Words.LowestLemmas.{low, low-within}
use Rattle.mask_bits.proofs.Lists.Words.ShiftLemmas.{get_or-word_bits_and, get_or-word_bits_or, get_or-word_bits_not, get_or-word_bits_shl_low, get_or-word_bits_shl_high}
use Rattle.mask_bits.proofs.Lists.Words.WordLemmas.{count-word_bits, length-word_bits, get_or-word_bits}

-- ---- edges of a word, popped in turn

none-of_cleared : (base w : ℕ) → w ≡ 0 → indices_from base (word_bits (cleared w)) ≡ []
none-of_cleared base w none = ap (λ v. indices_from base (word_bits (cleared v))) none ∙ indices-of_none base

none-of : (base w : ℕ) → w ≡ 0 → indices_from base (word_bits w) ≡ []
none-of base w none = ap (λ v. indices_from base (word_bits v)) none ∙ indices-of_none base

cleared-fits : (w : ℕ) → w < 2 ^ 64 → cleared w < 2 ^ 64
cleared-fits w fits = omega (arith, and_le_l w ((w + (2 ^ 64 - 1)) % 2 ^ 64))

-- the index of a word's lowest bit, which wraps only where there is none
abbrev pub place : ℕ → ℕ → ℕ
place base w = (base + low w) % 2 ^ 64

pub AreEdges-pop : (base starts ends : ℕ) → AreEdges base starts ends → AreEdges base (cleared starts) (cleared ends)
AreEdges-pop base starts ends are = grind (arith, cleared-fits, places-lowest, low, cleared-some, none-of_cleared, none-of)

zip-none : (xs ys : List ℕ) → ys ≡ [] → zip xs ys ≡ []
zip-none [] ys none = refl
zip-none (x ∷ xs) ys none = ap (zip (x ∷ xs)) none

pub no_runs_between : (base first starts ends : ℕ) → ends ≡ 0 → runs_between base first starts ends ≡ []
unfolding runs_between
no_runs_between base first starts ends none = zip-none (first ∷ indices_from base (word_bits starts)) _ (none-of base ends none)

-- what is left of the starts, where an end is popped
rest_of_starts : (base starts ends : ℕ) → base + 64 ≤ 2 ^ 64 → 0 < ends → AreEdges base starts ends
    → zip (indices_from base (word_bits starts)) (indices_from base (word_bits (cleared ends))) ≡ zip (place base starts ∷ indices_from base (word_bits (cleared starts))) (indices_from base (word_bits (cleared ends)))
rest_of_starts base starts ends room some are =
    grind (arith, cleared, places-lowest, low, cleared-some, mod-eq_of_lt, low-within, nil_from_length, none-of, none-of_cleared, zip-none)

pub runs_between-pop : (base first starts ends : ℕ) → base + 64 ≤ 2 ^ 64 → 0 < ends → AreEdges base starts ends
    → runs_between base first starts ends ≡ (first, place base ends) ∷ runs_between base (place base starts) (cleared starts) (cleared ends)
unfolding runs_between
runs_between-pop base first starts ends room some are = grind (arith, places-lowest, low, cleared-some, cleared, mod-eq_of_lt, low-within, rest_of_starts)

-- how many runs end in a word
pub length-runs_between : (base first starts ends : ℕ) → AreEdges base starts ends → length (runs_between base first starts ends) ≡ count_ones ends
unfolding runs_between
length-runs_between base first starts ends are = grind (arith, length-zip, length-indices_of_word)

-- ---- the edges of a word

-- where not inside a run, the first one begins at the lowest of the starts
pub first_begins : (base starts ends : ℕ) → base + 64 ≤ 2 ^ 64 → starts < 2 ^ 64 → length (indices_from base (word_bits ends)) ≤ length (indices_from base (word_bits starts))
    → runs_between base (place base starts) (cleared starts) ends ≡ zip (indices_from base (word_bits starts)) (indices_from base (word_bits ends))
unfolding runs_between
first_begins base starts ends room fits each = grind (arith, cleared, mod-eq_of_lt, low-within, places-lowest, low, cleared-some, nil_from_length, none-of, zip-none)

pub AreEdges-first : (base starts ends : ℕ) → starts < 2 ^ 64 → ends < 2 ^ 64 → length (indices_from base (word_bits ends)) ≤ length (indices_from base (word_bits starts)) → AreEdges base (cleared starts) ends
AreEdges-first base starts ends fits ends_fit each = grind (arith, cleared-fits, places-lowest, low, cleared-some, none-of_cleared, none-of)

-- ---- runs of a list behind those of its first values

-- a run that is open when a list begins with a true value
with_index-behind : (n k : ℕ) (m : List Bool) → with_index n (runs_behind true (n + 1) k m) ≡ runs_behind true n k m
with_index-behind n k [] = with_index-longer n k []
with_index-behind n k (v ∷ m) = grind (arith, with_index-longer, with_index-behind n (k + 1) m)

runs_from-true : (n : ℕ) (m : List Bool) → runs_from n (true ∷ m) ≡ runs_behind true n (n + 1) m
runs_from-true n [] = refl
runs_from-true n (true ∷ m) = ap (with_index n) (runs_from-true (n + 1) m) ∙ with_index-behind n ((n + 1) + 1) m
runs_from-true n (false ∷ m) = grind (arith, runs_from-front n 0 (true ∷ false ∷ m))

-- where values are not true and the ones before them are
abbrev pub ends_of : Bool → List Bool → List Bool
ends_of before [] = []
ends_of before (v ∷ m) = (before && not v) ∷ ends_of v m

-- the last value
abbrev pub last_of : Bool → List Bool → Bool
last_of before [] = before
last_of before (v ∷ m) = last_of v m

-- where the run begins that is open at the end, if one is
abbrev pub open_of : Bool → ℕ → ℕ → List Bool → ℕ
open_of inside start n [] = start
open_of true start n (v ∷ m) = open_of v start (n + 1) m
open_of false start n (v ∷ m) = open_of v n (n + 1) m

pub behind-more : (inside : Bool) (start n : ℕ) (m rest : List Bool) → runs_behind inside start n (m ++ rest)
    ≡ zip (begins inside start (indices_from n (starts_of inside m))) (indices_from n (ends_of inside m)) ++ runs_behind (last_of inside m) (open_of inside start n m) (n + length m) rest
behind-more inside start n [] rest = grind arith
behind-more inside start n (v ∷ m) rest =
    grind (arith, add-zero, runs_from-true, behind-more true start (n + 1) m, behind-more false start (n + 1) m, behind-more true n (n + 1) m, behind-more false n (n + 1) m)

pub each_begins : (inside : Bool) (start n : ℕ) (m : List Bool) → length (indices_from n (ends_of inside m)) ≤ length (begins inside start (indices_from n (starts_of inside m)))
each_begins inside start n [] = grind arith
each_begins inside start n (v ∷ m) =
    grind (arith, each_begins true start (n + 1) m, each_begins false start (n + 1) m, each_begins true n (n + 1) m, each_begins false n (n + 1) m)

-- ---- the words of starts and ends

get_or-starts_of : (before : Bool) (m : List Bool) (j : ℕ) → j < length m → get_or (starts_of before m) j false ≡ (get_or m j false && not (get_or (before ∷ m) j false))
get_or-starts_of before [] j h = absurd (omega arith)
get_or-starts_of before (v ∷ m) j h = grind (arith, get_or-starts_of v m)

get_or-ends_of : (before : Bool) (m : List Bool) (j : ℕ) → j < length m → get_or (ends_of before m) j false ≡ (get_or (before ∷ m) j false && not (get_or m j false))
get_or-ends_of before [] j h = absurd (omega arith)
get_or-ends_of before (v ∷ m) j h = grind (arith, get_or-ends_of v m)

length-starts_of : (before : Bool) (m : List Bool) → length (starts_of before m) ≡ length m
length-starts_of before [] = refl
length-starts_of before (v ∷ m) = ap suc (length-starts_of v m)

length-ends_of : (before : Bool) (m : List Bool) → length (ends_of before m) ≡ length m
length-ends_of before [] = refl
length-ends_of before (v ∷ m) = ap suc (length-ends_of v m)

-- the bit before each bit
get_or-before : (inside : Bool) (w b j : ℕ) → word_bits b ≡ take 64 (inside ∷ word_bits w) → j < 64 → get_or (word_bits b) j false ≡ get_or (inside ∷ word_bits w) j false
get_or-before inside w b j shows h = ap (λ (bits : List Bool). get_or bits j false) shows ∙ get_or-take 64 (inside ∷ word_bits w) j false h

word_of_starts : (inside : Bool) (w b : ℕ) → b < 2 ^ 64 → word_bits b ≡ take 64 (inside ∷ word_bits w) → word_bits (bit_and w (2 ^ 64 - 1 - b)) ≡ starts_of inside (word_bits w)
word_of_starts inside w b fits shows =
    ext_get_or false _ _ (grind (arith, length-word_bits, length-starts_of, get_or-word_bits_and, get_or-word_bits_not, get_or-before, get_or-starts_of)) (λ j h. grind (arith, length-word_bits, length-starts_of, get_or-word_bits_and, get_or-word_bits_not, get_or-before, get_or-starts_of))

word_of_ends : (inside : Bool) (w b : ℕ) → w < 2 ^ 64 → word_bits b ≡ take 64 (inside ∷ word_bits w) → word_bits (bit_and b (2 ^ 64 - 1 - w)) ≡ ends_of inside (word_bits w)
word_of_ends inside w b fits shows =
    ext_get_or false _ _ (grind (arith, length-word_bits, length-ends_of, get_or-word_bits_and, get_or-before, get_or-word_bits_not, get_or-ends_of)) (λ j h. grind (arith, length-word_bits, length-ends_of, get_or-word_bits_and, get_or-before, get_or-word_bits_not, get_or-ends_of))

-- ---- the run that is open behind a word

open-same : (start n : ℕ) (m : List Bool) → ((i : ℕ) → i < length m → get_or m i false ≡ true) → open_of true start n m ≡ start
open-same start n [] every = refl
open-same start n (v ∷ m) every = ap (λ b. open_of b start (n + 1) m) (every 0 (omega arith)) ∙ open-same start (n + 1) m (λ i h. every (suc i) (omega arith))

-- where it begins, if all are true
open-first : (start n : ℕ) (m : List Bool) → 0 < length m → ((i : ℕ) → i < length m → get_or m i false ≡ true) → open_of false start n m ≡ n
open-first start n [] some every = absurd (omega arith)
open-first start n (v ∷ m) some every = ap (λ b. open_of b n (n + 1) m) (every 0 (omega arith)) ∙ open-same n (n + 1) m (λ i h. every (suc i) (omega arith))

-- where it begins, if value j is the last that is not true
open-past : (inside : Bool) (start n : ℕ) (m : List Bool) (j : ℕ) → suc j < length m → get_or m j false ≡ false → ((i : ℕ) → j < i → i < length m → get_or m i false ≡ true) → open_of inside start n m ≡ n + j + 1
open-past inside start n [] j more ends past = absurd (omega arith)
open-past true start n (v ∷ m) zero more ends past = ap (λ b. open_of b start (n + 1) m) ends ∙ open-first start (n + 1) m (omega arith) (λ i h. past (suc i) (omega arith) (omega arith)) ∙ omega arith
open-past false start n (v ∷ m) zero more ends past = ap (λ b. open_of b n (n + 1) m) ends ∙ open-first n (n + 1) m (omega arith) (λ i h. past (suc i) (omega arith) (omega arith)) ∙ omega arith
open-past true start n (v ∷ m) (suc j) more ends past = open-past v start (n + 1) m j (omega arith) ends (λ i h l. past (suc i) (omega arith) (omega arith)) ∙ omega arith
open-past false start n (v ∷ m) (suc j) more ends past = open-past v n (n + 1) m j (omega arith) ends (λ i h l. past (suc i) (omega arith) (omega arith)) ∙ omega arith

last-is : (before : Bool) (m : List Bool) (k : ℕ) → length m ≡ suc k → last_of before m ≡ get_or m k false
last-is before [] k len = absurd (omega arith)
last-is before (v ∷ []) zero len = refl
last-is before (v ∷ []) (suc k) len = absurd (omega arith)
last-is before (v ∷ u ∷ m) zero len = absurd (omega arith)
last-is before (v ∷ u ∷ m) (suc k) len = last-is v (u ∷ m) k (omega arith)

last-of_word : (before : Bool) (w : ℕ) → w < 2 ^ 64 → last_of before (word_bits w) ≡ nat_eq (w / 2 ^ 63) 1
last-of_word before w fits =
    let low_enough : w / 2 ^ 63 < 2 = omega arith in
    last-is before (word_bits w) 63 (length-word_bits w) ∙ get_or-word_bits w 63 false (omega arith) ∙ ap (λ n. nat_eq n 1) (mod-eq_of_lt low_enough)

open-full : (inside : Bool) (start n : ℕ) (m : List Bool) → inside ≡ false → 0 < length m → ((i : ℕ) → i < length m → get_or m i false ≡ true) → open_of inside start n m ≡ n
open-full true start n m outside some every = absurd (true≢false outside)
open-full false start n m outside some every = open-first start n m some every

-- a word behind which a run is open: it begins past the last bit that is not set
open-word : (inside : Bool) (start base w : ℕ) → base + 64 ≤ 2 ^ 64 → w < 2 ^ 64 → (w ≡ 2 ^ 64 - 1 → inside ≡ false) → nat_eq (w / 2 ^ 63) 1 ≡ true
    → open_of inside start base (word_bits w) ≡ (base + (64 - leading_ones w64 w)) % 2 ^ 64
open-word inside start base w room fits some_edge last = elim (cases_eq w (2 ^ 64 - 1)) [
  | inl every ↦
      let all_ones : leading_ones w64 w ≡ 64 = ap (leading_ones w64) every ∙ leading_of_zero 64 in
      open-full inside start base (word_bits w) (some_edge every) (omega (arith, length-word_bits w)) (λ i h.
      let few : i < 64 = omega (arith, length-word_bits w) in
      get_or-word_bits w i false few ∙ ap (λ n. nat_eq n 1) (ap (λ n. bit_at n i) every ∙ bit_at_ones 64 i few))
      ∙ sym (ap (λ k. (base + (64 - k)) % 2 ^ 64) all_ones ∙ ap (λ n. n % 2 ^ 64) (add-zero base) ∙ mod-eq_of_lt (omega arith))
  | inr some ↦
      let u : ℕ = bit_not w64 w in
      let top = high u (omega arith) (omega arith) in
      let k : ℕ = leading_ones w64 w in
      let j : ℕ = 63 - k in
      let clear : bit_at w j ≡ 0 = omega (arith, top.1, bit_at_not w64 w j fits (omega (arith, top.0)), bit_at-lt w j) in
      let ends : get_or (word_bits w) j false ≡ false = get_or-word_bits w j false (omega arith) ∙ ap (λ n. nat_eq n 1) clear in
      let set : (i : ℕ) → j < i → i < length (word_bits w) → get_or (word_bits w) i false ≡ true
      = λ i h l. (let few : i < 64 = omega (arith, length-word_bits w) in
      let one : bit_at w i ≡ 1 = omega (arith, top.2 i h, bit_at_not w64 w i fits few, bit_at-lt w i) in
      get_or-word_bits w i false few ∙ ap (λ n. nat_eq n 1) one) in
      let some_ones : 0 < k = grind (arith, true≢false, last-of_word, last-is, length-word_bits) in
      open-past inside start base (word_bits w) j (omega (arith, length-word_bits w, some_ones)) ends set
      ∙ sym (mod-eq_of_lt (omega (arith, some_ones))) ∙ ap (λ n. n % 2 ^ 64) (omega (arith, some_ones, top.0))
]

-- where none is open, its beginning does not matter
same_open : (inside : Bool) (a b n : ℕ) (m : List Bool) → (inside ≡ true → a ≡ b) → runs_behind inside a n m ≡ runs_behind inside b n m
same_open true a b n m same = ap (λ start. runs_behind true start n m) (same refl)
same_open false a b n m same = refl

-- the runs that end in a word, and those behind it
pub behind-word : (inside : Bool) (start base w b : ℕ) (rest : List Bool) → base + 64 ≤ 2 ^ 64 → w < 2 ^ 64 → b < 2 ^ 64 → word_bits b ≡ take 64 (inside ∷ word_bits w)
    → (w ≡ 2 ^ 64 - 1 → inside ≡ false)
    → zip (begins inside start (indices_from base (word_bits (bit_and w (2 ^ 64 - 1 - b))))) (indices_from base (word_bits (bit_and b (2 ^ 64 - 1 - w))))
    ++ runs_behind (nat_eq (w / 2 ^ 63) 1) ((base + (64 - leading_ones w64 w)) % 2 ^ 64) (base + 64) rest
    ≡ runs_behind inside start base (word_bits w ++ rest)
behind-word inside start base w b rest room fits b_fits shows some_edge =
    let m : List Bool = word_bits w in
    let open_at : ℕ = open_of inside start base m in
    grind (
      arith,
      length-word_bits,
      last-of_word,
      word_of_starts inside w b b_fits shows,
      word_of_ends inside w b fits shows,
      same_open (nat_eq (w / 2 ^ 63) 1) ((base + (64 - leading_ones w64 w)) % 2 ^ 64) open_at (base + 64) rest,
      open-word inside start base w,
      behind-more inside start base m rest,
    )

-- a full word that has an edge is outside a run
pub outside : (inside : Bool) (w b : ℕ) → (w ≡ 2 ^ 64 - 1 → inside ≡ true → b ≡ w) → w ≢ b → w ≡ 2 ^ 64 - 1 → inside ≡ false
outside true w b full some is = absurd (some (sym (full is refl)))
outside false w b full some is = refl

pub each_of_word_begins : (inside : Bool) (start base w b : ℕ) → w < 2 ^ 64 → b < 2 ^ 64 → word_bits b ≡ take 64 (inside ∷ word_bits w)
    → length (indices_from base (word_bits (bit_and b (2 ^ 64 - 1 - w)))) ≤ length (begins inside start (indices_from base (word_bits (bit_and w (2 ^ 64 - 1 - b)))))
each_of_word_begins inside start base w b fits b_fits shows =
    omega (arith, ap (λ (m : List Bool). length (indices_from base m)) (word_of_ends inside w b fits shows), ap (λ (m : List Bool). length (begins inside start (indices_from base m))) (word_of_starts inside w b b_fits shows), each_begins inside start base (word_bits w))

-- a word that has no edge
behind-same : (inside : Bool) (start n : ℕ) (m rest : List Bool) → m ≡ take (length m) (inside ∷ m) → runs_behind inside start (n + length m) rest ≡ runs_behind inside start n (m ++ rest)
behind-same inside start n [] rest e = grind arith
behind-same inside start n (v ∷ m) rest e = grind (arith, add-zero, behind-same true start (n + 1) m, behind-same false start (n + 1) m)

pub behind-same_word : (inside : Bool) (start base w b : ℕ) (rest : List Bool) → word_bits b ≡ take 64 (inside ∷ word_bits w) → w ≡ b → runs_behind inside start (base + 64) rest ≡ runs_behind inside start base (word_bits w ++ rest)
behind-same_word inside start base w b rest shows same = grind (arith, length-word_bits w, behind-same)

-- the bits of a word, each a place further on
get_or-first : (inside : Bool) → get_or (word_bits (bool_byte inside)) 0 false ≡ inside
get_or-first true = get_or-word_bits 1 0 false (omega arith)
get_or-first false = get_or-word_bits 0 0 false (omega arith)

get_or-others : (inside : Bool) (j : ℕ) → suc j < 64 → get_or (word_bits (bool_byte inside)) (suc j) false ≡ false
get_or-others true j h = get_or-word_bits 1 (suc j) false h ∙ ap (λ n. nat_eq n 1) (bit_at_above 1 1 (suc j) (omega arith) (omega arith))
get_or-others false j h = get_or-word_bits 0 (suc j) false h ∙ ap (λ n. nat_eq n 1) (bit_at-zero (suc j))

before-bit : (inside : Bool) (w j : ℕ) → j < 64 → get_or (word_bits (bit_or (w * 2 ^ 1 % 2 ^ 64) (bool_byte inside))) j false ≡ get_or (inside ∷ word_bits w) j false
before-bit inside w zero h = grind (arith, get_or-word_bits_or, get_or-word_bits_shl_low w 1 0 h (omega arith), get_or-first)
before-bit inside w (suc j) h = grind (arith, get_or-word_bits_or, get_or-word_bits_shl_high w 1 (suc j) h (omega arith), get_or-others)

pub word_bits-before : (inside : Bool) (w : ℕ) → word_bits (bit_or (w * 2 ^ 1 % 2 ^ 64) (bool_byte inside)) ≡ take 64 (inside ∷ word_bits w)
word_bits-before inside w =
    let b : ℕ = bit_or (w * 2 ^ 1 % 2 ^ 64) (bool_byte inside) in
    ext_get_or false (word_bits b) (take 64 (inside ∷ word_bits w)) (omega (arith, length-word_bits b, length-take 64 (inside ∷ word_bits w), length-word_bits w)) (λ j h.
    grind (arith, length-word_bits b, before-bit inside w j (omega (arith, length-word_bits b)), get_or-take 64 (inside ∷ word_bits w) j false (omega (arith, length-word_bits b))))

pub before-full : (inside : Bool) (w : ℕ) → w ≡ 2 ^ 64 - 1 → inside ≡ true → bit_or (w * 2 ^ 1 % 2 ^ 64) (bool_byte inside) ≡ w
before-full inside w full is = ap₂ (λ v b. bit_or (v * 2 ^ 1 % 2 ^ 64) (bool_byte b)) full is ∙ sym full

-- ---- the last bit of a word

value-same : (inside : Bool) (m : List Bool) (k : ℕ) → m ≡ take (length m) (inside ∷ m) → k < length m → get_or m k false ≡ inside
value-same inside m zero e h = ap (λ (xs : List Bool). get_or xs 0 false) e ∙ get_or-take (length m) (inside ∷ m) 0 false h
value-same inside m (suc k) e h = ap (λ (xs : List Bool). get_or xs (suc k) false) e ∙ get_or-take (length m) (inside ∷ m) (suc k) false h ∙ value-same inside m k e (omega arith)

pub last-same_word : (inside : Bool) (w b : ℕ) → word_bits b ≡ take 64 (inside ∷ word_bits w) → w ≡ b → inside ≡ get_or (word_bits w) 63 false
last-same_word inside w b shows same = grind (arith, length-word_bits, value-same)

pub last_bit : (w : ℕ) → w < 2 ^ 64 → nat_eq (w / 2 ^ 63) 1 ≡ get_or (word_bits w) 63 false
last_bit w fits = sym (last-of_word false w fits) ∙ last-is false (word_bits w) 63 (length-word_bits w)

-- ---- the words of a list

-- a whole word
pub behind-whole : (m : List Bool) (i : ℕ) → word_part m i ++ drop (64 * (i + 1)) m ≡ drop (64 * i) m
behind-whole m i =
    grind (arith, drop-drop 64 (64 * i) m, take-append-drop 64 (drop (64 * i) m))

-- false values at the end begin and lengthen no run
behind-padded : (inside : Bool) (start n : ℕ) (m : List Bool) (k : ℕ) → runs_behind inside start n (m ++ repeated (suc k) false) ≡ runs_behind inside start n m
unfolding repeated
behind-padded inside start n [] k = grind (arith, runs_from-repeated_false, runs_from-true)
behind-padded inside start n (v ∷ m) k =
    grind (arith, runs_from-repeated_false, runs_from-true, behind-padded true start (n + 1) m, behind-padded false start (n + 1) m, behind-padded true n (n + 1) m)

pub behind-remainder : (inside : Bool) (start n : ℕ) (m : List Bool) → runs_behind inside start n (padded_remainder m) ≡ runs_behind inside start n (drop (64 * (length m / 64)) m)
behind-remainder inside start n m = grind (arith, behind-padded inside start n (drop (64 * (length m / 64)) m) (63 - length m % 64))

-- and its last bit is not set
pub remainder_ends : (m : List Bool) → get_or (padded_remainder m) 63 false ≡ false
remainder_ends m = grind (arith, get_or-padded, get_or_past, length-drop)

-- ---- how many runs there are

starts-append : (before : Bool) (m rest : List Bool) → starts_of before (m ++ rest) ≡ starts_of before m ++ starts_of (last_of before m) rest
starts-append before [] rest = refl
starts-append before (v ∷ m) rest = ap (λ (ss : List Bool). (v && not before) ∷ ss) (starts-append v m rest)

-- each begins once
begun : (inside : Bool) (start n : ℕ) (m : List Bool) → length (runs_behind inside start n m) ≡ length (begins inside start (indices_from n (starts_of inside m)))
begun inside start n [] = grind arith
begun inside start n (v ∷ m) = grind (arith, runs_from-true, begun true start (n + 1) m, begun false start (n + 1) m, begun true n (n + 1) m)

-- a run takes a true value and, but for the last one, a false one
pub behind-few : (inside : Bool) (start n : ℕ) (m : List Bool) → 2 * length (runs_behind inside start n m) ≤ length m + (bool_byte inside + 1)
behind-few inside start n [] = grind arith
behind-few inside start n (v ∷ m) =
    grind (arith, runs_from-true, behind-few true start (n + 1) m, behind-few false start (n + 1) m, behind-few true n (n + 1) m)

-- no fewer than its front has
pub behind-front : (inside : Bool) (start n : ℕ) (m rest : List Bool) → length (runs_behind inside start n m) ≤ length (runs_behind inside start n (m ++ rest))
behind-front inside start n m rest = grind (arith, begun, starts-append, length-indices, count-append)

pub begun-all : (m : List Bool) → count (starts_of false m) ≡ length (runs m)
begun-all m = grind (arith, begun false 0 0 m, length-indices)

pub begun-next : (before : Bool) (w i : ℕ) (m : List Bool) → w < 2 ^ 64 → word_bits w ≡ word_part m i
    → count (starts_of before (word_bits w)) + count (starts_of (nat_eq (w / 2 ^ 63) 1) (drop (64 * (i + 1)) m)) ≡ count (starts_of before (drop (64 * i) m))
begun-next before w i m fits shows = grind (arith, behind-whole m i, starts-append, count-append, last-of_word)

pub begun-last : (before : Bool) (m : List Bool) → count (starts_of before (padded_remainder m)) ≡ count (starts_of before (drop (64 * (length m / 64)) m))
begun-last before m = grind (arith, begun before 0 0 (padded_remainder m), begun before 0 0 (drop (64 * (length m / 64)) m), behind-remainder before 0 0 m, length-indices)

pub count-of_starts : (before : Bool) (w b : ℕ) → w < 2 ^ 64 → b < 2 ^ 64 → word_bits b ≡ take 64 (before ∷ word_bits w) → count_ones (bit_and w (2 ^ 64 - 1 - b)) ≡ count (starts_of before (word_bits w))
count-of_starts before w b fits b_fits shows = grind (arith, and_le_l w (2 ^ 64 - 1 - b), count-word_bits, word_of_starts before w b b_fits shows)

pub ruleset runs_of_word = (word_bits-before, before-full, behind-same_word, last-same_word, outside, append_assoc)

pub ruleset runs_pushed = (length-runs_between)
