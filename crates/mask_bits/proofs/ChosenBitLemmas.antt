-- Values put behind others by words: in the word that is begun, and in the next one once it is full.
use Rattle.mask_bits.proofs.Common.{◌≡◌, ℕ, nat_eq, ◌^◌, ◌+◌, ◌-◌, ◌*◌, ◌/◌, ◌%◌, ◌<◌, ◌≤◌, Bool, false, List, [], ◌++◌, append-nil, append_assoc, count_ones, length, get_or, take, drop, refl, subst, sym, ap, ap₂, ◌∙◌, inl, inr, arith, bit_or, take-add, bit_at, cases_lt, get_or-drop, get_or-take, get_or_append_left, get_or-append_right, length-append, bit_at-lt, bit_at-zero, bit_at_above, bit_at_or, bitmap, Extracts, chosen, count, repeated, padded_part, window, word_bits, word_part, AreChosenSoFar, values_so_far, drop-put_mid, ext_get_or, length-drop, length-take, put_mid}
use Rattle.mask_bits.proofs.Lists.ChooseLemmas.{chosen-all_false}
use Rattle.mask_bits.proofs.Lists.CountLemmas.{count_below-le, get_or-padded, length-repeated}
use Rattle.mask_bits.proofs.Lists.Places.SelectLemmas.{count-word_more}
use Rattle.mask_bits.proofs.Lists.RowLemmas.{chosen_of_two_chunks}
use Rattle.mask_bits.proofs.Lists.Words.ChosenWordLemmas.{chosen-none}
use Rattle.mask_bits.proofs.Lists.Words.ExtractLemmas.{take-extracted}
use Rattle.mask_bits.proofs.Lists.Words.FrontLemmas.{behind-later, put-before, front-more_word, get_or-put_mid_inside, get_or-window, length-window, window_from_bits}
use Rattle.mask_bits.proofs.Lists.Words.PaddedLemmas.{padded_part-whole, padded_part_from_values}
use Rattle.mask_bits.proofs.Lists.Words.ShiftLemmas.{bit_at-mod, bit_at-shl_high, bit_at-shl_low, bit_at-shr}
use Rattle.mask_bits.proofs.Lists.Words.WordLemmas.{count-word_bits, get_or-word_bits, length-word_bits}
use Rattle.mask_bits.proofs.Lists.Words.BackingBitLemmas.{no_values}
use Rattle.mask_bits.proofs.Lists.Places.PlaceLemmas.{count-le-length}

-- ---- two words

-- the lowest bits of one, and behind them those of another
abbrev pub both : ℕ → ℕ → ℕ → ℕ → List Bool
both begun low word n = take low (word_bits begun) ++ take n (word_bits word)

-- the word that both begin, as the code computes it
abbrev pub joined : ℕ → ℕ → ℕ → ℕ
joined begun low word = bit_or begun (word * 2 ^ low % 2 ^ 64)

-- and what is left for the next one
abbrev pub left_over : ℕ → ℕ → ℕ
left_over low word = word / 2 ^ 1 / 2 ^ (63 - low)

joined-first : (begun low word j : ℕ) → low < 64 → j < low → bit_at (joined begun low word) j ≡ bit_at begun j
joined-first begun low word j few h =
    omega (arith, bit_at_or begun (word * 2 ^ low % 2 ^ 64) j, bit_at-mod (word * 2 ^ low) 64 j (omega arith), bit_at-shl_low word low j h, bit_at-lt begun j)

joined-second : (begun low word j : ℕ) → ((i : ℕ) → low ≤ i → bit_at begun i ≡ 0) → low ≤ j → j < 64 → bit_at (joined begun low word) j ≡ bit_at word (j - low)
joined-second begun low word j above from h =
    omega (arith, bit_at_or begun (word * 2 ^ low % 2 ^ 64) j, bit_at-mod (word * 2 ^ low) 64 j h, bit_at-shl_high word low j from, above j from, bit_at-lt word (j - low))

left_over-bit : (low word j : ℕ) → low < 64 → bit_at (left_over low word) j ≡ bit_at word (64 - low + j)
left_over-bit low word j few = grind (arith, bit_at-shr, bit_at-shr word 1 (63 - low + j))

-- a bit of the first word of both
joined-value : (begun low word n j : ℕ) → low < 64 → n ≤ 64 → ((i : ℕ) → low ≤ i → bit_at begun i ≡ 0) → j < 64 → j < low + n
    → nat_eq (bit_at (joined begun low word) j) 1 ≡ get_or (both begun low word n) j false
joined-value begun low word n j few many above in_word h = grind (arith, joined-first, get_or_append_left, length-take, length-word_bits, get_or-take, get_or-word_bits, joined-second, get_or-append_right)

-- both within one word
pub joined-list : (begun low word n : ℕ) → low < 64 → low + n ≤ 64 → ((i : ℕ) → low ≤ i → bit_at begun i ≡ 0) → take (low + n) (word_bits (joined begun low word)) ≡ both begun low word n
joined-list begun low word n few within above =
    ext_get_or false _ _ (grind (arith, length-take, length-word_bits, length-append, get_or-take, get_or-word_bits, joined-value)) (λ j h. grind (arith, length-take, length-word_bits, length-append, get_or-take, get_or-word_bits, joined-value))

-- which has no bits past both
pub joined-clear : (begun low word n j : ℕ) → ((i : ℕ) → low ≤ i → bit_at begun i ≡ 0) → ((i : ℕ) → n ≤ i → bit_at word i ≡ 0) → low + n ≤ j → bit_at (joined begun low word) j ≡ 0
joined-clear begun low word n j above clear from = elim (cases_lt j 64) [
  | inl in_word ↦ joined-second begun low word j above (omega arith) in_word ∙ clear (j - low) (omega arith)
  | inr past ↦
      grind (arith, bit_at_or begun (word * 2 ^ low % 2 ^ 64) j, bit_at_above (word * 2 ^ low % 2 ^ 64) 64 j (omega arith) past)
]

-- and in two
joined-lists : (begun low word n : ℕ) → low < 64 → n ≤ 64 → 64 ≤ low + n → ((i : ℕ) → low ≤ i → bit_at begun i ≡ 0)
    → word_bits (joined begun low word) ++ take (low + n - 64) (word_bits (left_over low word)) ≡ both begun low word n
joined-lists begun low word n few many full above =
    ext_get_or false _ _ (grind (arith, length-take, length-word_bits, length-append, get_or_append_left, get_or-word_bits, joined-value, get_or-append_right, get_or-take, left_over-bit)) (λ j h. grind (arith, length-take, length-word_bits, length-append, get_or_append_left, get_or-word_bits, joined-value, get_or-append_right, get_or-take, left_over-bit))

-- ---- values put behind others

pub nothing_yet : (out : List ℕ) → values_so_far out 0 0 ≡ chosen {X = Bool} [] []
nothing_yet out = append-nil (bitmap out 0 0) ∙ no_values out 0 ∙ sym chosen-none

-- where the word isn't full
pub put-begun : (out : List ℕ) (at begun word n : ℕ) → at % 64 + n < 64 → ((i : ℕ) → at % 64 ≤ i → bit_at begun i ≡ 0)
    → values_so_far out (joined begun (at % 64) word) (at + n) ≡ values_so_far out begun at ++ take n (word_bits word)
put-begun out at begun word n few above = grind (arith, joined-list begun (at % 64) word n (omega arith) (omega arith) above, append_assoc)

pub put-begun_clear : (at begun word n j : ℕ) → at % 64 + n < 64 → ((i : ℕ) → at % 64 ≤ i → bit_at begun i ≡ 0) → ((i : ℕ) → n ≤ i → bit_at word i ≡ 0)
    → (at + n) % 64 ≤ j → bit_at (joined begun (at % 64) word) j ≡ 0
put-begun_clear at begun word n j few above clear from = joined-clear begun (at % 64) word n j above clear (omega arith)

-- a word written into its eight bytes
window-put : (out ys : List ℕ) (w e : ℕ) → e ≡ 8 * w + 8 → e ≤ length out → length ys ≡ e - 8 * w → window (put_mid (8 * w) (e - 8 * w) out ys) (64 * w) ≡ window ys 0
window-put out ys w e end room len = grind (arith, window_from_bits, length-window ys 0, get_or-window, get_or-put_mid_inside)

-- where the word is full
pub put-full : (out ys : List ℕ) (at begun word n e : ℕ) → n ≤ 64 → 64 ≤ at % 64 + n → ((i : ℕ) → at % 64 ≤ i → bit_at begun i ≡ 0)
    → e ≡ 8 * (at / 64) + 8 → e ≤ length out → length ys ≡ e - 8 * (at / 64) → window ys 0 ≡ word_bits (joined begun (at % 64) word)
    → values_so_far (put_mid (8 * (at / 64)) (e - 8 * (at / 64)) out ys) (left_over (at % 64) word) (at + n) ≡ values_so_far out begun at ++ take n (word_bits word)
put-full out ys at begun word n e many full above end room len shows =
    let w : ℕ = at / 64 in
    let low : ℕ = at % 64 in
    let new : List ℕ = put_mid (8 * w) (e - 8 * w) out ys in
    let front : List Bool = bitmap out 0 (64 * w) in
    let first : List Bool = word_bits (joined begun low word) in
    let rest : List Bool = take (low + n - 64) (word_bits (left_over low word)) in
    let whole : (at + n) / 64 ≡ w + 1 = omega arith in
    let few : (at + n) % 64 ≡ low + n - 64 = omega arith in
    grind (arith, front-more_word, put-before, window-put, append_assoc, joined-lists)

pub put-full_clear : (at word n j : ℕ) → 64 ≤ at % 64 + n → n ≤ 64 → ((i : ℕ) → n ≤ i → bit_at word i ≡ 0) → (at + n) % 64 ≤ j → bit_at (left_over (at % 64) word) j ≡ 0
put-full_clear at word n j full many clear from = grind (arith, left_over-bit)

-- ---- one more started word

-- an extract has no bits behind those that it took
pub extracted-clear : (source mask result j : ℕ) → Extracts source mask result → mask < 2 ^ 64 → count_ones mask ≤ j → j < 64 → bit_at result j ≡ 0
extracted-clear source mask result j is fits from few = grind (arith, bit_at-lt, count-word_bits, fits)

-- a word with no bits behind its first n has none past its end
pub clear-behind : (word n : ℕ) → word < 2 ^ 64 → ((i : ℕ) → n ≤ i → i < 64 → bit_at word i ≡ 0) → (i : ℕ) → n ≤ i → bit_at word i ≡ 0
clear-behind word n fits clear i from = elim (cases_lt i 64) [
  | inl few ↦ clear i from few
  | inr past ↦ bit_at_above word 64 i fits past
]

-- a started part is its values, and false ones behind them
padded : (m : List Bool) (i k : ℕ) → 64 - length (drop (64 * i) m) ≡ k → take 64 (drop (64 * i) m) ++ repeated k false ≡ padded_part m i
padded m i k is =
    let front : List Bool = take 64 (drop (64 * i) m) in
    padded_part_from_values m (front ++ repeated k false) i (omega (arith, is, length-take 64 (drop (64 * i) m), length-append front (repeated k false), length-repeated k false)) (λ j h.
    get_or-padded front k j ∙ get_or-take 64 (drop (64 * i) m) j false h ∙ get_or-drop (64 * i) m j false)

-- what the next word chooses
pub chosen-word_more : (rows m : List Bool) (i : ℕ) → length rows ≡ length m
    → chosen (take (64 * i) rows) (take (64 * i) m) ++ chosen (padded_part rows i) (padded_part m i) ≡ chosen (take (64 * (i + 1)) rows) (take (64 * (i + 1)) m)
chosen-word_more rows m i len =
    let n : ℕ = 64 * i in
    let here : List Bool = take 64 (drop n rows) in
    let choice : List Bool = take 64 (drop n m) in
    let k : ℕ = 64 - length (drop n m) in
    let same : length (take n rows) ≡ length (take n m) = omega (arith, length-take n rows, length-take n m, len) in
    let alike : length here ≡ length choice = omega (arith, length-take 64 (drop n rows), length-take 64 (drop n m), length-drop n rows, length-drop n m, len) in
    let pad : 64 - length (drop n rows) ≡ k = omega (arith, length-drop n rows, length-drop n m, len) in
    let next : n + 64 ≡ 64 * (i + 1) = omega arith in
    let part : chosen (padded_part rows i) (padded_part m i) ≡ chosen here choice
    = grind (arith, padded, chosen_of_two_chunks, chosen-all_false, append-nil) in
    grind (arith, chosen_of_two_chunks, take-add)

-- and how many these are
pub counted-word_more : (m : List Bool) (i at mask : ℕ) → mask < 2 ^ 64 → at ≡ count (take (64 * i) m) → word_bits mask ≡ padded_part m i → at + count_ones mask ≡ count (take (64 * (i + 1)) m)
counted-word_more m i at mask fits so_far reads = omega (arith, so_far, ap count reads, count-word_bits mask fits, count-word_more m i)

-- ---- what the next word chooses is put behind what is there

-- a mask word and a source word show word i of their lists, and `word` has what the one chooses of the other
pub record AreChosenAt (s m : List Bool) (i source mask word : ℕ) : Type 0 where
  pub fits : mask < 2 ^ 64
  pub reads : word_bits source ≡ padded_part s i
  pub chooses : word_bits mask ≡ padded_part m i
  pub extracts : Extracts source mask word

-- of whole words
pub AreChosenAt-whole : (s m : List Bool) (i source mask word : ℕ) → length s ≡ length m → i < length m / 64 → mask < 2 ^ 64 → word_bits source ≡ word_part s i → word_bits mask ≡ word_part m i
    → Extracts source mask word → AreChosenAt s m i source mask word
AreChosenAt-whole s m i source mask word fitting inside fits reads chooses is = record {
  fits = fits;
  reads = reads ∙ padded_part-whole s i (omega (arith, fitting, inside));
  chooses = chooses ∙ padded_part-whole m i (omega (arith, inside));
  extracts = is;
}

pub AreChosenSoFar-none : (s m : List Bool) (out : List ℕ) → AreChosenSoFar s m 0 out out 0 0
AreChosenSoFar-none s m out = record { list = nothing_yet out; counted = refl; clear = λ j from. bit_at-zero j; behind = refl }

-- there is room for it
pub chosen-within : {s m : List Bool} {i last n source mask word : ℕ} {old out : List ℕ} → AreChosenAt s m i source mask word → AreChosenSoFar s m i old out last n → n + count_ones mask ≤ count m
chosen-within {s} {m} {i} {last} {n} {source} {mask} here so_far = omega (arith, counted-word_more m i n mask here.fits so_far.counted here.chooses, count_below-le m (64 * (i + 1)))

pub AreChosenSoFar-more : {s m : List Bool} {i last n source mask word : ℕ} {old out : List ℕ} (new : List ℕ) (next end : ℕ) → length s ≡ length m
    → AreChosenAt s m i source mask word → AreChosenSoFar s m i old out last n → end ≡ n + count_ones mask
    → values_so_far new next (n + count_ones mask) ≡ values_so_far out last n ++ take (count_ones mask) (word_bits word)
    → ((j : ℕ) → (n + count_ones mask) % 64 ≤ j → bit_at next j ≡ 0)
    → drop (8 * ((n + count_ones mask) / 64)) new ≡ drop (8 * ((n + count_ones mask) / 64)) out
    → AreChosenSoFar s m (i + 1) old new next end
AreChosenSoFar-more {s} {m} {i} {last} {n} {source} {mask} {word} {old} {out} new next end fitting here so_far is list clear behind =
    subst (AreChosenSoFar s m (i + 1) old new next) (sym is) (record {
      list =
          list
          ∙ ap₂ (λ (xs ys : List Bool). xs ++ ys) so_far.list
          (ap (λ k. take k (word_bits word)) (sym (count-word_bits mask here.fits)) ∙ take-extracted source mask word here.extracts ∙ ap₂ chosen here.reads here.chooses)
          ∙ chosen-word_more s m i fitting;
      counted = counted-word_more m i n mask here.fits so_far.counted here.chooses;
      clear = clear;
      behind = behind ∙ behind-later out old (8 * (n / 64)) (8 * ((n + count_ones mask) / 64)) (omega arith) so_far.behind;
    })

pub ruleset chosen_so_far = (extracted-clear, chosen-within, count-le-length)

pub ruleset put_facts = (put-begun, put-begun_clear, clear-behind, put-full, length-take, length-drop, drop-put_mid)
