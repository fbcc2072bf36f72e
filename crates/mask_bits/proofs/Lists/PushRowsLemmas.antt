-- The rows that whole words choose, and those of the values past them.
use Rattle.mask_bits.proofs.Common.{common_steps, ◌≡◌, ℕ, Bool, false, ◌+◌, ◌-◌, ◌*◌, ◌/◌, ◌%◌, ◌<◌, ◌≤◌, List, [], ◌++◌, length, take, drop, slice_get, slice_range, refl, sym, ap, ap₂, ◌∙◌, arith, append-nil, length-between, length-drop, length-take, filter_map, take-append-drop, chosen, count, positions, repeated, padded_remainder, word_bits, word_part}
use Rattle.std.specs.List.{All}
use Rattle.mask_bits.proofs.Lists.ChooseLemmas.{chosen-of_front, chosen_at_positions}
use Rattle.mask_bits.proofs.Lists.CountLemmas.{count-append, count_below-le, indices_from-repeated_false}
use Rattle.mask_bits.proofs.Lists.LawLemmas.{length-chosen}
use Rattle.mask_bits.proofs.Lists.Places.PlaceLemmas.{positions-within}
use Rattle.mask_bits.proofs.Lists.Places.SelectLemmas.{count-part_further, indices_from-append}
use Rattle.mask_bits.proofs.Lists.RowLemmas.{chosen_of_two_chunks}
use Rattle.mask_bits.proofs.Lists.Words.ChosenWordLemmas.{chosen-part_more}
use Rattle.mask_bits.proofs.Lists.Words.WordLemmas.{length-word_bits}

abbrev items_at : {X : Type 0} → List X → List ℕ → List X
items_at rows ps = filter_map (λ p. slice_get rows p) ps

pub chosen_of_none : {X : Type 0} → chosen {X = X} [] [] ≡ []
unfolding chosen
chosen_of_none = refl

-- false values behind a list have no place
pub places-padded : (m : List Bool) (k : ℕ) → positions (m ++ repeated k false) ≡ positions m
places-padded m k = grind (arith, common_steps, indices_from-append, indices_from-repeated_false, append-nil)

pub places_of_rest : (m : List Bool) → positions (padded_remainder m) ≡ positions (drop (64 * (length m / 64)) m)
places_of_rest m = places-padded (drop (64 * (length m / 64)) m) (64 - length m % 64)

-- the places of the rest are those of rows
pub rest_within : {X : Type 0} (rows part : List X) (m : List Bool) (n w : ℕ) → length rows ≡ length m → n ≡ 64 * (length m / 64) → part ≡ drop n rows → word_bits w ≡ padded_remainder m
    → All (λ p. p < length part) (positions (word_bits w))
rest_within rows part m n w len whole is shows = grind (arith, common_steps, length-drop, places_of_rest, positions-within)

-- with the rows of the whole words they are all
pub rest_chosen : {X : Type 0} (rows part : List X) (m : List Bool) (n w : ℕ) → length rows ≡ length m → n ≡ 64 * (length m / 64) → part ≡ drop n rows → word_bits w ≡ padded_remainder m
    → chosen (take n rows) (take n m) ++ chosen part (word_bits w) ≡ chosen rows m
rest_chosen {X} rows part m n w len whole is shows =
    let here : chosen part (word_bits w) ≡ chosen (drop n rows) (drop n m) =
    ap (λ (xs : List X). chosen xs (word_bits w)) is
    ∙ chosen_at_positions (drop n rows) (word_bits w)
    ∙ ap (λ (ps : List ℕ). items_at (drop n rows) ps) (ap positions shows ∙ places_of_rest m ∙ ap (λ k. positions (drop k m)) (sym whole))
    ∙ sym (chosen_at_positions (drop n rows) (drop n m)) in
    ap (λ (xs : List X). chosen (take n rows) (take n m) ++ xs) here
    ∙ sym (chosen_of_two_chunks (take n rows) (drop n rows) (take n m) (drop n m) (omega (arith, length-take n rows, length-take n m, len)))
    ∙ ap₂ chosen (take-append-drop n rows) (take-append-drop n m)

rest_counted : (m : List Bool) (n w : ℕ) → n ≡ 64 * (length m / 64) → word_bits w ≡ padded_remainder m → count (take n m) + count (word_bits w) ≡ count m
rest_counted m n w whole shows = grind (arith, common_steps, places_of_rest m, count-append (take n m) (drop n m), take-append-drop n m)

-- the rows of the values so far are as many as the true ones
chosen_counted : {X : Type 0} (rows : List X) (m : List Bool) (n : ℕ) → length rows ≡ length m → length (chosen (take n rows) (take n m)) ≡ count (take n m)
chosen_counted rows m n len = length-chosen (take n rows) (take n m) (omega (arith, length-take n rows, length-take n m, len))

-- a word chooses among its own 64 rows, whatever rows come behind them
own_rows : {X : Type 0} (rows : List X) (n r w : ℕ) → 64 ≤ r → chosen (slice_range rows n (n + r)) (word_bits w) ≡ chosen (slice_range rows n (n + 64)) (word_bits w)
own_rows rows n r w enough =
    let of_all : (k : ℕ) → 64 ≤ k → chosen (take (n + k - n) (drop n rows)) (word_bits w) ≡ chosen (drop n rows) (word_bits w)
    = λ k h. chosen-of_front (drop n rows) (word_bits w) (n + k - n) (omega (arith, length-word_bits w)) in
    of_all r enough ∙ sym (of_all 64 (omega arith))

-- room for all rows that are chosen has room for those of one more word
pub word_room : {X : Type 0} (rows items : List X) (m : List Bool) (i w room : ℕ) → length rows ≡ length m → word_bits w ≡ word_part m i → items ≡ chosen (take (64 * i) rows) (take (64 * i) m) → count m ≤ room
    → length items + count (word_bits w) ≤ room
word_room rows items m i w room len shows before all =
    omega (arith, ap length before, chosen_counted rows m (64 * i) len, ap count shows, count-part_further m (64 * i) 64, count_below-le m (64 * i + 64), all)

-- and for those of the rest
pub rest_room : {X : Type 0} (rows items : List X) (m : List Bool) (n w room : ℕ) → length rows ≡ length m → n ≡ 64 * (length m / 64) → word_bits w ≡ padded_remainder m → items ≡ chosen (take n rows) (take n m) → count m ≤ room
    → length items + count (word_bits w) ≤ room
rest_room rows items m n w room len whole shows before all =
    omega (arith, ap length before, chosen_counted rows m n len, rest_counted m n w whole shows, all)

-- one more word's rows are pushed
pub word_pushed : {X : Type 0} (rows part old new : List X) (m : List Bool) (i r w : ℕ) → length rows ≡ length m → part ≡ slice_range rows (64 * i) (64 * i + r) → 64 ≤ r → 64 * i + 64 ≤ length m
    → word_bits w ≡ word_part m i → old ≡ chosen (take (64 * i) rows) (take (64 * i) m) → new ≡ old ++ chosen part (word_bits w)
    → new ≡ chosen (take (64 * (i + 1)) rows) (take (64 * (i + 1)) m)
word_pushed {X} rows part old new m i r w len is enough within shows before pushed =
    let all : new ≡ old ++ chosen (slice_range rows (64 * i) (64 * i + r)) (word_bits w) = pushed ∙ ap (λ (xs : List X). old ++ chosen xs (word_bits w)) is in
    grind (arith, common_steps, own_rows rows (64 * i) r w enough, chosen-part_more)

-- they are so many
pub part_len : {X : Type 0} (rows part : List X) (first r : ℕ) → first + r ≤ length rows → part ≡ slice_range rows first (first + r) → length part ≡ r
part_len rows part first r within is = omega (arith, ap length is, length-between rows first (first + r) within)

-- the rows of the rest are pushed, and with them all
pub rest_pushed : {X : Type 0} (rows part old new : List X) (m : List Bool) (n w : ℕ) → length rows ≡ length m → n ≡ 64 * (length m / 64) → part ≡ drop n rows → word_bits w ≡ padded_remainder m
    → old ≡ chosen (take n rows) (take n m) → new ≡ old ++ chosen part (word_bits w) → new ≡ chosen rows m
rest_pushed {X} rows part old new m n w len whole is shows before pushed = grind (arith, common_steps, rest_chosen)
