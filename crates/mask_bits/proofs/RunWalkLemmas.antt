-- Walks over the runs of a list by its words.
use Rattle.mask_bits.proofs.Common.{◌≡◌, ◌≢◌, ℕ, ◌+◌, ◌*◌, ◌-◌, ◌^◌, ◌<◌, ◌≤◌, Bool, true, false, List, ◌∷◌, length, get_or, refl, sym, ap, ◌∙◌, arith, bit_at, bit_and, bit_or, bit_at_ones, and_le_l, IsFirstFrom, runs_from, left_of, IsLeft, PassesTrue, word_bits, padded_part, true≢false, or_lt}
use Rattle.mask_bits.proofs.Lists.Places.ScanLemmas.{runs_from-first}
use Rattle.mask_bits.proofs.Lists.Words.LowestLemmas.{low, low-within, bit_at-filled, bit_at-filled_others, ones, ones-few, ones-within, ones-set, ones-end, bit_at-ones_cleared, bit_at-ones_others}
use Rattle.mask_bits.proofs.Lists.Words.WalkLemmas.{drop-same, skip-front, runs_from-repeated_false, length-left_of, left_of-before, left_of-clear, left_of-past, left_of-read, left_of-at, left_of-same, left_of-below_low, low-inside, IsLeft-read}

-- the first run, and the runs of the list without it
pub runs-step : (m n : List Bool) (start stop : ℕ) → start < stop → stop ≤ length m → length n ≡ length m
    → ((i : ℕ) → i < start → get_or m i false ≡ false) → ((i : ℕ) → start ≤ i → i < stop → get_or m i false ≡ true)
    → (stop < length m → get_or m stop false ≡ false)
    → ((i : ℕ) → i < stop → get_or n i false ≡ false) → ((i : ℕ) → stop ≤ i → get_or n i false ≡ get_or m i false)
    → runs_from 0 m ≡ (start, stop) ∷ runs_from 0 n
runs-step m n start stop some within len passed holds ends cleared same =
    let first : IsFirstFrom m 0 true start = record { not_before = omega arith; within = omega arith; passed = λ i _ h. passed i h; holds = λ _. holds start (omega arith) some } in
    let last : IsFirstFrom m (start + 1) false stop = record { not_before = omega arith; within = within; passed = λ i from to. holds i (omega arith) to; holds = ends } in
    runs_from-first m 0 start stop first (omega arith) last
    ∙ ap (λ (xs : List Bool). (start, stop) ∷ runs_from stop xs) (sym (drop-same m n stop len same))
    ∙ ap (λ (rs : List (ℕ × ℕ)). (start, stop) ∷ rs) (sym (skip-front runs_from (λ _ _. refl) n stop (omega arith) cleared))

-- ---- words of which values are left

-- a word filled up to its lowest set bit
pub IsLeft-filled : (m : List Bool) (i w : ℕ) → 0 < w → IsLeft m i w → IsLeft m i (bit_or w (w - 1))
IsLeft-filled m i w some left = record {
  word = or_lt 64 w (w - 1) left.word (omega (arith, left.word));
  within = left.within;
  ends = λ j few past. bit_at-filled_others w j some left.word (omega (arith, low-inside m i w some left.word left)) ∙ left.ends j few past;
}

-- a full word lies within the list
pub full-within : (m : List Bool) (i v : ℕ) → v ≡ 2 ^ 64 - 1 → IsLeft m i v → 64 * (i + 1) ≤ length m
full-within m i v is_full left = grind (arith, left.ends 63, ap (λ k. bit_at k 63) is_full, bit_at_ones 64 63)

-- no word is passed
pub PassesTrue-none : (m : List Bool) (i w : ℕ) → IsLeft m i w → PassesTrue m i w i w
PassesTrue-none m i w left = record { is = left; later = omega arith; full = λ p from to. absurd (omega arith); rest = λ p from. refl }

-- a full word more
pub PassesTrue-more : (m : List Bool) (i w j v u : ℕ) → u < 2 ^ 64 → v ≡ 2 ^ 64 - 1 → word_bits u ≡ padded_part m (j + 1) → PassesTrue m i w j v → PassesTrue m i w (j + 1) u
PassesTrue-more m i w j v u fits is_full read so_far =
    let within = full-within m j v is_full so_far.is in
    record {
      is = IsLeft-read m (j + 1) u fits read within;
      later = omega (arith, so_far.later);
      full = λ p from to. grind (arith, so_far.full p from, so_far.rest p, left_of-at m j v p (p - 64 * j), ap (λ k. bit_at k (p - 64 * j)) is_full, bit_at_ones 64 (p - 64 * j));
      rest = λ p from. grind (arith, left_of-read m (j + 1) u p read within from, left_of-past m j v p, so_far.rest p);
    }

-- the ones at the low end of what is left lie within the list
pub ones-inside : (m : List Bool) (i w : ℕ) → IsLeft m i w → 64 * i + ones w ≤ length m
ones-inside m i w left =
    let j : ℕ = length m - 64 * i in
    grind (arith, left.within, ones-within w left.word, ones-set w j left.word, left.ends j)

pub IsLeft-ones_cleared : (m : List Bool) (i w : ℕ) → IsLeft m i w → IsLeft m i (bit_and w (w + 1))
IsLeft-ones_cleared m i w left = record {
  word = omega (arith, left.word, and_le_l w (w + 1));
  within = left.within;
  ends = λ j few past. grind (arith, bit_at-ones_others w j left.word few, ones-inside m i w left, left.ends j few past);
}

-- from its lowest set bit on, a word filled up to that is the word
left_of-filled : (m : List Bool) (i w p : ℕ) → 0 < w → w < 2 ^ 64 → 64 * i ≤ length m → 64 * i + low w ≤ p → get_or (left_of m i (bit_or w (w - 1))) p false ≡ get_or (left_of m i w) p false
left_of-filled m i w p some fits within h = grind (arith, left_of-same, bit_at-filled_others)

-- all is true up to the end of the ones that the walk came to
run_true : (m : List Bool) (i f j v p : ℕ) → v < 2 ^ 64 → PassesTrue m i f j v → 64 * i ≤ p → p < 64 * j + ones v → get_or (left_of m i f) p false ≡ true
run_true m i f j v p v_fits passes from to =
    grind (arith, passes.full p from, passes.rest p, left_of-at m j v p (p - 64 * j), ones-within v v_fits, ones-inside m j v passes.is, ones-set v (p - 64 * j) v_fits)

-- the lowest set bit of a word is in front of the end of its run
runs-start_below_stop : (m : List Bool) (i w j v : ℕ) → 0 < w → w < 2 ^ 64 → v < 2 ^ 64 → IsLeft m i w → PassesTrue m i (bit_or w (w - 1)) j v → v ≢ 2 ^ 64 - 1 → 64 * i + low w < 64 * j + ones v
runs-start_below_stop m i w j v some fits v_fits left passes some_end =
    let f : ℕ = bit_or w (w - 1) in
    let k : ℕ = ones v in
    let few = low-within w some fits in
    let end_few = ones-few v v_fits some_end in
    let inside = low-inside m i w some fits left in
    grind (arith, passes.later, left_of-at m i f (64 * j + k) k, bit_at-filled w k some fits, left_of-clear m j v (64 * j + k), passes.is.within, ones-end v v_fits, passes.rest (64 * j + k), true≢false)

-- where the run of a word's lowest true value ends
pub runs-lowest : (m : List Bool) (i w j v : ℕ) → 0 < w → w < 2 ^ 64 → v < 2 ^ 64 → IsLeft m i w → PassesTrue m i (bit_or w (w - 1)) j v → v ≢ 2 ^ 64 - 1
    → runs_from 0 (left_of m i w) ≡ (64 * i + low w, 64 * j + ones v) ∷ runs_from 0 (left_of m j (bit_and v (v + 1)))
runs-lowest m i w j v some fits v_fits left passes some_end =
    let u : ℕ = bit_and v (v + 1) in
    let within = left.within in
    let len = length-left_of m i w within in
    let few = ones-few v v_fits some_end in
    let stop_inside = ones-inside m j v passes.is in
    let some_run = runs-start_below_stop m i w j v some fits v_fits left passes some_end in
    let same = λ (p : ℕ). left_of-filled m i w p some fits within in
    runs-step (left_of m i w) (left_of m j u) (64 * i + low w) (64 * j + ones v) some_run (omega (arith, len, stop_inside))
    (length-left_of m j u passes.is.within ∙ sym len)
    (λ p h. left_of-below_low m i w p some fits within h)
    (λ p from to. sym (same p from) ∙ run_true m i (bit_or w (w - 1)) j v p v_fits passes (omega arith) to)
    (λ h. grind (arith, same (64 * j + ones v), passes.rest (64 * j + ones v), left_of-clear m j v (64 * j + ones v), ones-end v v_fits, passes.is.within))
    (λ p h. grind (arith, passes.is.within, left_of-before, left_of-clear m j u p, bit_at-ones_cleared v (p - 64 * j) v_fits))
    (λ p h. left_of-same m j v u p passes.is.within (omega arith) (λ k few_k place. bit_at-ones_others v k v_fits few_k (omega arith)) ∙ passes.rest p (omega arith) ∙ same p (omega arith))

pub ruleset runs_at_words = (runs-lowest, runs_from-repeated_false)
