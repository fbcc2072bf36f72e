-- A rank intersection word by word: each started word of the mask takes a deposit of rank bits.
use Rattle.vortex_mask.proofs.Common.{common_steps, ◌≡◌, ℕ, ◌+◌, ◌*◌, ◌-◌, ◌/◌, ◌<◌, ◌≤◌, ◌⊎◌, Bool, false, Option, None, Some, option_map, IfSome, List, length, get_or, take, drop, refl, sym, ap, subst, ◌∙◌, inl, inr, arith, take-add, cases_lt, ext_get_or, take_all, get_or-map-range_with_len, length-map-range_with_len, Packed, backing_bit, values, at_indices, count, count_below, positions, rank_intersection, true_at, word_bits, word_part, window, padded_part, padded_remainder, started_words, IsStrictlyIncreasing, Deposits, AreBitsFrom, first_bits, is_listed, narrowed_by, IsDeposited, StepCounts, word_steps, length-bitmap, get_or-bitmap, count-append, get_or-window, value_of_true_at, length-true_at, length-rank_intersection, rank_intersection_value, get_or-padded_part, padded_part_from_values, padded_part-whole, padded_part-remainder, count-trues, count-word_more, length-word_bits, All}
use Rattle.vortex_mask.proofs.Lists.PlaceListLemmas.{narrowed_at}
use Rattle.vortex_mask.proofs.Lists.StartedWordLemmas.{IsAt, list-from_bits, part-same, place-after_within, place-next, places-same}
use Rattle.vortex_mask.proofs.Kernels.StepLemmas.{counted-as, counted-next}
use Rattle.vortex_mask.proofs.Kernels.DepositListLemmas.{deposited-value, and_where, trues-take}

-- ---- one word

-- the true values among the first ones of a started part
count_below-part : (m : List Bool) (i j : ℕ) → j ≤ 64 → count_below m (64 * i + j) ≡ count_below m (64 * i) + count_below (padded_part m i) j
count_below-part m i j few = grind (arith, common_steps, take-add (64 * i) j m, count-append (take (64 * i) m) (take j (drop (64 * i) m)), places-same 0 (take j (drop (64 * i) m)) (take j (padded_part m i)) (λ k. part-same m i j k few), part-same)

-- word i of a mask, whether it is a whole one or the remainder
pub word-started : (a : List Bool) (i m : ℕ) → i < started_words (length a)
    → (i < length a / 64 → word_bits m ≡ word_part a i) → (i ≡ length a / 64 → word_bits m ≡ padded_remainder a)
    → word_bits m ≡ padded_part a i
word-started a i m started whole last = grind (arith, cases_lt, padded_part-whole, padded_part-remainder)

-- a deposit at word i of the mask is word i of the rank intersection, where the bits of its source are values of b from `at` on
pub deposited-word : (a b : List Bool) (i at s m w : ℕ) → length b ≡ count a → at ≡ count_below a (64 * i) → word_bits m ≡ padded_part a i
    → AreBitsFrom (λ k. get_or b k false) at (count (word_bits m)) s → Deposits s m w → word_bits w ≡ padded_part (rank_intersection a b) i
deposited-word a b i at s m w fits place shows source is =
    padded_part_from_values (rank_intersection a b) (word_bits w) i (length-word_bits w) (λ j h.
    let k : ℕ = count_below (word_bits m) j in
    let stays = and_where (get_or (word_bits m) j false) (get_or (word_bits s) k false) (get_or b (at + k) false)
    (λ set. source k (omega (arith, trues-take (word_bits m) j set, count-trues (word_bits m), count-trues (take j (word_bits m))))) in
    grind (arith, stays, deposited-value s m w j is h, rank_intersection_value a b (64 * i + j) fits, count_below-part a i j (omega arith), get_or-padded_part a i j h))

-- ---- the first rank bits as a list

pub length-first_bits : (f : ℕ → Bool) (n : ℕ) → length (first_bits f n) ≡ n
unfolding first_bits
length-first_bits f n = length-map-range_with_len f 0 n

get_or-first_bits : (f : ℕ → Bool) (n k : ℕ) → k < n → get_or (first_bits f n) k false ≡ f k
unfolding first_bits
get_or-first_bits f n k h = get_or-map-range_with_len f 0 n k k false h (omega arith)

-- a list whose values they are
pub first_bits-of : (f : ℕ → Bool) (b : List Bool) (n : ℕ) → length b ≡ n → ((k : ℕ) → k < n → f k ≡ get_or b k false) → first_bits f n ≡ b
first_bits-of f b n long same = ext_get_or false (first_bits f n) b (length-first_bits f n ∙ sym long) (λ k h. get_or-first_bits f n k (omega (arith, length-first_bits f n)) ∙ same k (omega (arith, length-first_bits f n)))

-- the rank bits of a buffer, and of ascending ranks
pub narrowed-values : (a : List Bool) (b : Packed) → length (values b) ≡ count a → narrowed_by (λ k. backing_bit b.bytes (b.offset + k)) a ≡ rank_intersection a (values b)
narrowed-values a b fits = grind (arith, first_bits-of, b, get_or-bitmap, length-bitmap, length-bitmap b.bytes b.offset b.len)

pub narrowed-listed : (a : List Bool) (ranks : List ℕ) → IsStrictlyIncreasing ranks → All (λ k. k < count a) ranks → narrowed_by (is_listed ranks) a ≡ true_at (length a) (at_indices (positions a) ranks)
narrowed-listed a ranks ascending within = grind (arith, first_bits-of, length-true_at, value_of_true_at, narrowed_at, length-true_at (count a) ranks, narrowed_at a ranks ascending within)

-- bits that a word shows
pub bit_of_window : (bytes : List ℕ) (p w k q : ℕ) → word_bits w ≡ window bytes p → k < 64 → q ≡ p + k → get_or (word_bits w) k false ≡ backing_bit bytes q
bit_of_window bytes p w k q shows few is = grind (arith, shows, get_or-window bytes p k false few)

-- ---- the words so far

-- the bits of r that the first i words have are written
abbrev AreWritten : List Bool → ℕ → List ℕ → Type 0
AreWritten r i out = (p : ℕ) → p < 64 * i → backing_bit out p ≡ get_or r p false

written-more : (r : List Bool) (i w : ℕ) (out new : List ℕ) → AreWritten r i out → word_bits w ≡ padded_part r i
    → window new (64 * i) ≡ word_bits w → ((p : ℕ) → ((p < 64 * i) ⊎ (64 * i + 64 ≤ p)) → backing_bit new p ≡ backing_bit out p) → AreWritten r (i + 1) new
written-more r i w out new so_far word here others = λ p h. elim (cases_lt p (64 * i)) [
  | inl earlier ↦ others p (inl earlier) ∙ so_far p earlier
  | inr past ↦
      let at_word : 64 * i + (p - 64 * i) ≡ p = omega arith in
      ap (backing_bit new) (sym at_word) ∙ sym (get_or-window new (64 * i) (p - 64 * i) false (omega arith))
      ∙ ap (λ (x : List Bool). get_or x (p - 64 * i) false) (here ∙ word)
      ∙ get_or-padded_part r i (p - 64 * i) (omega arith) ∙ ap (λ n. get_or r n false) at_word
]

all_below : (m : List Bool) → count_below m (64 * started_words (length m)) ≡ count m
all_below m = ap count (take_all (64 * started_words (length m)) m (omega arith))

-- the steps of one word more
abbrev pub one_more : StepCounts → ℕ → ℕ → StepCounts
one_more s ones w = record s { deposits = s.deposits + 1; words = s.words + 1; offered = s.offered + ones; placed = s.placed + count (word_bits w) }

two_more : (s : StepCounts) (ones w ones₂ w₂ : ℕ) → one_more (one_more s ones w) ones₂ w₂
    ≡ record s { deposits = s.deposits + 2; words = s.words + 2; offered = s.offered + ones + ones₂; placed = s.placed + count (word_bits w) + count (word_bits w₂) }
two_more s ones w ones₂ w₂ = grind (arith, common_steps)

-- as a read and a deposit count them
pub one_counted : (before : Option StepCounts) (ones w : ℕ) {read after : Option StepCounts} → read ≡ option_map (λ (s : StepCounts). record s { words = s.words + 1 }) before
    → after ≡ option_map (λ (s : StepCounts). record s { deposits = s.deposits + 1; offered = s.offered + ones; placed = s.placed + count (word_bits w) }) read
    → after ≡ option_map (λ (s : StepCounts). one_more s ones w) before
one_counted None ones w read deposited = rw (deposited, read) refl
one_counted (Some s) ones w read deposited = rw (deposited, read) refl

-- and of two, as they are counted at once
pub two_counted : (before : Option StepCounts) (ones w ones₂ w₂ : ℕ) {read after : Option StepCounts} → read ≡ option_map (λ (s : StepCounts). record s { words = s.words + 2 }) before
    → after ≡ option_map (λ (s : StepCounts). record s { deposits = s.deposits + 2; offered = s.offered + ones + ones₂; placed = s.placed + count (word_bits w) + count (word_bits w₂) }) read
    → option_map (λ (s : StepCounts). one_more s ones₂ w₂) (option_map (λ (s : StepCounts). one_more s ones w) before) ≡ after
two_counted None ones w ones₂ w₂ read deposited = rw (deposited, read) refl
two_counted (Some s) ones w ones₂ w₂ read deposited = rw (deposited, read) (ap Some (two_more s ones w ones₂ w₂))

pub deposited-at : {a r : List Bool} {i j at to : ℕ} {out : List ℕ} {s t : Option StepCounts} → i ≡ j → at ≡ to → s ≡ t → IsDeposited a r i at out s → IsDeposited a r j to out t
deposited-at {a} {r} {i} {j} {at} {to} {out} {s} {t} e f h is = subst (λ n. IsDeposited a r n to out t) e (subst (λ n. IsDeposited a r i n out t) f (subst (IsDeposited a r i at out) h is))

-- there is room for two words more, and for their deposits
pub two-words-room : {a r : List Bool} {i at : ℕ} {out : List ℕ} (steps : Option StepCounts) (n : ℕ) → IsDeposited a r i at out steps → i + 1 < n → IfSome steps (λ s. s.words + 1 < n)
two-words-room None n is h = tt
two-words-room (Some s) n is h = omega (arith, ap (λ (t : StepCounts). t.words) is.counted)

pub two-deposits-room : {a r : List Bool} {i at : ℕ} {out : List ℕ} (before read : Option StepCounts) (n : ℕ) → IsDeposited a r i at out before
    → read ≡ option_map (λ (s : StepCounts). record s { words = s.words + 2 }) before → i + 2 < n → IfSome read (λ s. s.deposits + 2 < n)
two-deposits-room None read n is ticked h = rw ticked tt
two-deposits-room (Some s) read n is ticked h = rw ticked (omega (arith, ap (λ (t : StepCounts). t.deposits) is.counted))

-- and for one
pub word-room : {a r : List Bool} {i at : ℕ} {out : List ℕ} (steps : Option StepCounts) (n : ℕ) → IsDeposited a r i at out steps → i < n → IfSome steps (λ s. s.words < n)
word-room None n is h = tt
word-room (Some s) n is h = omega (arith, ap (λ (t : StepCounts). t.words) is.counted)

pub deposit-room : {a r : List Bool} {i at : ℕ} {out : List ℕ} (before read : Option StepCounts) (n : ℕ) → IsDeposited a r i at out before
    → read ≡ option_map (λ (s : StepCounts). record s { words = s.words + 1 }) before → i < n → IfSome read (λ s. s.deposits < n)
deposit-room None read n is ticked h = rw ticked tt
deposit-room (Some s) read n is ticked h = rw ticked (omega (arith, ap (λ (t : StepCounts). t.deposits) is.counted))

module _ (f : ℕ → Bool) (a : List Bool) where
  abbrev b : List Bool
  b = first_bits f (count a)

  abbrev r : List Bool
  r = narrowed_by f a

  pub deposited-more : {i at s m ones w : ℕ} {out new : List ℕ} {before after : Option StepCounts} → IsDeposited a r i at out before
      → IsAt a i at m ones → AreBitsFrom f at ones s → Deposits s m w
      → window new (64 * i) ≡ word_bits w → ((p : ℕ) → ((p < 64 * i) ⊎ (64 * i + 64 ≤ p)) → backing_bit new p ≡ backing_bit out p)
      → after ≡ option_map (λ (s : StepCounts). one_more s ones w) before
      → IsDeposited a r (i + 1) (at + ones) new after
  deposited-more {i} {at} {s} {m} {ones} {w} {out} {new} {before} {after} so_far mask source is here others ticked =
      let bits : AreBitsFrom (λ k. get_or b k false) at (count (word_bits m)) s
      = λ k h. source k (omega (arith, mask.counted)) ∙ sym (get_or-first_bits f (count a) (at + k) (omega (arith, mask.counted, place-after_within mask))) in
      let word = deposited-word a b i at s m w (length-first_bits f (count a)) mask.place mask.shows bits is in
      let offered : count_below a (64 * i) + ones ≡ count_below a (64 * (i + 1)) = omega (arith, mask.place, place-next mask) in
      let placed : count_below r (64 * i) + count (word_bits w) ≡ count_below r (64 * (i + 1)) = omega (arith, ap count word, count-word_more r i) in
      record {
        place = place-next mask;
        written = written-more r i w out new so_far.written word here others;
        counted = counted-next (λ s. one_more s ones w) before after _ _ ticked so_far.counted (rw (offered, placed) refl);
      }

  -- all words
  pub deposited-list : {i at : ℕ} {out : List ℕ} {steps : Option StepCounts} → i ≡ started_words (length a) → IsDeposited a r i at out steps → values (record { bytes = out; offset = 0; len = length a }) ≡ r
  deposited-list {i} {at} {out} all is = grind (arith, length-rank_intersection, b, list-from_bits, r)

  pub deposited-steps : {i at : ℕ} {out : List ℕ} {steps : Option StepCounts} → i ≡ started_words (length a) → IsDeposited a r i at out steps → IfSome steps (λ s. s ≡ word_steps a r)
  deposited-steps {i} {at} {out} {steps} all is = counted-as steps _ _ is.counted (grind (arith, length-rank_intersection a b, all_below))
