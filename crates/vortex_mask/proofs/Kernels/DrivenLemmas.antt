-- The kernel that goes by ranks: words that are read in turn, the indices found in them, and the run of calls that gave the ranks.
use Rattle.vortex_mask.proofs.Common.{Option, Some, None, common_steps, ◌≡◌, ℕ, ◌+◌, ◌-◌, ◌*◌, ◌/◌, ◌^◌, ◌<◌, ◌≤◌, ◌%◌, Bool, List, [], ◌∷◌, ◌++◌, length, take, get_or, refl, sym, subst, ap, ap₂, ◌∙◌, arith, count_ones, slice_get, get_or-append_seam, run_of_turn, run_of_exit, take_all, map-append, length-append, get_or_append_left, sum_by_push, slice_get-get_or, get_or_from_slice_get, Yields, EachRunFrom, WholeRun, sum_by, IsStrictlyIncreasing, positions, count, at_indices, word_bits, word_part, padded_part, padded_remainder, selected, AreRanks, HasRead, StepCounts, option_map, IfSome, positions-ascending, positions-within, All-at_indices, count-word_more, place_in_word, count-word_bits, All}
use Rattle.vortex_mask.proofs.Lists.PlaceListLemmas.{at_indices-ascending}
use Rattle.vortex_mask.proofs.Kernels.StepLemmas.{counted-next}
use Rattle.vortex_mask.proofs.Kernels.WordKernelLemmas.{word-started}

-- where a true value stands past the words read, there is a further word
pub more-words : (m : List Bool) (n w before rank : ℕ) → HasRead m n w before → before + count_ones w ≤ rank → rank < count m → 64 * n < length m
more-words m n w before rank read passed there = grind (arith, read.counted, take_all)

-- and it is read
pub read-more : (m : List Bool) (n w before next end : ℕ) → HasRead m n w before → 64 * n < length m → end ≡ before + count_ones w → next < 2 ^ 64
    → (n < length m / 64 → word_bits next ≡ word_part m n) → (n ≡ length m / 64 → word_bits next ≡ padded_remainder m) → HasRead m (n + 1) next end
read-more m n w before next end read more ends fits whole last = grind (arith, count-word_bits, count-word_more, word-started)

-- the place of a value that is in the last word
pub place-found : (m : List Bool) (n w before rank p : ℕ) → HasRead m n w before → w < 2 ^ 64 → before ≤ rank → rank < before + count_ones w → p ≡ selected w (rank - before)
    → slice_get (positions m) rank ≡ Some (64 * (n - 1) + p)
place-found m n w before rank p read fits reached inside is =
    let r : ℕ = rank - before in
    let some : 0 < n = grind (arith, read.counted) in
    let again : n - 1 + 1 ≡ n = omega arith in
    let shows : word_bits w ≡ padded_part m (n - 1) = read.last some in
    let front : before ≡ count (take (64 * (n - 1)) m)
    = omega (arith, read.counted, ap (λ k. count (take (64 * k) m)) again, count-word_more m (n - 1), ap count shows, count-word_bits w fits) in
    place_in_word m (n - 1) rank r p (omega (arith, read.within)) (omega arith) (omega (arith, ap count shows, count-word_bits w fits))
    (rw (← shows) (slice_get-get_or (positions (word_bits w)) r 0 (omega (arith, count-word_bits w fits)) ∙ ap Some (sym is)))

-- ---- ranks as an iterator gives them

-- what is not above the last is not above the next
pub not-above-next : (xs : List ℕ) (x n : ℕ) → IsStrictlyIncreasing (xs ++ x ∷ []) → n ≤ get_or xs (length xs - 1) 0 → n ≤ x
not-above-next [] x n ascending h = omega (arith, h)
not-above-next (y ∷ ys) x n ascending h = grind (arith, ascending (length ys), length-append, get_or_append_left (y ∷ ys) (x ∷ []) 0 (length ys), get_or-append_seam (y ∷ ys) x [] 0)

-- the words read, the indices found for the ranks so far, and the steps where they are counted
pub record AreFound (m : List Bool) (ranks : List ℕ) (words word before : ℕ) (indices : List ℕ) (steps : Option StepCounts) : Type 0 where
  pub read : HasRead m words word before
  pub reached : before ≤ get_or ranks (length ranks - 1) 0
  pub found : indices ≡ at_indices (positions m) ranks
  pub counted : IfSome steps (λ s. s ≡ record { deposits = 0; words = words; selections = length ranks; offered = 0; placed = 0; spots = sum_by (λ p. p % 64) indices })

-- the words that are counted, and room for a selection
pub words-counted : {m : List Bool} {ranks : List ℕ} {words word before : ℕ} {indices : List ℕ} (steps : Option StepCounts) → AreFound m ranks words word before indices steps → IfSome steps (λ s. s.words ≡ words)
words-counted None found = tt
words-counted (Some s) found = ap (λ (t : StepCounts). t.words) found.counted

pub selection-room : {m : List Bool} {ranks : List ℕ} {words word before : ℕ} {indices : List ℕ} (steps : Option StepCounts) (n : ℕ) → AreFound m ranks words word before indices steps → length ranks < n → IfSome steps (λ s. s.selections < n)
selection-room None n found h = tt
selection-room (Some s) n found h = omega (arith, ap (λ (t : StepCounts). t.selections) found.counted)

module _ {S : Type 0} (steps : S → Option ℕ → S → Type 0) (s : S) (top n : ℕ) (ranks : EachRunFrom steps s (AreRanks top n)) (it : S) (same : it ≡ s) (xs : List ℕ) (t : S) (ran : Yields steps it xs t) where
  -- the ranks so far, and the next one
  pub ranks-at_turn : (x : ℕ) (u : S) → steps t (Some x) u → IsStrictlyIncreasing (xs ++ x ∷ []) × All (λ k. k < top) (xs ++ x ∷ [])
  ranks-at_turn x u step = grind (arith, run_of_turn)

  -- all ranks
  pub ranks-at_exit : (u : S) → steps t None u → WholeRun steps s (λ p. p.items ≡ xs) × (length xs ≡ n)
  ranks-at_exit u step =
      let k = run_of_exit steps s xs t (subst (λ i. Yields steps i xs t) same ran) u step in
      ((k.0, k.1, k.2, k.3.0), sym k.3.1 ∙ (ranks k.0 k.0.seen k.1).2 k.2)

  -- and their indices
  pub found-all : (u : S) → steps t None u → (a m : List Bool) (words word before : ℕ) (indices : List ℕ) (counts : Option StepCounts) → AreFound a xs words word before indices counts → a ≡ m
      → WholeRun steps s (λ p. indices ≡ at_indices (positions m) p.items)
  found-all u step a m words word before indices counts found same_list =
      let run = (ranks-at_exit u step).0 in
      (run.0, run.1, run.2, found.found ∙ ap₂ (λ (b : List Bool) ks. at_indices (positions b) ks) same_list (sym run.3))

-- ---- the indices found

pub found-more : (m : List Bool) (ranks : List ℕ) (x words word before more next passed : ℕ) (indices new : List ℕ) (p : ℕ) (steps ticked : Option StepCounts)
    → AreFound m ranks words word before indices steps → slice_get (positions m) x ≡ Some p → HasRead m more next passed → passed ≤ x
    → new ≡ indices ++ p ∷ [] → ticked ≡ option_map (λ (s : StepCounts). record s { words = more; selections = s.selections + 1; spots = s.spots + p % 64 }) steps
    → AreFound m (ranks ++ x ∷ []) more next passed new ticked
found-more m ranks x words word before more next passed indices new p steps ticked so_far place read reached pushed counted =
    let all : List ℕ = ranks ++ x ∷ [] in
    let len = length-append ranks (x ∷ []) in
    let last : length all - 1 ≡ length ranks = omega (arith, len) in
    let longer : length ranks + 1 ≡ length all = omega (arith, len) in
    let spots : sum_by (λ q. q % 64) indices + p % 64 ≡ sum_by (λ q. q % 64) new
    = sym (ap (sum_by (λ q. q % 64)) pushed ∙ sum_by_push (λ q. q % 64) indices p) in
    record {
      read = read;
      reached = omega (arith, reached, ap (λ k. get_or all k 0) last, get_or-append_seam ranks x [] 0);
      found = pushed ∙ ap₂ (λ (ps : List ℕ) q. ps ++ q ∷ []) so_far.found (sym (get_or_from_slice_get (positions m) x p 0 place))
          ∙ sym (map-append (λ k. get_or (positions m) k 0) ranks (x ∷ []));
      counted = counted-next (λ (s : StepCounts). record s { words = more; selections = s.selections + 1; spots = s.spots + p % 64 }) steps ticked _ _ counted so_far.counted (rw (longer, spots) refl);
    }

-- the indices of all ranks ascend within the list
module _ {S : Type 0} (steps : S → Option ℕ → S → Type 0) (s : S) (m : List Bool) (n : ℕ) (indices : List ℕ) (ranks : EachRunFrom steps s (AreRanks (count m) n)) (run : WholeRun steps s (λ p. indices ≡ at_indices (positions m) p.items)) where
  pub indices-ascending : IsStrictlyIncreasing indices
  indices-ascending =
      let r = ranks run.0 run.0.seen run.1 in
      subst IsStrictlyIncreasing (sym run.3) (at_indices-ascending (length m) (positions m) run.0.items (positions-ascending m) (positions-within m) r.0 r.1)

  pub indices-within : All (λ i. i < length m) indices
  indices-within = grind (arith, common_steps, All-at_indices (λ i. i < length m) (positions m) run.0.items (positions-within m) (ranks run.0 run.0.seen run.1).1, positions-within m)
