-- Short strings: whole words that are written for them, and how many come before the last ones.
use Rattle.mask_c.proofs.Common.{◌≡◌, ℕ, Bool, subst, ◌+◌, ◌-◌, ◌*◌, ◌<◌, ◌≤◌, List, ◌++◌, append_assoc, length, get_or, take, drop, slice_range, slice_get, Some, sym, ap, ◌∙◌, arith, All, concat, sum, length-append, length-drop, length-take, take-append-drop, take-take, take_all, take_at, All-append, All-take, concat-append, positions, items_at}
use Rattle.mask_c.proofs.StringLemmas.{bytes-word, concat-more, items_at-append, items_at-more, range-join, sum-parts, word-within}

length-range : (bytes : List ℕ) (a b : ℕ) → a ≤ b → b ≤ length bytes → length (slice_range bytes a b) ≡ b - a
length-range bytes a b order within = omega (arith, length-take (b - a) (drop a bytes), length-drop a bytes)

-- ---- words

-- more bytes behind those so far
pub more-bytes : (bytes front here new : List ℕ) (a b c : ℕ) → a ≤ b → b ≤ c → new ≡ here ++ slice_range bytes b c → here ≡ front ++ slice_range bytes a b → new ≡ front ++ slice_range bytes a c
more-bytes bytes front here new a b c first second is before =
    is ∙ ap (λ (xs : List ℕ). xs ++ slice_range bytes b c) before
    ∙ append_assoc front (slice_range bytes a b) (slice_range bytes b c)
    ∙ ap (λ (xs : List ℕ). front ++ xs) (range-join bytes a b c first second)

pub next-eight : (bytes old out new : List ℕ) (at begin j : ℕ) → take (at + 8 * j + 8) new ≡ take (at + 8 * j) out ++ slice_range bytes (begin + 8 * j) (begin + 8 * j + 8)
    → take (at + 8 * j) out ≡ take at old ++ slice_range bytes begin (begin + 8 * j)
    → take (at + 8 * (j + 1)) new ≡ take at old ++ slice_range bytes begin (begin + 8 * (j + 1))
next-eight bytes old out new at begin j is before =
    let next : at + 8 * (j + 1) ≡ at + 8 * j + 8 = omega arith in
    let end : begin + 8 * j + 8 ≡ begin + 8 * (j + 1) = omega arith in
    ap (λ n. take n new) next
    ∙ more-bytes bytes (take at old) (take (at + 8 * j) out) (take (at + 8 * j + 8) new) begin (begin + 8 * j) (begin + 8 * j + 8) (omega arith) (omega arith) is before
    ∙ ap (λ n. take at old ++ slice_range bytes begin n) end

-- of what was written, the first bytes
pub fewer-bytes : (bytes old new : List ℕ) (at begin end n : ℕ) → begin ≤ end → end ≤ begin + n → begin + n ≤ length bytes → at ≤ length old
    → take (at + n) new ≡ take at old ++ slice_range bytes begin (begin + n)
    → take (at + (end - begin)) new ≡ take at old ++ slice_range bytes begin end
fewer-bytes bytes old new at begin end n order few within room is =
    let mid : List ℕ = take at old ++ slice_range bytes begin end in
    let rest : List ℕ = slice_range bytes end (begin + n) in
    let split : take (at + n) new ≡ mid ++ rest
    = is ∙ ap (λ (xs : List ℕ). take at old ++ xs) (sym (range-join bytes begin end (begin + n) order few))
    ∙ sym (append_assoc (take at old) (slice_range bytes begin end) rest) in
    let len : length mid ≡ at + (end - begin)
    = omega (arith, length-append (take at old) (slice_range bytes begin end), length-take at old, length-range bytes begin end order (omega arith)) in
    sym (take-take (at + (end - begin)) (at + n) new (omega arith))
    ∙ ap (take (at + (end - begin))) split
    ∙ take_at mid rest (at + (end - begin)) len

-- ---- strings

-- one more string
pub one-more : (xss : List (List ℕ)) (ps front here new xs : List ℕ) (k : ℕ) → k < length ps → slice_get xss (get_or ps k 0) ≡ Some xs
    → here ≡ front ++ concat (items_at xss (take k ps)) → new ≡ here ++ xs → new ≡ front ++ concat (items_at xss (take (k + 1) ps))
one-more xss ps front here new xs k few read before is =
    let its : List (List ℕ) = items_at xss (take k ps) in
    is ∙ ap (λ (ys : List ℕ). ys ++ xs) before
    ∙ append_assoc front (concat its) xs
    ∙ ap (λ (ys : List ℕ). front ++ ys) (sym (ap concat (items_at-more xss ps k xs few read) ∙ concat-more its xs))

-- those of the first indices, and then of the others
pub both-parts : (xss : List (List ℕ)) (ps front here new : List ℕ) (k : ℕ) → here ≡ front ++ concat (items_at xss (take k ps))
    → new ≡ here ++ concat (items_at xss (drop k ps)) → new ≡ front ++ concat (items_at xss ps)
both-parts xss ps front here new k before is =
    let first : List (List ℕ) = items_at xss (take k ps) in
    let last : List (List ℕ) = items_at xss (drop k ps) in
    is ∙ ap (λ (ys : List ℕ). ys ++ concat last) before
    ∙ append_assoc front (concat first) (concat last)
    ∙ ap (λ (ys : List ℕ). front ++ ys) (sym (ap concat (items_at-append xss ps (take k ps) (drop k ps) (sym (take-append-drop k ps))) ∙ concat-append first last))

-- what comes behind the first indices, as a slice has it
pub rest-of : (ps : List ℕ) (k : ℕ) → take (length ps - k) (drop k ps) ≡ drop k ps
rest-of ps k = take_all (length ps - k) (drop k ps) (omega (arith, length-drop k ps))

pub sum-both : (xs ps : List ℕ) (k : ℕ) → sum (items_at xs ps) ≡ sum (items_at xs (take k ps)) + sum (items_at xs (drop k ps))
sum-both xs ps k = sum-parts xs ps (take k ps) (drop k ps) (sym (take-append-drop k ps))

-- ---- strings that wait

-- those of a word behind those that are kept
pub waiting-strings : (xss : List (List ℕ)) (ps front was keeps kept here now : List ℕ) (old new : List ℕ) → ps ≡ front ++ here → keeps ≡ kept → now ≡ kept ++ here
    → old ++ concat (items_at xss was) ≡ concat (items_at xss front)
    → new ++ concat (items_at xss keeps) ≡ old ++ concat (items_at xss was)
    → new ++ concat (items_at xss now) ≡ concat (items_at xss ps)
waiting-strings xss ps front was keeps kept here now old new more same is before after =
    let last : List ℕ = concat (items_at xss here) in
    ap (λ (ys : List ℕ). new ++ ys) (ap concat (items_at-append xss now kept here is) ∙ concat-append (items_at xss kept) (items_at xss here))
    ∙ sym (append_assoc new (concat (items_at xss kept)) last)
    ∙ ap (λ (ys : List ℕ). ys ++ last) (sym (ap (λ (ks : List ℕ). new ++ concat (items_at xss ks)) same) ∙ after ∙ before)
    ∙ bytes-word xss ps front here more

pub waiting-sum : (ls ps front was keeps kept here now : List ℕ) (old new : ℕ) → ps ≡ front ++ here → keeps ≡ kept → now ≡ kept ++ here
    → old + sum (items_at ls was) ≡ sum (items_at ls front)
    → new + sum (items_at ls keeps) ≡ old + sum (items_at ls was)
    → new + sum (items_at ls now) ≡ sum (items_at ls ps)
waiting-sum ls ps front was keeps kept here now old new more same is before after =
    omega (arith, before, after, ap (λ ks. sum (items_at ls ks)) same, sum-parts ls now kept here is, sum-parts ls ps front here more)

pub waiting-within : (m : List Bool) (i n k : ℕ) (was kept here now : List ℕ) → positions (take (64 * (i + 1)) m) ≡ positions (take (64 * i) m) ++ here
    → take k was ≡ kept → now ≡ kept ++ here → n ≡ length m + 1 → All (λ p. p + 1 < n) was → All (λ p. p + 1 < n) now
waiting-within m i n k was kept here now more same is len before =
    subst (All (λ p. p + 1 < n)) (sym is)
    (All-append (λ p. p + 1 < n) kept here (subst (All (λ p. p + 1 < n)) same (All-take (λ p. p + 1 < n) k was before))
    (word-within m (positions (take (64 * i) m)) here i n more len))
