-- The last values of a bitmap that is written, and the values before them.
use Rattle.mask_c.proofs.Common.{common_steps, get_or-set_at, ◌≡◌, ℕ, nat_eq, set, ◌^◌, ◌+◌, ◌-◌, ◌*◌, ◌/◌, ◌%◌, ◌<◌, ◌≤◌, ◌&&◌, Bool, true, false, List, [], ◌∷◌, ◌++◌, append-nil, length, get_or, take, drop, refl, sym, ap, ap₂, ◌∙◌, arith, bit_at, div_ceil, bit_and, drop-append_seam, slice_range, subst, length-between, cases_eq, get_or-take, get_or_append_left, get_or_past, length-append, length-drop, length-take, length-take-le, take-append-drop, take-take, take_at, one_shl, bit_at-zero, bitmap, backing_bit, values_so_far, combined, count, count_below, rank_intersection, repeated, padded_part, padded_remainder, window, word_bits, AreClearBehind, get_or-set_other, combined-append, all_true_from_count, count-append, count-repeated_false, get_or-padded, trues, count-le-length, count-trues, length-rank_intersection, rank_intersection_value, get_or-padded_part, padded_part_from_values, bit_at-low_mask, bit_at-past_mask, get_or-word_bits, length-word_bits, narrow, rank_intersection-all_true, rank_intersection-narrow, bitmap-append, bitmap-drop, front-split, length-bitmap, length-window, front-same, get_or-bitmap, get_or-put_mid_inside, get_or-window, put-before, window_from_bits}
use borrow.Rule.Slice.PartMut.{put_mid}

-- ---- a front

-- bytes that follow have no part in it
pub front-appended : (xs ys : List ℕ) (n : ℕ) → n ≤ 8 * length xs → bitmap (xs ++ ys) 0 n ≡ bitmap xs 0 n
front-appended xs ys n few =
    front-same xs (xs ++ ys) n (λ p h. ap (λ x. nat_eq (bit_at x (p % 8)) 1) (get_or_append_left xs ys 0 (p / 8) (omega arith)))

-- the first values of a bitmap
pub bitmap-take : (bytes : List ℕ) (p n k : ℕ) → k ≤ n → take k (bitmap bytes p n) ≡ bitmap bytes p k
bitmap-take bytes p n k few =
    let parts : n ≡ k + (n - k) = omega arith in
    ap (λ l. take k (bitmap bytes p l)) parts ∙ ap (take k) (bitmap-append bytes p k (n - k)) ∙ take_at (bitmap bytes p k) (bitmap bytes (p + k) (n - k)) k (length-bitmap bytes p k)

-- a word that no change touched stays
pub window-kept : (old new : List ℕ) (p : ℕ) → ((j : ℕ) → j < 64 → backing_bit new (p + j) ≡ backing_bit old (p + j)) → window new p ≡ window old p
window-kept old new p same = window_from_bits new p (window old p) (length-window old p) (λ j h. get_or-window old p j false h ∙ sym (same j h))

-- a word with no true value stays so where it is narrowed
pub narrowed-none : (m b : List Bool) (i : ℕ) → length b ≡ count m → word_bits 0 ≡ padded_part m i → word_bits 0 ≡ padded_part (rank_intersection m b) i
narrowed-none m b i fits shows =
    padded_part_from_values (rank_intersection m b) (word_bits 0) i (length-word_bits 0) (λ j h.
    let none : get_or (word_bits 0) j false ≡ false = get_or-word_bits 0 j false h ∙ ap (λ x. nat_eq x 1) (bit_at-zero j) in
    let here : get_or m (64 * i + j) false ≡ false = sym (get_or-padded_part m i j h) ∙ sym (ap (λ (xs : List Bool). get_or xs j false) shows) ∙ none in
    none ∙ sym (rank_intersection_value m b (64 * i + j) fits ∙ ap (λ x. x && get_or b (count_below m (64 * i + j)) false) here))

-- ---- the last values, written

-- the lowest bytes of a word `low`, put behind the whole words of n values: so many as the other values take
pub record ArePutBehind (old ys : List ℕ) (low n e : ℕ) : Type 0 where
  pub begins : 8 * (n / 64) ≤ length old
  pub end : e ≡ div_ceil n 8
  pub len : length ys ≡ e - 8 * (n / 64)
  pub shows : bitmap ys 0 (8 * (e - 8 * (n / 64))) ≡ take (8 * (e - 8 * (n / 64))) (word_bits low)

pub put-behind : (old ys : List ℕ) (low n e : ℕ) → div_ceil n 8 ≤ length old → e ≡ div_ceil n 8 → length ys ≡ length (slice_range old (8 * (n / 64)) e)
    → bitmap ys 0 (8 * length (slice_range old (8 * (n / 64)) e)) ≡ take (8 * length (slice_range old (8 * (n / 64)) e)) (word_bits low) → ArePutBehind old ys low n e
put-behind old ys low n e room is len shows =
    let part : length (slice_range old (8 * (n / 64)) e) ≡ e - 8 * (n / 64) = length-between old (8 * (n / 64)) e (omega arith) in
    record {
      begins = omega arith;
      end = is;
      len = len ∙ part;
      shows = subst (λ (k : ℕ). bitmap ys 0 (8 * k) ≡ take (8 * k) (word_bits low)) part shows;
    }

-- the values then, where the word was cut to them
pub put-cut : (old ys : List ℕ) (word low n e : ℕ) → ArePutBehind old ys low n e → word_bits low ≡ take (n % 64) (word_bits word) ++ repeated (64 - n % 64) false
    → bitmap (put_mid (8 * (n / 64)) (e - 8 * (n / 64)) old ys) 0 n ≡ values_so_far old word n
put-cut old ys word low n e put cut =
    let w : ℕ = n / 64 in
    let rest : ℕ = n % 64 in
    let k : ℕ = e - 8 * w in
    let m : List Bool = take rest (word_bits word) in
    let more : List ℕ = ys ++ drop k (drop (8 * w) old) in
    let new : List ℕ = take (8 * w) old ++ more in
    let few : rest ≤ 8 * k = omega (arith, put.end) in
    let place : 64 * w ≡ 8 * (8 * w) = omega arith in
    let begun : drop (8 * w) new ≡ more = ap (λ i. drop i new) (sym (length-take-le (8 * w) old put.begins)) ∙ drop-append_seam (take (8 * w) old) more in
    front-split new n
    ∙ ap₂ (λ (us vs : List Bool). us ++ vs) (put-before old ys w k put.begins)
    (ap (λ p. bitmap new p rest) place ∙ sym (bitmap-drop new (8 * w) rest) ∙ ap (λ (us : List ℕ). bitmap us 0 rest) begun
    ∙ front-appended ys (drop k (drop (8 * w) old)) rest (omega (arith, few, put.len))
    ∙ sym (bitmap-take ys 0 (8 * k) rest few) ∙ ap (take rest) put.shows ∙ take-take rest (8 * k) (word_bits low) few
    ∙ ap (take rest) cut ∙ take_at m (repeated (64 - rest) false) rest (omega (arith, length-take rest (word_bits word), length-word_bits word)))

-- then the bits behind them are clear
pub put-clear : (old ys : List ℕ) (word low n e : ℕ) → ArePutBehind old ys low n e → word_bits low ≡ take (n % 64) (word_bits word) ++ repeated (64 - n % 64) false
    → AreClearBehind (put_mid (8 * (n / 64)) (e - 8 * (n / 64)) old ys) n
put-clear old ys word low n e put cut = λ p from to.
    let w : ℕ = n / 64 in
    let k : ℕ = e - 8 * w in
    let j : ℕ = p - 64 * w in
    let at : p / 8 ≡ 8 * w + j / 8 = omega arith in
    let bit : p % 8 ≡ j % 8 = omega arith in
    let place : j ≡ 0 + j = omega arith in
    let within : j < 8 * k = omega (arith, put.end) in
    let byte : get_or (put_mid (8 * w) k old ys) (p / 8) 0 ≡ get_or ys (j / 8) 0
    = ap (λ i. get_or (put_mid (8 * w) k old ys) i 0) at
    ∙ get_or-put_mid_inside (8 * w) e old ys (j / 8) put.begins (omega (arith, put.len)) (omega arith) in
    ap₂ (λ x i. nat_eq (bit_at x i) 1) byte bit ∙ ap (backing_bit ys) place ∙ sym (get_or-bitmap ys 0 (8 * k) j false within)
    ∙ ap (λ (us : List Bool). get_or us j false) put.shows ∙ get_or-take (8 * k) (word_bits low) j false within
    ∙ ap (λ (us : List Bool). get_or us j false) cut ∙ get_or-padded (take (n % 64) (word_bits word)) (64 - n % 64) j
    ∙ get_or_past (take (n % 64) (word_bits word)) j false (omega (arith, length-take (n % 64) (word_bits word)))

-- ---- the bits behind the last value cleared

pub cleared-list : (bytes : List ℕ) (n : ℕ) → (n % 8 ≡ 0 → ⊥) → div_ceil n 8 ≤ length bytes
    → bitmap (set bytes (n / 8) (bit_and (get_or bytes (n / 8) 0) (1 * 2 ^ (n % 8) % 256 - 1))) 0 n ≡ bitmap bytes 0 n
cleared-list bytes n part room = grind (arith, common_steps, one_shl, front-same, cases_eq, bit_at-low_mask, get_or-set_at, get_or-set_other)

pub cleared-clear : (bytes : List ℕ) (n : ℕ) → (n % 8 ≡ 0 → ⊥) → div_ceil n 8 ≤ length bytes
    → AreClearBehind (set bytes (n / 8) (bit_and (get_or bytes (n / 8) 0) (1 * 2 ^ (n % 8) % 256 - 1))) n
cleared-clear bytes n part room = grind (arith, common_steps, one_shl, bit_at-past_mask, get_or-set_at)

-- ---- lists of two parts

narrow-append : (a c b d : List Bool) → length b ≡ trues a → narrow (a ++ c) (b ++ d) ≡ narrow a b ++ narrow c d
narrow-append [] c [] d len = refl
narrow-append [] c (y ∷ b) d len = absurd (omega arith)
narrow-append (false ∷ a) c b d len = ap (λ (xs : List Bool). false ∷ xs) (narrow-append a c b d len)
narrow-append (true ∷ a) c [] d len = absurd (omega arith)
narrow-append (true ∷ a) c (y ∷ b) d len = ap (λ (xs : List Bool). y ∷ xs) (narrow-append a c b d (omega arith))

-- the rank intersection of two parts
pub rank_intersection-append : (a c b d : List Bool) → length b ≡ count a → length d ≡ count c
    → rank_intersection (a ++ c) (b ++ d) ≡ rank_intersection a b ++ rank_intersection c d
rank_intersection-append a c b d fits fits' = grind (arith, common_steps, rank_intersection-narrow, length-append, count-append, narrow-append, count-trues)

-- ---- what a call has written: the values of whole words, and the last ones by a word

-- the values past whole words
padded_remainder_of : (m : List Bool) (n : ℕ) → length m ≡ n → padded_remainder m ≡ drop (64 * (n / 64)) m ++ repeated (64 - n % 64) false
padded_remainder_of m n len = ap (λ k. drop (64 * (k / 64)) m ++ repeated (64 - k % 64) false) len

pub written : (xs ys : List Bool) (front more : List ℕ) (word n : ℕ) → 64 * (n / 64) ≤ 8 * length front → bitmap front 0 (64 * (n / 64)) ≡ xs → take (n % 64) (word_bits word) ≡ ys
    → values_so_far (front ++ more) word n ≡ xs ++ ys
written xs ys front more word n covers list last = ap₂ (λ (us vs : List Bool). us ++ vs) (front-appended front more (64 * (n / 64)) covers ∙ list) last

-- two bitmaps combined
pub written-combined : (f : Bool → Bool → Bool) (a b : List ℕ) (p q : ℕ) (front more : List ℕ) (word n : ℕ) → 64 * (n / 64) ≤ 8 * length front
    → bitmap front 0 (64 * (n / 64)) ≡ combined f (bitmap a p (64 * (n / 64))) (bitmap b q (64 * (n / 64)))
    → take (n % 64) (word_bits word) ≡ combined f (bitmap a (p + 64 * (n / 64)) (n % 64)) (bitmap b (q + 64 * (n / 64)) (n % 64))
    → values_so_far (front ++ more) word n ≡ combined f (bitmap a p n) (bitmap b q n)
written-combined f a b p q front more word n covers list last =
    let w : ℕ = 64 * (n / 64) in
    let parts : w + n % 64 ≡ n = omega arith in
    written _ _ front more word n covers list last
    ∙ sym (combined-append f (bitmap a p w) (bitmap b q w) (bitmap a (p + w) (n % 64)) (bitmap b (q + w) (n % 64)) (length-bitmap a p w ∙ sym (length-bitmap b q w)))
    ∙ ap₂ (combined f) (sym (bitmap-append a p w (n % 64)) ∙ ap (bitmap a p) parts) (sym (bitmap-append b q w (n % 64)) ∙ ap (bitmap b q) parts)

-- the true values past whole words, and those in them
pub count-remainder : (bytes : List ℕ) (p n : ℕ) → count (bitmap bytes p (64 * (n / 64))) + count (padded_remainder (bitmap bytes p n)) ≡ count (bitmap bytes p n)
count-remainder bytes p n =
    let m : List Bool = bitmap bytes p n in
    let none : List Bool = repeated (64 - length m % 64) false in
    omega (
      arith,
      ap count (padded_remainder_of m n (length-bitmap bytes p n)),
      count-append (drop (64 * (n / 64)) m) (repeated (64 - n % 64) false),
      count-repeated_false (64 - n % 64),
      count-append (take (64 * (n / 64)) m) (drop (64 * (n / 64)) m),
      ap count (take-append-drop (64 * (n / 64)) m),
      ap count (bitmap-take bytes p n (64 * (n / 64)) (omega arith)),
    )

-- a bitmap narrowed by ranks, of which a word has the last
pub written-narrowed : (bytes : List ℕ) (p n : ℕ) (b : List Bool) (front more : List ℕ) (mask source word : ℕ) → 64 * (n / 64) ≤ 8 * length front
    → length b ≡ count (bitmap bytes p (64 * (n / 64))) → bitmap front 0 (64 * (n / 64)) ≡ rank_intersection (bitmap bytes p (64 * (n / 64))) b
    → word_bits mask ≡ padded_remainder (bitmap bytes p n) → word_bits word ≡ rank_intersection (word_bits mask) (take (count (word_bits mask)) (word_bits source))
    → values_so_far (front ++ more) word n ≡ rank_intersection (bitmap bytes p n) (b ++ take (count (word_bits mask)) (word_bits source))
written-narrowed bytes p n b front more mask source word covers fits list shows is =
    let m : List Bool = bitmap bytes p n in
    let w : ℕ = 64 * (n / 64) in
    let d : List Bool = take (count (word_bits mask)) (word_bits source) in
    let last : List Bool = drop w m in
    let none : List Bool = repeated (64 - n % 64) false in
    let shown : word_bits mask ≡ last ++ none = shows ∙ padded_remainder_of m n (length-bitmap bytes p n) in
    let first : take w m ≡ bitmap bytes p w = bitmap-take bytes p n w (omega arith) in
    let all : length d ≡ count last
    = omega (arith, length-take (count (word_bits mask)) (word_bits source), length-word_bits source, count-le-length (word_bits mask), length-word_bits mask, ap count shown, count-append last none, count-repeated_false (64 - n % 64)) in
    written _ _ front more word n covers (list ∙ ap (λ (x : List Bool). rank_intersection x b) (sym first))
    (ap (take (n % 64)) (is ∙ ap₂ rank_intersection shown (sym (append-nil d)) ∙ rank_intersection-append last none d [] all (sym (count-repeated_false (64 - n % 64))))
    ∙ take_at (rank_intersection last d) (rank_intersection none []) (n % 64) (omega (arith, length-rank_intersection last d, length-drop w m, length-bitmap bytes p n)))
    ∙ sym (rank_intersection-append (take w m) last b d (fits ∙ ap count (sym first)) all)
    ∙ ap (λ (x : List Bool). rank_intersection x (b ++ d)) (take-append-drop w m)

-- where all values are true, the ranks are the whole
pub narrowed_by_all : (m r : List Bool) → count m ≡ length m → length r ≡ length m → rank_intersection m r ≡ r
narrowed_by_all m r all len = ap (λ (x : List Bool). rank_intersection x r) (all_true_from_count 0 m all) ∙ rank_intersection-all_true (length m) r len
