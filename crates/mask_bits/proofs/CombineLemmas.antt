-- The bits that the loops over words write and compare.
use Rattle.mask_bits.proofs.Common.{◌≡◌, Result, ℕ, ◌+◌, ◌*◌, ◌-◌, ◌/◌, ◌%◌, ◌<◌, ◌≤◌, ◌⊎◌, min, not, set, Bool, false, List, ◌++◌, length, get_or, take, drop, slice_range, slice_get, Some, get_or_from_slice_get, refl, sym, ap, ◌∙◌, arith, bit_xor, IfOk, cases_lt, get_or-drop, get_or-set_other, get_or-take, take-append-le, length-append, get_or_append_left, get_or-append_right, length-between, get_or-between, get_or-set_at, bit_at-lt, bit_at_xor, bit_at_ones, IfOk-weaker, Packed, IsWithinBytes, backing_bit, values, AreCombined, IsCombinedBetween, combined, not_of, word_bits, window, ext_get_or, length-take, take_all, put_mid}
use Rattle.mask_bits.proofs.BufferLemmas.{length-values, get_or-values, values_from_front}
use Rattle.mask_bits.proofs.Lists.BooleanLemmas.{combined_itself, length-combined, get_or-combined}
use Rattle.mask_bits.proofs.Lists.Words.FrontLemmas.{get_or-put_mid_below, get_or-put_mid_above, get_or-put_mid_inside, length-window, get_or-window, window-between, window_from_bits}
use Rattle.mask_bits.proofs.Lists.Words.WordLemmas.{length-word_bits, get_or-word_bits}

-- ---- windows

-- two whole words side by side show the window from a bit of the first on
pub window-neighbors : (bytes : List ℕ) (low i : ℕ) (v w : List Bool) → low ≤ 64 → v ≡ window bytes (64 * i) → w ≡ window bytes (64 * (i + 1)) → slice_range (v ++ w) low (low + 64) ≡ window bytes (low + 64 * i)
window-neighbors bytes low i v w few first second = grind (arith, window-between bytes (64 * i) low few)

-- a word and the byte that follows it show the window from a bit of its first byte on
pub window-next_byte : (bytes : List ℕ) (low i byte : ℕ) (v : List Bool) → low < 8 → v ≡ window bytes (64 * i) → byte ≡ get_or bytes (8 * i + 8) 0 → slice_range (v ++ word_bits byte) low (low + 64) ≡ window bytes (low + 64 * i)
window-next_byte bytes low i byte v few first next =
    let w : List Bool = word_bits byte in
    let len : length v ≡ 64 = ap length first ∙ length-window bytes (64 * i) in
    let within : low + 64 ≤ length (v ++ w) = omega (arith, length-append v w, length-word_bits byte) in
    grind (arith, window_from_bits bytes (low + 64 * i) (slice_range (v ++ w) low (low + 64)) (length-between (v ++ w) low (low + 64) within ∙ omega arith), length-between (v ++ w) low (low + 64) within, get_or-between, get_or_append_left, get_or-window, get_or-append_right, get_or-word_bits)

-- the same where the byte was read as an item
pub window-next_item : (bytes : List ℕ) (low i byte : ℕ) (v : List Bool) → low < 8 → v ≡ window bytes (64 * i) → slice_get bytes (8 * i + 8) ≡ Some byte → slice_range (v ++ word_bits byte) low (low + 64) ≡ window bytes (low + 64 * i)
window-next_item bytes low i byte v few first read = window-next_byte bytes low i byte v few first (sym (get_or_from_slice_get bytes (8 * i + 8) byte 0 read))

-- ---- words combined

-- a word whose bits are f of those of two words has the combined list
pub word_bits-combined : (f : Bool → Bool → Bool) (w x y : ℕ) → ((j : ℕ) → j < 64 → get_or (word_bits w) j false ≡ f (get_or (word_bits x) j false) (get_or (word_bits y) j false)) → word_bits w ≡ combined f (word_bits x) (word_bits y)
word_bits-combined f w x y same =
    ext_get_or false _ _ (grind (arith, length-combined, length-word_bits, get_or-combined)) (λ j h. grind (arith, length-combined, length-word_bits, get_or-combined))

-- bit j of a combined word
pub combined_bit : (f : Bool → Bool → Bool) (a b : List ℕ) (p q j : ℕ) (v w r : List Bool)
    → v ≡ window a p → w ≡ window b q → r ≡ combined f v w → j < 64 → get_or r j false ≡ f (backing_bit a (p + j)) (backing_bit b (q + j))
combined_bit f a b p q j v w r is_v is_w is_r h = grind (arith, get_or-combined, length-window, get_or-window)

-- one more word
pub AreCombined-step : (f : Bool → Bool → Bool) (a b out new : List ℕ) (p q i : ℕ) (v w : List Bool) (r : List Bool)
    → AreCombined f a p b q out (64 * i)
    → v ≡ window a (p + 64 * i) → w ≡ window b (q + 64 * i) → r ≡ combined f v w → window new (64 * i) ≡ r
    → ((k : ℕ) → ((k < 64 * i) ⊎ (64 * i + 64 ≤ k)) → backing_bit new k ≡ backing_bit out k)
    → AreCombined f a p b q new (64 * (i + 1))
AreCombined-step f a b out new p q i v w r before is_v is_w is_r wrote others = λ k h. grind (arith, get_or-window new (64 * i) (k - 64 * i) false, combined_bit f a b (p + 64 * i) (q + 64 * i) (k - 64 * i) v w r is_v is_w is_r)

-- ---- words combined in place

-- none of them
pub between-none : (f : Bool → Bool → Bool) (a b : List ℕ) (q m : ℕ) → IsCombinedBetween f a b a q m m
between-none f a b q m = record { inside = λ p from to. absurd (omega arith); outside = λ p apart. refl }

-- more of them
pub between-join : (f : Bool → Bool → Bool) (a b c d : List ℕ) (q m n k : ℕ) → m ≤ n → n ≤ k → IsCombinedBetween f a b c q m n → IsCombinedBetween f c b d q n k → IsCombinedBetween f a b d q m k
between-join f a b c d q m n k first second to_n to_k = grind (arith, cases_lt)

-- one of them
pub between-word : (f : Bool → Bool → Bool) (a b new : List ℕ) (q i : ℕ) (v w : List Bool) (r : List Bool)
    → v ≡ window a (64 * i) → w ≡ window b (q + 64 * i) → r ≡ combined f v w → window new (64 * i) ≡ r
    → ((k : ℕ) → ((k < 64 * i) ⊎ (64 * i + 64 ≤ k)) → backing_bit new k ≡ backing_bit a k)
    → IsCombinedBetween f a b new q (64 * i) (64 * (i + 1))
between-word f a b new q i v w r is_v is_w is_r wrote others = record {
  inside = λ p from to. grind (arith, wrote, get_or-window new (64 * i) (p - 64 * i) false, combined_bit f a b (64 * i) (q + 64 * i) (p - 64 * i) v w r is_v is_w is_r);
  outside = grind arith;
}

-- as much of one as the bytes have
pub between-last : (f : Bool → Bool → Bool) (a b last ys : List ℕ) (q i e : ℕ) (v w r : List Bool)
    → 8 * i ≤ length a → e ≡ min (length a) (8 * i + 8) → length last ≡ 8 → ys ≡ take (e - 8 * i) last
    → v ≡ window a (64 * i) → w ≡ window b (q + 64 * i) → r ≡ combined f v w → window last 0 ≡ r
    → IsCombinedBetween f a b (put_mid (8 * i) (e - 8 * i) a ys) q (64 * i) (min (64 * i + 64) (8 * length a))
between-last f a b last ys q i e v w r begins is_e len is_ys is_v is_w is_r wrote =
    let new : List ℕ = put_mid (8 * i) (e - 8 * i) a ys in
    let ends : min (64 * i + 64) (8 * length a) ≡ 8 * e = omega arith in
    let count : length ys ≡ e - 8 * i = ap length is_ys ∙ length-take (e - 8 * i) last ∙ omega arith in
    record {
      inside = λ p from to.
          grind (arith, get_or-put_mid_inside, get_or-take, get_or-window last 0 (p - 64 * i) false, combined_bit f a b (64 * i) (q + 64 * i) (p - 64 * i) v w r is_v is_w is_r);
      outside = grind (arith, get_or-put_mid_below, get_or-put_mid_above);
    }

-- the bits of a byte negated
pub between-byte : (a b : List ℕ) (q i : ℕ) → i < length a → IsCombinedBetween (λ x y. not x) a b (set a i (bit_xor (get_or a i 0) 255)) q (8 * i) (8 * (i + 1))
between-byte a b q i h =
    let x = get_or a i 0 in
    record {
      inside = λ p from to.
          grind (arith, bit_at_xor x 255 (p % 8), bit_at_ones 8 (p % 8) (omega arith), bit_at-lt x (p % 8), get_or-set_at a i (p / 8));
      outside = λ p apart. grind (arith, get_or-set_other a i (p / 8));
    }

-- ---- the list made

-- the bits from a position on are those of the bytes from its byte on
pub backing_bit-drop : (bytes : List ℕ) (p i : ℕ) → backing_bit (drop (p / 8) bytes) (p % 8 + i) ≡ backing_bit bytes (p + i)
backing_bit-drop bytes p i = grind (arith, get_or-drop)

-- bytes of which as many first bits are f of the bits of two buffers as these have values are the combined list
pub values-combined : (f : Bool → Bool → Bool) (a b out from_a from_b : List ℕ) (low_a low_b p q len n : ℕ) → from_a ≡ drop (p / 8) a → low_a ≡ p % 8 → from_b ≡ drop (q / 8) b → low_b ≡ q % 8
    → AreCombined f from_a low_a from_b low_b out n → len ≤ n
    → values (record { bytes = out; offset = 0; len = len }) ≡ combined f (values (record { bytes = a; offset = p; len = len })) (values (record { bytes = b; offset = q; len = len }))
values-combined f a b out from_a from_b low_a low_b p q len n is_a is_low_a is_b is_low_b wrote enough =
    let va : Packed = record { bytes = a; offset = p; len = len } in
    let vb : Packed = record { bytes = b; offset = q; len = len } in
    let one_len : length (values va) ≡ length (values vb) = length-values va ∙ sym (length-values vb) in
    values_from_front out (combined f (values va) (values vb)) len (length-combined f (values va) (values vb) one_len ∙ length-values va) (grind (arith, backing_bit-drop, get_or-values, get_or-combined, length-values))

-- the same where the bits of the first were in the same bytes
pub values-in_place : (f : Bool → Bool → Bool) (a b out from_b : List ℕ) (low q len n : ℕ) → from_b ≡ drop (q / 8) b → low ≡ q % 8
    → IsCombinedBetween f a from_b out low 0 n → len ≤ n
    → values (record { bytes = out; offset = 0; len = len }) ≡ combined f (values (record { bytes = a; offset = 0; len = len })) (values (record { bytes = b; offset = q; len = len }))
values-in_place f a b out from_b low q len n is_b is_low wrote enough =
    values-combined f a b out a from_b 0 low 0 q len n refl refl is_b is_low (λ i h. grind (arith, wrote.inside i)) enough

-- the same of a negated one
pub values-negated : (a out : List ℕ) (len n : ℕ) → IsCombinedBetween (λ x y. not x) a a out 0 0 n → len ≤ n
    → values (record { bytes = out; offset = 0; len = len }) ≡ not_of (values (record { bytes = a; offset = 0; len = len }))
values-negated a out len n turned enough = grind (arith, values-in_place, combined_itself (values (record { bytes = a; offset = 0; len = len })))

-- ---- a buffer by its parts

pub values-parts : (b : Packed) (bytes : List ℕ) (offset len : ℕ) → bytes ≡ b.bytes → offset ≡ b.offset → len ≡ length (values b) → values (record { bytes = bytes; offset = offset; len = len }) ≡ values b
values-parts b bytes offset len is_bytes is_offset is_len = grind (arith, length-values)

-- one that begins at a whole byte, by its bytes from there on
pub values-from_byte : (b : Packed) (bytes : List ℕ) → bytes ≡ drop (b.offset / 8) b.bytes → b.offset % 8 ≡ 0 → values (record { bytes = bytes; offset = 0; len = b.len }) ≡ values b
values-from_byte b bytes is_bytes whole =
    values_from_front bytes (values b) b.len (length-values b) (λ i h.
    grind (arith, is_bytes, whole, backing_bit-drop b.bytes b.offset i, get_or-values b i false h))

pub within-parts : (b : Packed) (bytes : List ℕ) (offset len : ℕ) → IsWithinBytes bytes b.offset b.len → offset ≡ b.offset → len ≡ length (values b) → IsWithinBytes bytes offset len
within-parts b bytes offset len within is_offset is_len = grind (arith, length-values)

-- what a vector holds after all of its items were written
pub take_back : (n : ℕ) (ys xs : List ℕ) → length ys ≡ n → take n (ys ++ drop (length ys) xs) ≡ ys
take_back n ys xs len = take-append-le n ys (drop (length ys) xs) (omega arith) ∙ take_all n ys (omega arith)

-- ---- a buffer's bytes as room

-- lent, they show its list
pub room-shows : (b : Packed) (xs ys : List ℕ) (len : ℕ) → values (record { bytes = xs; offset = 0; len = b.len }) ≡ values b → ys ≡ xs → len ≡ length (values b)
    → values (record { bytes = ys; offset = 0; len = len }) ≡ values b
room-shows b xs ys len list same is_len = grind (arith, length-values)

-- written, they have bits for it
pub room-covers : (b : Packed) (xs ys : List ℕ) (len : ℕ) → b.len ≤ 8 * length xs → length ys ≡ length xs → len ≡ length (values b) → len ≤ 8 * length (take (length xs) (ys ++ drop (length ys) xs))
room-covers b xs ys len covered same is_len = omega (arith, length-values b, ap length (take_back (length xs) ys xs same))

-- and show what was written
pub values-written : {E : Type 0} (r : Result Packed E) (ys xs : List ℕ) (len : ℕ) (m : List Bool) → length ys ≡ length xs
    → IfOk r (λ b. values b ≡ values (record { bytes = take (length xs) (ys ++ drop (length ys) xs); offset = 0; len = len }))
    → values (record { bytes = ys; offset = 0; len = len }) ≡ m → IfOk r (λ b. values b ≡ m)
values-written r ys xs len m same made is = grind (arith, IfOk-weaker, take_back)

-- bytes that are combined in place, and what they then show
pub ruleset in_place = (between-none, between-join, between-word, between-last)

pub ruleset window_of_two = (window-neighbors, window-next_item)

pub ruleset part_facts = (within-parts, values-parts)

pub ruleset room_facts = (length-values, room-covers, values-written, room-shows, values-from_byte)

pub ruleset combined_buffers = (take_back, within-parts, values-parts, IfOk-weaker)

pub ruleset negated_bytes = (between-join, between-byte, values-negated)
