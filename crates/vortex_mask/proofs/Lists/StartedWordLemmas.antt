-- Started words of a list, and how many values are true before them and in them.
use Rattle.vortex_mask.proofs.Common.{◌≡◌, ℕ, suc, ◌+◌, ◌*◌, ◌<◌, ◌≤◌, Bool, false, List, [], ◌∷◌, length, get_or, take, drop, sym, ap, ◌∙◌, arith, ◌^◌, cases_lt, ext_get_or, get_or-take, get_or-drop, get_or_past, length-take, Packed, backing_bit, values, count, count_below, indices_from, word_bits, padded_part, count_below-le, count-le-length, count-word_more, no_index, length-bitmap, get_or-front, get_or-padded_part}

-- false values past the end have no place
pub places-same : (n : ℕ) (xs ys : List Bool) → ((i : ℕ) → get_or xs i false ≡ get_or ys i false) → indices_from n xs ≡ indices_from n ys
places-same n [] ys same = sym (no_index ys n (λ i. sym (same i)))
places-same n (v ∷ xs) [] same = no_index (v ∷ xs) n same
places-same n (v ∷ xs) (w ∷ ys) same = grind (arith, same 0, places-same (n + 1) xs ys (λ i. same (suc i)))

-- a started part has the first values from there on
pub part-same : (m : List Bool) (i j k : ℕ) → j ≤ 64 → get_or (take j (drop (64 * i) m)) k false ≡ get_or (take j (padded_part m i)) k false
part-same m i j k few = grind (arith, cases_lt, get_or-take, get_or-drop, get_or-padded_part, get_or_past, length-take)

-- no count is above its place
pub count_below-within : (m : List Bool) (i : ℕ) → count_below m i ≤ i
count_below-within m i = omega (arith, count-le-length (take i m), length-take i m)

-- word i of a is m, which has so many true values, and `at` of the values before it are true
pub record IsAt (a : List Bool) (i at m ones : ℕ) : Type 0 where
  pub place : at ≡ count_below a (64 * i)
  pub shows : word_bits m ≡ padded_part a i
  pub counted : ones ≡ count (word_bits m)

-- the place of a word is a rank, and so is the one behind it
pub place-within : (a : List Bool) (i at : ℕ) → at ≡ count_below a (64 * i) → at ≤ count a
place-within a i at place = omega (arith, count_below-le a (64 * i))

pub place-next : {a : List Bool} {i at m ones : ℕ} → IsAt a i at m ones → at + ones ≡ count_below a (64 * (i + 1))
place-next {a} {i} mask = omega (arith, mask.place, mask.counted, ap count mask.shows, count-word_more a i)

pub place-after_within : {a : List Bool} {i at m ones : ℕ} → IsAt a i at m ones → at + ones ≤ count a
place-after_within {a} {i} {at} {m} {ones} mask = place-within a (i + 1) (at + ones) (place-next mask)

-- a place among the rank bits fits
pub rank_place-fits : (a : List Bool) (b : Packed) (n : ℕ) → length (values b) ≡ count a → n ≤ count a → b.offset + b.len < 2 ^ 64 → b.offset + n < 2 ^ 64
rank_place-fits a b n fits within small = omega (arith, length-bitmap b.bytes b.offset b.len)

-- bytes whose first bits are a list's values have that list from bit 0 on
pub list-from_bits : (m : List Bool) (bytes : List ℕ) → ((p : ℕ) → p < length m → backing_bit bytes p ≡ get_or m p false) → values (record { bytes = bytes; offset = 0; len = length m }) ≡ m
list-from_bits m bytes same =
    let len = length-bitmap bytes 0 (length m) in
    ext_get_or false (values (record { bytes = bytes; offset = 0; len = length m })) m len (λ p h. get_or-front bytes (length m) p false (omega (arith, len)) ∙ same p (omega (arith, len)))
