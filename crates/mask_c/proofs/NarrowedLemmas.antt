-- The values of a bitmap that stay true: those that are true in a list of truth values too.
use Rattle.mask_c.proofs.Common.{◌≡◌, ℕ, ◌+◌, ◌*◌, ◌-◌, ◌/◌, ◌%◌, ◌<◌, ◌≤◌, ◌⊎◌, ◌&&◌, ◌++◌, Bool, false, List, length, get_or, take, drop, slice_range, sym, ap, ap₂, ◌∙◌, inl, inr, arith, div_ceil, bit_and, cases_lt, ext_get_or, get_or-between, get_or-take, length-drop, length-take, length-take-le, take-append-drop, bitmap, backing_bit, window, word_bits, and_of, values_so_far, bitmap-append, combined-append, get_or-bitmap, get_or-combined, get_or-window, get_or-word_bits_and, length-bitmap, length-combined, length-word_bits, list-from_bits, IsNarrowed}
use Rattle.mask_c.proofs.LastLemmas.{written}

-- one more word
pub narrowed-more : (a old new : List ℕ) (m : List Bool) (i v w : ℕ) → IsNarrowed a old m (64 * i)
    → word_bits v ≡ window old (64 * i) → ((j : ℕ) → j < 64 → get_or (word_bits w) j false ≡ get_or (slice_range m (64 * i) (64 * i + 64)) j false)
    → window new (64 * i) ≡ word_bits (bit_and v w)
    → ((p : ℕ) → ((p < 64 * i) ⊎ (64 * i + 64 ≤ p)) → backing_bit new p ≡ backing_bit old p)
    → IsNarrowed a new m (64 * (i + 1))
narrowed-more a old new m i v w before is_v is_w wrote others = record {
  inside = λ p h.
      elim (cases_lt p (64 * i)) [
        | inl earlier ↦ others p (inl earlier) ∙ before.inside p earlier
        | inr here ↦
            let j : ℕ = p - 64 * i in
            let few : j < 64 = omega arith in
            let at : 64 * i + j ≡ p = omega arith in
            grind (arith, is_v, is_w j few, wrote, before.outside p here, get_or-window new (64 * i) j false few, get_or-window old (64 * i) j false few, get_or-word_bits_and v w j few, get_or-between m (64 * i) (64 * i + 64) j false (omega arith))
      ];
  outside = λ p h. others p (inr (omega arith)) ∙ before.outside p (omega arith);
}

-- the whole words
narrowed-front : (a front : List ℕ) (m : List Bool) (w : ℕ) → length m ≡ 64 * w → 8 * w ≤ length a → IsNarrowed (take (8 * w) a) front m (64 * w)
    → bitmap front 0 (64 * w) ≡ and_of (bitmap a 0 (64 * w)) m
narrowed-front a front m w len covers is =
    let all : List Bool = bitmap a 0 (64 * w) in
    let lens : length all ≡ length m = length-bitmap a 0 (64 * w) ∙ sym len in
    let made : length (and_of all m) ≡ 64 * w = length-combined (λ x y. x && y) all m lens ∙ length-bitmap a 0 (64 * w) in
    ap (bitmap front 0) (sym made) ∙ list-from_bits (and_of all m) front (λ p h.
    let few : p < 64 * w = omega (arith, made) in
    is.inside p few
    ∙ ap (λ x. x && get_or m p false) (grind (arith, get_or-take) ∙ sym (get_or-bitmap a 0 (64 * w) p false few))
    ∙ sym (get_or-combined (λ x y. x && y) all m p false (omega (arith, length-bitmap a 0 (64 * w))) lens))

-- the values past them, by a word
narrowed-last : (a : List ℕ) (m : List Bool) (p v w r : ℕ) → length m ≡ r → r < 64 → word_bits v ≡ window a p → ((j : ℕ) → j < 64 → get_or (word_bits w) j false ≡ get_or m j false)
    → take r (word_bits (bit_and v w)) ≡ and_of (bitmap a p r) m
narrowed-last a m p v w r len few is_v is_w =
    let all : List Bool = bitmap a p r in
    let lens : length all ≡ length m = length-bitmap a p r ∙ sym len in
    let made : length (and_of all m) ≡ r = length-combined (λ x y. x && y) all m lens ∙ length-bitmap a p r in
    let took : length (take r (word_bits (bit_and v w))) ≡ r = length-take r (word_bits (bit_and v w)) ∙ omega (arith, length-word_bits (bit_and v w)) in
    ext_get_or false (take r (word_bits (bit_and v w))) (and_of all m) (took ∙ sym made) (λ j h.
    let inside : j < r = omega (arith, took) in
    let within : j < 64 = omega arith in
    get_or-take r (word_bits (bit_and v w)) j false inside
    ∙ get_or-word_bits_and v w j within
    ∙ ap₂ (λ x y. x && y) (ap (λ (xs : List Bool). get_or xs j false) is_v ∙ get_or-window a p j false within ∙ sym (get_or-bitmap a p r j false inside)) (is_w j within)
    ∙ sym (get_or-combined (λ x y. x && y) all m j false (omega (arith, length-bitmap a p r)) lens))

-- all of them
pub narrowed-written : (a front more : List ℕ) (m : List Bool) (n v w : ℕ) → n ≡ length m → div_ceil n 8 ≤ length a → length front ≡ 8 * (n / 64)
    → IsNarrowed (take (8 * (n / 64)) a) front (take (64 * (n / 64)) m) (64 * (n / 64))
    → word_bits v ≡ window a (64 * (n / 64)) → ((j : ℕ) → j < 64 → get_or (word_bits w) j false ≡ get_or (drop (64 * (n / 64)) m) j false)
    → values_so_far (front ++ more) (bit_and v w) n ≡ and_of (bitmap a 0 n) m
narrowed-written a front more m n v w len room covers is is_v is_w =
    let k : ℕ = n / 64 in
    let rest : ℕ = n % 64 in
    let first : List Bool = take (64 * k) m in
    let last : List Bool = drop (64 * k) m in
    let firsts : length first ≡ 64 * k = length-take-le (64 * k) m (omega (arith, len)) in
    let lasts : length last ≡ rest = length-drop (64 * k) m ∙ omega (arith, len) in
    let parts : 64 * k + rest ≡ n = omega arith in
    let place : 64 * k ≡ 0 + 64 * k = omega arith in
    written _ _ front more (bit_and v w) n (omega (arith, covers))
    (narrowed-front a front first k firsts (omega (arith, room)) is)
    (narrowed-last a last (0 + 64 * k) v w rest lasts (omega arith) (is_v ∙ ap (window a) place) is_w)
    ∙ sym (combined-append (λ x y. x && y) (bitmap a 0 (64 * k)) first (bitmap a (0 + 64 * k) rest) last (length-bitmap a 0 (64 * k) ∙ sym firsts))
    ∙ ap₂ and_of (sym (bitmap-append a 0 (64 * k) rest) ∙ ap (bitmap a 0) parts) (take-append-drop (64 * k) m)
