-- Ascending ranks as the bits of a block of bytes.
use Rattle.vortex_mask.proofs.Common.{◌≡◌, ℕ, ◌+◌, ◌-◌, ◌*◌, ◌/◌, ◌%◌, ◌^◌, ◌<◌, ◌≤◌, ◌||◌, Bool, false, nat_eq, List, length, get_or, set, replicate, take, drop, refl, sym, ap, ◌∙◌, arith, list_any, or-false, cases_eq, eq-eqb, ne_eqb, get_or-set_at, common_steps, get_or-drop, get_or-replicate, get_or_past, get_or-set_other, length-drop, length-replicate, take-append-drop, list_any-append, bit_at-zero, bit_at_set_same, bit_at_set_other, backing_bit, word_bits, window, AreBitsFrom, HoldsRanks, is_listed, w8, bit_or}
use Rattle.vortex_mask.proofs.Kernels.WordKernelLemmas.{bit_of_window}
use Rattle.vortex_mask.proofs.Lists.PlaceListLemmas.{none-is}

-- zeros have no bit
pub backing_bit-zeros : (n p : ℕ) → backing_bit (replicate n 0) p ≡ false
backing_bit-zeros n p = grind (arith, get_or-replicate {A = ℕ}, get_or_past, length-replicate {A = ℕ}, bit_at-zero)

-- setting a bit sets that one alone
pub backing_bit-set : (bytes : List ℕ) (q p : ℕ) → q < 8 * length bytes
    → backing_bit (set bytes (q / 8) (bit_or (get_or bytes (q / 8) 0) (1 * 2 ^ (q % 8) % 256))) p ≡ (nat_eq p q || backing_bit bytes p)
backing_bit-set bytes q p h = grind (arith, common_steps, get_or-set_at bytes (q / 8) (p / 8), get_or-set_other, bit_at_set_same w8 (get_or bytes (q / 8) 0) (q % 8), bit_at_set_other w8 (get_or bytes (q / 8) 0) (q % 8))

-- a place counted from `base`
pub nat_eq-from : (base k x : ℕ) → base ≤ x → nat_eq k (x - base) ≡ nat_eq (base + k) x
nat_eq-from base k x h = grind (arith, cases_eq, eq-eqb, ne_eqb)

-- a number below the later ones is one of the first, if of any
pub among-first : (ranks : List ℕ) (n p : ℕ) → ((k : ℕ) → n ≤ k → k < length ranks → p < get_or ranks k 0) → list_any (nat_eq p) (take n ranks) ≡ list_any (nat_eq p) ranks
among-first ranks n p later =
    let f : ℕ → Bool = nat_eq p in
    let rest : List ℕ = drop n ranks in
    let none : list_any f rest ≡ false = none-is p rest (λ i within same. omega (arith, get_or-drop n ranks i 0, later (n + i) (omega arith) (omega (arith, length-drop n ranks)))) in
    sym (ap (list_any f) (sym (take-append-drop n ranks)) ∙ list_any-append f (take n ranks) rest
    ∙ ap (λ b. list_any f (take n ranks) || b) none ∙ or-false (list_any f (take n ranks)))

-- a word read from a block has the ranks from its place on
pub ranks-read : {ranks block : List ℕ} {base : ℕ} → HoldsRanks ranks base block → (number at n w : ℕ) → number ≡ base + at → at + n ≤ 4096 → number + n < 2 ^ 64 → n ≤ 64
    → word_bits w ≡ window block at → AreBitsFrom (is_listed ranks) number n w
ranks-read {ranks} {block} {base} held number at n w is inside small few shows = λ k h.
    let e : base + (at + k) ≡ number + k = omega arith in
    bit_of_window block at w k (at + k) shows (omega arith) refl ∙ held.bits (at + k) (omega arith) (omega (arith, e)) ∙ ap (is_listed ranks) e
