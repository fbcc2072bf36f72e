-- The list of a builder, from its bytes.
use Rattle.mask_bits.proofs.Common.{◌≡◌, ◌≢◌, ℕ, ◌+◌, ◌*◌, ◌%◌, ◌<◌, ◌≤◌, Bool, true, false, not, ◌&&◌, ◌||◌, nat_eq, List, [], ◌++◌, length, set, take, drop, Result, Ok, Err, OnErr, refl, ap, ◌∙◌, arith, ne_eqb, length-set, get_or-set_same, get_or-set_other, nil_from_length, with_items_is, backing_bit, values, IsWrittenBehind, IsRoom, eq-eqb, length-take}
use Rattle.mask_bits.proofs.BufferLemmas.{length-values, values_from_front}
use Rattle.mask_bits.proofs.CombineLemmas.{take_back}
use Rattle.mask_bits.proofs.Lists.Words.FrontLemmas.{get_or-front, front-same}
use Rattle.mask_bits.proofs.WriteLemmas.{written-front, written-clear}
use Rattle.mask_bits.proofs.Lists.CountLemmas.{length-repeated}
use Rattle.mask_bits.proofs.Lists.Words.WordLemmas.{length-word_bits}

-- a fact that holds at any answer
pub on_err : {T E P : Type 0} (r : Result T E) → P → OnErr r P
on_err (Ok x) p = tt
on_err (Err e) p = p

-- no bits are the empty list
pub front-none : (bytes : List ℕ) → values (record { bytes = bytes; offset = 0; len = 0 }) ≡ []
front-none bytes = omega (arith, nil_from_length, length-values)

-- ---- one value is set

-- one bit is v, and the others stay
pub front-set : (old new : List ℕ) (len q : ℕ) (v : Bool) → q < len → backing_bit new q ≡ v → ((p : ℕ) → p ≢ q → backing_bit new p ≡ backing_bit old p)
    → values (record { bytes = new; offset = 0; len = len }) ≡ set (values (record { bytes = old; offset = 0; len = len })) q v
front-set old new len q v h here others =
    grind (arith, length-values (record { bytes = old; offset = 0; len = len }), values_from_front, length-set, get_or-set_same, get_or-set_other, get_or-front)

pub set-here : (old new : List ℕ) (q : ℕ) → ((p : ℕ) → backing_bit new p ≡ (nat_eq p q || backing_bit old p)) → backing_bit new q ≡ true
set-here old new q is = is q ∙ ap (λ b. b || backing_bit old q) (eq-eqb q q refl)

pub set-others : (old new : List ℕ) (q : ℕ) → ((p : ℕ) → backing_bit new p ≡ (nat_eq p q || backing_bit old p)) → (p : ℕ) → p ≢ q → backing_bit new p ≡ backing_bit old p
set-others old new q is p apart = is p ∙ ap (λ b. b || backing_bit old p) (ne_eqb p q apart)

pub unset-here : (old new : List ℕ) (q : ℕ) → ((p : ℕ) → backing_bit new p ≡ (not (nat_eq p q) && backing_bit old p)) → backing_bit new q ≡ false
unset-here old new q is = is q ∙ ap (λ b. not b && backing_bit old q) (eq-eqb q q refl)

pub unset-others : (old new : List ℕ) (q : ℕ) → ((p : ℕ) → backing_bit new p ≡ (not (nat_eq p q) && backing_bit old p)) → (p : ℕ) → p ≢ q → backing_bit new p ≡ backing_bit old p
unset-others old new q is p apart = is p ∙ ap (λ b. not b && backing_bit old p) (ne_eqb p q apart)

-- the room stays
pub room-set : (old new : List ℕ) (len q : ℕ) → q < len → length new ≡ length old → ((p : ℕ) → p ≢ q → backing_bit new p ≡ backing_bit old p) → IsRoom old len → IsRoom new len
room-set old new len q h same others room = grind arith

-- ---- values are appended

-- room was made, and then m was written behind the list
pub front-appended : (a b c : List ℕ) (at n : ℕ) (m l : List Bool) → values (record { bytes = a; offset = 0; len = at }) ≡ l → n ≡ at + length m
    → ((p : ℕ) → backing_bit b p ≡ backing_bit a p) → IsWrittenBehind b c at m
    → values (record { bytes = c; offset = 0; len = n }) ≡ l ++ m
front-appended a b c at n m l was place stays w = grind (arith, written-front)

pub room-appended : (b c xs : List ℕ) (at k n : ℕ) (m : List Bool) → n ≡ at + length m → length b ≡ k → length c ≡ k → k % 8 ≡ 0 → n ≤ 8 * k → IsWrittenBehind b c at m → IsRoom (take k (c ++ drop (length c) xs)) n
room-appended b c xs at k n m place len same whole covered w = grind (arith, take_back, written-clear b c at n m place w)

pub ruleset no_bits = (front-none)

pub ruleset bits_set = (with_items_is, front-set, room-set, set-here, set-others, unset-here, unset-others)

pub ruleset appended = (on_err, front-same, with_items_is, front-appended, length-repeated, length-take, length-word_bits)
