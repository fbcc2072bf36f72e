-- A bitmap whose set bits stand at a list of positions.
use Rattle.mask_c.proofs.Common.{common_steps, ◌≡◌, nat_eq, ℕ, ◌+◌, ◌*◌, ◌<◌, ◌≤◌, ◌||◌, List, ◌++◌, length, get_or, take, sym, ap, ◌∙◌, arith, or_comm, div_ceil, All, list_any, ne_eqb, get_or_append_left, All-weaker, list_any_more, list_any_none, bitmap, backing_bit, true_at, AreClearBehind, value_of_true_at, length-true_at, list-from_bits}
use Rattle.mask_c.proofs.LastLemmas.{front-appended}

-- the set bits of the bytes are those at some positions
abbrev pub AreSetAt : {N : Type 0} → (N → ℕ) → List ℕ → List N → Type 0
AreSetAt number bytes ps = (p : ℕ) → p < 8 * length bytes → backing_bit bytes p ≡ list_any (λ i. nat_eq p (number i)) ps

-- one more
pub set_at-more : {N : Type 0} (number : N → ℕ) (old new : List ℕ) (ps : List N) (i : ℕ) (x : N) → i < length ps → get_or ps i x ≡ x → length new ≡ length old
    → AreSetAt number old (take i ps) → ((p : ℕ) → backing_bit new p ≡ (nat_eq p (number x) || backing_bit old p)) → AreSetAt number new (take (i + 1) ps)
set_at-more number old new ps i x few here len so_far set p h =
    grind (arith, set p, so_far p (omega arith), or_comm, list_any_more (λ j. nat_eq p (number j)) ps i x few, here)

pub list_from_set : (bytes more ps : List ℕ) (len : ℕ) → len ≤ 8 * length bytes → AreSetAt (λ (i : ℕ). i) bytes ps → bitmap (bytes ++ more) 0 len ≡ true_at len ps
list_from_set bytes more ps len few set =
    front-appended bytes more len few
    ∙ ap (bitmap bytes 0) (sym (length-true_at len ps))
    ∙ list-from_bits (true_at len ps) bytes (λ p h.
    let inside : p < len = omega (arith, length-true_at len ps) in
    set p (omega arith) ∙ sym (value_of_true_at len ps p inside))

pub clear_from_set : (bytes more ps : List ℕ) (len : ℕ) → 8 * div_ceil len 8 ≤ 8 * length bytes → All (λ i. i < len) ps → AreSetAt (λ (i : ℕ). i) bytes ps → AreClearBehind (bytes ++ more) len
clear_from_set bytes more ps len few within set = grind (arith, common_steps, get_or_append_left, list_any_none, All-weaker, ne_eqb)
