-- The ranks of the last values of a bitmap, as set bits.
use Rattle.mask_c.proofs.Common.{◌≡◌, ℕ, ◌+◌, ◌-◌, ◌<◌, ◌≤◌, ◌^◌, Bool, false, nat_eq, List, ◌++◌, length, get_or, take, drop, sym, ap, ◌∙◌, inl, inr, arith, bit_or, All, list_any, IsStrictlyIncreasing, or_comm, or-false, common_steps, cases_lt, cases_eq, drop_more, ext_get_or, get_or-drop, get_or-take, get_or_append_left, get_or-append_right, length-append, length-drop, length-take, take-append-drop, All-from_get_or, list_any-append, bit_at-zero, true_at, word_bits, AreSplit, value_of_true_at, length-true_at, get_or-word_bits_or, get_or-word_bits, bit_of_pow, none-is, rises_to}

-- the ranks from number `cut` on are at least `from`, and are the set bits of a word
pub record AreGathered (ranks : List ℕ) (from cut bits : ℕ) : Type 0 where
  pub within : cut ≤ length ranks
  pub after : (k : ℕ) → cut ≤ k → k < length ranks → from ≤ get_or ranks k 0
  pub set : (j : ℕ) → j < 64 → get_or (word_bits bits) j false ≡ list_any (nat_eq (from + j)) (drop cut ranks)

pub gathered-none : (ranks : List ℕ) (from : ℕ) → AreGathered ranks from (length ranks) 0
gathered-none ranks from = grind (arith, get_or-word_bits, bit_at-zero, none-is, length-drop)

pub gathered-more : (ranks : List ℕ) (from cut bits bit : ℕ) → 0 < cut → from ≤ get_or ranks (cut - 1) 0 → bit ≡ 2 ^ (get_or ranks (cut - 1) 0 - from)
    → AreGathered ranks from cut bits → AreGathered ranks from (cut - 1) (bit_or bits bit)
gathered-more ranks from cut bits bit some high is g = grind (arith, common_steps, drop_more, common_steps, cases_eq, get_or-word_bits_or, bit_of_pow, or_comm)

-- ---- ascending ranks

pub gathered-split : (ranks : List ℕ) (from cut bits : ℕ) → IsStrictlyIncreasing ranks → (0 < cut → get_or ranks (cut - 1) 0 < from) → AreGathered ranks from cut bits → AreSplit ranks cut from
gathered-split ranks from cut bits ascending stop g = grind (arith, rises_to)

-- ranks below `from` are none of the bits
pub gathered-bits : (ranks : List ℕ) (from cut bits : ℕ) → IsStrictlyIncreasing ranks → (0 < cut → get_or ranks (cut - 1) 0 < from) → AreGathered ranks from cut bits
    → (j : ℕ) → j < 64 → get_or (word_bits bits) j false ≡ list_any (nat_eq (from + j)) ranks
gathered-bits ranks from cut bits ascending stop g j h =
    let split = gathered-split ranks from cut bits ascending stop g in
    let p : ℕ → Bool = nat_eq (from + j) in
    let none : list_any p (take cut ranks) ≡ false = none-is (from + j) (take cut ranks) (λ k few same. grind (arith, length-take, get_or-take, split.before k)) in
    grind (arith, g.set j h, none, take-append-drop cut ranks, list_any-append p (take cut ranks) (drop cut ranks))

pub ruleset gathered_facts = (gathered-split, gathered-bits)

-- ---- ranks as a list of two parts

front-any : (ranks : List ℕ) (n cut p : ℕ) → AreSplit ranks cut n → p < n → list_any (nat_eq p) ranks ≡ list_any (nat_eq p) (take cut ranks)
front-any ranks n cut p split h =
    let none : list_any (nat_eq p) (drop cut ranks) ≡ false = none-is p (drop cut ranks) (λ k few same. grind (arith, length-drop, get_or-drop, split.after)) in
    grind (arith, none, or-false, take-append-drop cut ranks, list_any-append (nat_eq p) (take cut ranks) (drop cut ranks))

-- those below n, and the others as the first k values of a list of bits
pub ranks-parts : (ranks : List ℕ) (n k cut : ℕ) (bits : List Bool) → AreSplit ranks cut n → length bits ≡ k
    → ((j : ℕ) → j < k → get_or bits j false ≡ list_any (nat_eq (n + j)) ranks)
    → true_at (n + k) ranks ≡ true_at n (take cut ranks) ++ bits
ranks-parts ranks n k cut bits split len shows =
    let front : List Bool = true_at n (take cut ranks) in
    ext_get_or false (true_at (n + k) ranks) (front ++ bits) (length-true_at (n + k) ranks ∙ sym (length-append front bits ∙ omega (arith, length-true_at n (take cut ranks)))) (λ p h.
    let small : p < n + k = omega (arith, length-true_at (n + k) ranks) in
    value_of_true_at (n + k) ranks p small
    ∙ elim (cases_lt p n) [
      | inl first ↦ front-any ranks n cut p split first ∙ sym (value_of_true_at n (take cut ranks) p first)
          ∙ sym (get_or_append_left front bits false p (omega (arith, length-true_at n (take cut ranks))))
      | inr past ↦
          let at : n + (p - n) ≡ p = omega arith in
          sym (get_or-append_right front bits n p false (length-true_at n (take cut ranks)) past
          ∙ shows (p - n) (omega arith) ∙ ap (λ q. list_any (nat_eq q) ranks) at)
    ])

pub below-all : (ranks : List ℕ) (n cut : ℕ) → AreSplit ranks cut n → All (λ k. k < n) (take cut ranks)
below-all ranks n cut split =
    All-from_get_or (λ k. k < n) (take cut ranks) 0 (λ i h.
    let small : i < cut = omega (arith, length-take cut ranks) in
    omega (arith, get_or-take cut ranks i 0 small, split.before i small))
