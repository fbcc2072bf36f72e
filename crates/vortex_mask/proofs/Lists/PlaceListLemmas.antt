-- Ascending lists of indices, also as the true indices of masks.
use Rattle.vortex_mask.proofs.Common.{common_steps, ◌≡◌, ℕ, suc, ◌+◌, ◌-◌, ◌^◌, ◌<◌, ◌≤◌, ◌||◌, Bool, false, nat_eq, List, [], ◌∷◌, length, get_or, take, refl, sym, arith, list_any, cases_eq, cases_lt, eq-eqb, ne_eqb, get_or-take, length-map, length-take, AllPairs-from_increasing, bit_at-pow_same, bit_at-pow_other, IsStrictlyIncreasing, positions, count, true_at, at_indices, rank_intersection, word_bits, positions-true_at, positions-ascending, positions-full, positions-all_false, positions-rank_intersection, length-true_at, get_or-word_bits, All}
-- ---- ascending numbers

pub use Rattle.mask_bits.proofs.Lists.Places.AscendingLemmas.{none-is, rises_to}

-- the first numbers of ascending ones ascend
pub ascending-take : (n : ℕ) (xs : List ℕ) → IsStrictlyIncreasing xs → IsStrictlyIncreasing (take n xs)
ascending-take n xs ascending = grind (arith, length-take, get_or-take)

-- the one bit of a power of two
pub bit_of_pow : (at x j : ℕ) → at ≤ x → j < 64 → get_or (word_bits (2 ^ (x - at))) j false ≡ (nat_eq (at + j) x || false)
bit_of_pow at x j h few = grind (arith, get_or-word_bits, cases_eq, bit_at-pow_same, eq-eqb, bit_at-pow_other, ne_eqb)

-- ---- indices

pub ruleset index_facts = (positions-true_at, length-true_at, positions-all_false, positions-full)

-- a mask narrowed at ascending indices among its true ones has these of its true indices
pub positions-narrowed_at : (a : List Bool) (qs : List ℕ) → IsStrictlyIncreasing qs → All (λ k. k < count a) qs → positions (rank_intersection a (true_at (count a) qs)) ≡ at_indices (positions a) qs
positions-narrowed_at a qs ascending within = grind (arith, common_steps, positions-rank_intersection, length-true_at, positions-true_at)

-- and is the list that is true there
pub narrowed_at : (a : List Bool) (qs : List ℕ) → IsStrictlyIncreasing qs → All (λ k. k < count a) qs → rank_intersection a (true_at (count a) qs) ≡ true_at (length a) (at_indices (positions a) qs)
narrowed_at a qs ascending within = grind (arith, common_steps, positions-true_at)

pub positions-at_indices : (a : List Bool) (qs : List ℕ) → IsStrictlyIncreasing qs → All (λ k. k < count a) qs → positions (true_at (length a) (at_indices (positions a) qs)) ≡ at_indices (positions a) qs
positions-at_indices a qs ascending within = grind (arith, common_steps, narrowed_at a qs ascending within, positions-narrowed_at a qs ascending within)

-- as many as those indices
pub count-at_indices : (a : List Bool) (qs : List ℕ) → IsStrictlyIncreasing qs → All (λ k. k < count a) qs → count (true_at (length a) (at_indices (positions a) qs)) ≡ length qs
count-at_indices a qs ascending within = grind (arith, common_steps, positions-at_indices, length-map)

-- ascending indices taken at ascending indices ascend
pub at_indices-ascending : (n : ℕ) (ps qs : List ℕ) → IsStrictlyIncreasing ps → All (λ p. p < n) ps → IsStrictlyIncreasing qs → All (λ k. k < length ps) qs → IsStrictlyIncreasing (at_indices ps qs)
at_indices-ascending n ps qs ascending within mask_ascending mask_within = grind (arith, positions-true_at n ps ascending within, positions-narrowed_at, positions-ascending (rank_intersection (true_at n ps) (true_at (count (true_at n ps)) qs)))
