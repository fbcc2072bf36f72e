-- Ranks: numbers of true values, ascending. What an iterator of them yields, where a walk over them stands, and their bits.
use Rattle.std.specs.Prelude.{ℕ, ◌≡◌, ◌+◌, ◌-◌, ◌*◌, ◌<◌, ◌≤◌, ◌^◌, Bool, true, false, nat_eq, Option, List, length, map, slice_index, slice_index_or, count_ones, All, take}
use Rattle.std.specs.Iterator.Runs.{Run}
use Rattle.std.specs.List.{list_any, range_with_len}
use Rattle.std.specs.List.Sorted.{IsStrictlyIncreasing}
use Rattle.mask_bits.specs.Buffer.{backing_bit}
use Rattle.mask_bits.specs.CommonIndices.{AreSplit}
use Rattle.mask_bits.specs.Positions.{count, count_below, rank_intersection}
use Rattle.mask_bits.specs.Words.{word_bits, padded_part, started_words}

-- numbers that a run of calls gave: each is above the one before it and below `top`, and where the run went on to the end there are n of them
abbrev pub AreRanks : {S : Type 0} {steps : S → Option ℕ → S → Type 0} → ℕ → ℕ → Run steps → Type 0
AreRanks top n p = IsStrictlyIncreasing p.items × All (λ k. k < top) p.items × (p.whole ≡ true → p.len ≡ n)

-- where a run of calls went on to the end, each number that it gave is above the one before it
abbrev pub IsAscending : {S : Type 0} {steps : S → Option ℕ → S → Type 0} → Run steps → Type 0
IsAscending p = p.whole ≡ true → IsStrictlyIncreasing p.items

-- the first `next` of these indices are below `end`, the others from `at` on, and of the first ones those from `at` on are set bits
pub record IsGathered (indices : List ℕ) (at end next bits : ℕ) : Type 0 where
  pub within : next ≤ length indices
  pub before : (k : ℕ) → k < next → slice_index indices k < end
  pub after : (k : ℕ) → next ≤ k → k < length indices → at ≤ slice_index indices k
  pub set : (j : ℕ) → j < 64 → slice_index_or (word_bits bits) j false ≡ list_any (nat_eq (at + j)) (take next indices)

-- whether this number is one of the ranks
abbrev pub is_listed : List ℕ → ℕ → Bool
is_listed ranks k = list_any (nat_eq k) ranks

-- the first n rank bits as a list
unfoldable pub first_bits : (ℕ → Bool) → ℕ → List Bool
first_bits bit n = map bit (range_with_len 0 n)

-- a's true values narrowed by as many rank bits
abbrev pub narrowed_by : (ℕ → Bool) → List Bool → List Bool
narrowed_by bit a = rank_intersection a (first_bits bit (count a))

-- the first n bits of a word are the rank bits from `at` on
abbrev pub AreBitsFrom : (ℕ → Bool) → ℕ → ℕ → ℕ → Type 0
AreBitsFrom bit at n w = (k : ℕ) → k < n → slice_index_or (word_bits w) k false ≡ bit (at + k)

-- a block of 512 bytes is to take the ranks from `base` on, of which rank number `next` is the first
pub record CanHold (ranks : List ℕ) (next base : ℕ) (block : List ℕ) : Type 0 where
  pub ascending : IsStrictlyIncreasing ranks
  pub small : (k : ℕ) → k < length ranks → slice_index ranks k + 1 < 2 ^ 64
  pub from : AreSplit ranks next base
  pub room : length block ≡ 512

-- a block has the ranks from `base` on as set bits
pub record HoldsRanks (ranks : List ℕ) (base : ℕ) (block : List ℕ) : Type 0 where
  pub room : length block ≡ 512
  pub bits : (k : ℕ) → k < 4096 → base + k + 1 < 2 ^ 64 → backing_bit block k ≡ is_listed ranks (base + k)

-- and the ranks from number `end` on lie past it
pub record HoldsUpTo (ranks : List ℕ) (base : ℕ) (block : List ℕ) (end : ℕ) : Type 0 where
  pub holds : HoldsRanks ranks base block
  pub within : end ≤ length ranks
  pub passed : (k : ℕ) → end ≤ k → k < length ranks → base + 4096 ≤ slice_index ranks k

-- the first n words of m are read: the last of them is w, and `before` of the values in front of it are true
pub record HasRead (m : List Bool) (n w before : ℕ) : Type 0 where
  pub within : n ≤ started_words (length m)
  pub counted : before + count_ones w ≡ count_below m (64 * n)
  pub last : 0 < n → word_bits w ≡ padded_part m (n - 1)
