-- What holds of rank intersections.
use Rattle.std.specs.Prelude.{ℕ, ◌≡◌, ◌<◌, Bool, false, ◌&&◌, List, length, slice_index_or, true, ◌↔◌, slice_index}
use Rattle.mask_bits.specs.Lists.{and_of, not_of, and_not_of}
use Rattle.mask_bits.specs.Positions.{count, repeated, chosen, positions, rank_intersection, count_below, at_indices}

-- r is as long as a, and its true indices are a's true indices taken at b's
pub record IsRankIntersection (a b r : List Bool) : Type 0 where
  pub len : length r ≡ length a
  pub indices : positions r ≡ at_indices (positions a) (positions b)

-- there is just one such list, and `rank_intersection` is it
abbrev pub RankIntersectionIsTheList : Type 0
RankIntersectionIsTheList = (a b r : List Bool) → length b ≡ count a → (r ≡ rank_intersection a b) ↔ IsRankIntersection a b r

-- value i is true exactly if a's is and the value of b is that stands at the number of true values below i
abbrev pub RankIntersectionValue : Type 0
RankIntersectionValue = (a b : List Bool) (i : ℕ) → length b ≡ count a
    → slice_index_or (rank_intersection a b) i false ≡ (slice_index_or a i false && slice_index_or b (count_below a i) false)

-- as many values stay true as b has true values
abbrev pub RankIntersectionCount : Type 0
RankIntersectionCount = (a b : List Bool) → length b ≡ count a → count (rank_intersection a b) ≡ count b

-- true value number n stands where a's true value stands whose number is the index of b's true value number n
abbrev pub RankIntersectionPosition : Type 0
RankIntersectionPosition = (a b : List Bool) (n : ℕ) → length b ≡ count a → n < count b
    → slice_index (positions (rank_intersection a b)) n ≡ slice_index (positions a) (slice_index (positions b) n)

-- choosing by a rank intersection is choosing by a, and then by b
abbrev pub ChoosingTwice : Type 0 → Type 0
ChoosingTwice X = (rows : List X) (a b : List Bool) → length rows ≡ length a → length b ≡ count a
    → chosen rows (rank_intersection a b) ≡ chosen (chosen rows a) b

-- masks that each fit the one before them narrow alike from the left and from the right
abbrev pub RankIntersectionAssociative : Type 0
RankIntersectionAssociative = (a b c : List Bool) → length b ≡ count a → length c ≡ count b
    → rank_intersection (rank_intersection a b) c ≡ rank_intersection a (rank_intersection b c)

-- an all-true list narrowed by b is b
abbrev pub AllTrueLeftUnit : Type 0
AllTrueLeftUnit = (b : List Bool) → rank_intersection (repeated (length b) true) b ≡ b

-- a narrowed by an all-true list is a
abbrev pub AllTrueRightUnit : Type 0
AllTrueRightUnit = (a : List Bool) → rank_intersection a (repeated (count a) true) ≡ a

-- the true values of two rank intersections of one mask that both have are those of the values that both ranks have
abbrev pub RankIntersectionOfAnd : Type 0
RankIntersectionOfAnd = (a b c : List Bool) → length b ≡ count a → length c ≡ count a
    → and_of (rank_intersection a b) (rank_intersection a c) ≡ rank_intersection a (and_of b c)

-- a narrowed by what b leaves out is a without what it keeps by b
abbrev pub RankIntersectionOfNot : Type 0
RankIntersectionOfNot = (a b : List Bool) → length b ≡ count a
    → rank_intersection a (not_of b) ≡ and_not_of a (rank_intersection a b)
