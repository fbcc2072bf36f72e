-- Merges of two lists, each into the first of them. The lists are of any numbers: what a merge finds is said where they ascend. No public clause cites these terms.
use Rattle.std.specs.Prelude.{ℕ, ◌≡◌, ◌≤◌, List, ◌++◌, length, take, drop}
use Rattle.std.specs.List.Sorted.{IsStrictlyIncreasing}
use Rattle.mask_bits.specs.CommonIndices.{common}

-- the first n of `both` are the indices that the lists have in common, where these ascend
pub record IsFound (lhs rhs both : List ℕ) (n : ℕ) : Type 0 where
  pub within : n ≤ length both
  pub found : IsStrictlyIncreasing lhs → IsStrictlyIncreasing rhs → take n both ≡ common lhs rhs

-- what a merge comes to that stands at place i of the list and place j of the other one, with n indices found
abbrev pub comes_to : List ℕ → List ℕ → ℕ → ℕ → ℕ → List ℕ
comes_to list other i j n = take n list ++ common (drop i list) (drop j other)

-- a merge stands at place i of the list and place j of the other one, and those found lie before place i
pub record IsAt (list other : List ℕ) (i j n : ℕ) : Type 0 where
  pub fewer : n ≤ i
  pub within_list : i ≤ length list
  pub within_other : j ≤ length other

-- a merge that stands at places i and j with n indices found goes on to i' and j' with n', and comes to the same where the lists ascend
pub record GoesOn (list new other : List ℕ) (i j n i' j' n' : ℕ) : Type 0 where
  pub at : IsAt new other i' j' n'
  pub ascends : IsStrictlyIncreasing other → IsStrictlyIncreasing (drop i list) → IsStrictlyIncreasing (drop i' new)
  pub same : IsStrictlyIncreasing other → IsStrictlyIncreasing (drop i list) → comes_to new other i' j' n' ≡ comes_to list other i j n
