-- What a contract sees of a `MaskValues`.
use Rattle.std.specs.Prelude.{ℕ, ◌≡◌, ◌<◌, Bool, false, true, List, length, IsSome, Option, Some, None}
use Rattle.std.specs.Option.{ForSome}
use Rattle.mask_bits.specs.Buffer.{Packed, values}
use Rattle.mask_bits.specs.Positions.{positions, count}
use Rattle.mask_bits.specs.RunScan.{runs}

-- the cached lists of the true indices, where there are such: the indices, and their runs
pub record Caches : Type 0 where
  pub indices : Option (List ℕ)
  pub ranges : Option (List (ℕ × ℕ))

-- neither list is cached
abbrev pub no_caches : Caches
no_caches = record { indices = None; ranges = None }

-- the indices alone
abbrev pub only_indices : List ℕ → Caches
only_indices indices = record { indices = Some indices; ranges = None }

-- the ranges alone
abbrev pub only_ranges : List (ℕ × ℕ) → Caches
only_ranges ranges = record { indices = None; ranges = Some ranges }

-- these lists, with the indices cached beside the ranges
abbrev pub with_indices : List ℕ → Caches → Caches
with_indices indices cached = record cached { indices = Some indices }

-- these lists, with the ranges cached beside the indices
abbrev pub with_ranges : List (ℕ × ℕ) → Caches → Caches
with_ranges ranges cached = record cached { ranges = Some ranges }

-- these lists, with the runs of a list of truth values cached, or its true indices
abbrev pub with_made : Bool → List Bool → Caches → Caches
with_made true m cached = with_ranges (runs m) cached
with_made false m cached = with_indices (positions m) cached

-- the ranges are cached, or the indices
abbrev pub HasList : Bool → Caches → Type 0
HasList true cached = IsSome cached.ranges
HasList false cached = IsSome cached.indices

-- a buffer, how many of its values are true, and the cached lists of them
pub record Contents : Type 0 where
  pub buffer : Packed
  pub true_count : ℕ
  pub caches : Caches

-- these parts as one
abbrev pub contents : Packed → ℕ → Option (List ℕ) → Option (List (ℕ × ℕ)) → Contents
contents buffer true_count indices ranges = record { buffer = buffer; true_count = true_count; caches = record { indices = indices; ranges = ranges } }

-- the same values, with these lists cached
abbrev pub with_caches : Caches → Contents → Contents
with_caches cached v = record v { caches = cached }

-- the count is the buffer's, and some values are true and some are not
pub record IsMixed (buffer : Packed) (true_count : ℕ) : Type 0 where
  pub counted : true_count ≡ count (values buffer)
  pub some_true : 0 < true_count
  pub some_false : true_count < length (values buffer)

-- cached indices are the list's true indices, and cached ranges are its runs
pub record AreOf (m : List Bool) (caches : Caches) : Type 0 where
  pub indices : ForSome caches.indices (λ indices. indices ≡ positions m)
  pub ranges : ForSome caches.ranges (λ ranges. ranges ≡ runs m)

-- what every `MaskValues` keeps
pub record IsWhole (contents : Contents) : Type 0 where
  pub mixed : IsMixed contents.buffer contents.true_count
  pub caches : AreOf (values contents.buffer) contents.caches
