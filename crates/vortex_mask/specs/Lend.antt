-- The lists of its true indices that a mask lends.
use Rattle.std.specs.Prelude.{ℕ, ◌≡◌, ◌*◌, ◌≤◌, Bool, true, false, List, length, ⊤}
use Rattle.std.specs.Option.{option_map}
use Rattle.mask_bits.specs.Positions.{positions, count}
use Rattle.mask_bits.specs.RunScan.{runs}
use Rattle.vortex_mask.specs.Caches.{caches}
use Rattle.vortex_mask.specs.Mask.{Variant, all_true, all_false, mixed, truth, variant, contents}
use Rattle.vortex_mask.specs.MaskValues.{Caches, with_caches, with_indices, with_ranges}
use Rattle.vortex_mask.specs.declared.mask.all_or.AllOr.{AllOr}
use Rattle.vortex_mask.specs.declared.mask.all_or.AllOr.TheVariants.{All, None, Some}
use Rattle.vortex_mask.specs.declared.mask.cached.MaskIter.{MaskIter}
use Rattle.vortex_mask.specs.declared.mask.cached.MaskIter.TheVariants.{Indices, Slices}
use Rattle.vortex_mask.specs.declared.mask.Mask.{Mask}

-- of each den values at least num are true, taken over the whole list
abbrev pub ReachesShare : List Bool → ℕ → ℕ → Type 0
ReachesShare m num den = num * length m ≤ count m * den

-- whether ranges are lent, and not indices
abbrev pub lends_ranges : MaskIter → Bool
lends_ranges (Indices indices) = false
lends_ranges (Slices ranges) = true

-- the true indices are lent, or the runs
abbrev pub IsLentOf : List Bool → MaskIter → Type 0
IsLentOf m (Indices indices) = indices.now ≡ positions m
IsLentOf m (Slices ranges) = ranges.now ≡ runs m

-- these lists, with the one that is lent cached beside the other
abbrev pub with_list : MaskIter → Caches → Caches
with_list (Indices indices) cached = with_indices indices.now cached
with_list (Slices ranges) cached = with_ranges ranges.now cached

-- the variant of a mask that lends so: `All` where it is all true, `None` where it is all false
abbrev pub lender_variant : {T : Type 0} → AllOr T → Variant
lender_variant All = all_true
lender_variant None = all_false
lender_variant (Some list) = mixed

-- P of the list that is lent, if there is one
abbrev pub IfLent : {T : Type 0} → AllOr T → (T → Type 0) → Type 0
IfLent All P = ⊤
IfLent None P = ⊤
IfLent (Some list) P = P list

-- the lists that are cached once one may be lent: `add` caches it
abbrev pub with_lent : {T : Type 0} → (T → Caches → Caches) → AllOr T → Caches → Caches
with_lent add All cached = cached
with_lent add None cached = cached
with_lent add (Some list) cached = add list cached

-- the same list in the same variant and with the same contents but that these lists are cached
pub record IsCaching (old : Mask) (cached : Caches) (new : Mask) : Type 0 where
  pub list : truth new ≡ truth old
  pub variant : variant new ≡ variant old
  pub contents : contents new ≡ option_map (with_caches cached) (contents old)
  pub caches : caches new ≡ cached
