-- Which lists of its true indices a mask caches: the indices, and their runs.
use Rattle.std.specs.Prelude.{ℕ, ◌≡◌, List, length}
use Rattle.mask_bits.specs.Positions.{positions}
use Rattle.vortex_mask.specs.Mask.{truth, variant, fitting_variant, all_false}
use Rattle.vortex_mask.specs.MaskValues.{Caches, no_caches, only_indices}
use Rattle.vortex_mask.specs.declared.mask.Mask.{Mask}
use Rattle.vortex_mask.specs.declared.mask.Mask.TheVariants.{Values}

-- the lists of its true indices that a mask caches
abbrev pub caches : Mask → Caches
caches (Values v) = v.value.caches
caches m = no_caches

-- these lists where a mask is held as `Values`, and neither elsewhere
abbrev pub where_mixed : Mask → Caches → Caches
where_mixed (Values v) cached = cached
where_mixed m cached = no_caches

-- m has n values and is true exactly at these indices, held as where some list is not empty, and caches them where it is mixed
pub record IsOfIndices (n : ℕ) (indices : List ℕ) (m : Mask) : Type 0 where
  pub len : length (truth m) ≡ n
  pub true_indices : positions (truth m) ≡ indices
  pub variant : variant m ≡ fitting_variant all_false (truth m)
  pub caches : caches m ≡ where_mixed m (only_indices indices)
