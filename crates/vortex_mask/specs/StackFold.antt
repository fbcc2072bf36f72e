-- Whether the fold of a stack from its first mask up begins by lists. No public clause cites these terms.
use Rattle.std.specs.Prelude.{◌≡◌, List, [], ◌∷◌, Option, Some, None, IsSome}
use Rattle.vortex_mask.specs.MaskValues.{Contents}
use Rattle.vortex_mask.specs.Path.{path_of}
use Rattle.vortex_mask.specs.declared.intersect_by_rank.path.RankPath.TheVariants.{Indices}
use Rattle.vortex_mask.specs.declared.mask.Mask.{Mask}
use Rattle.vortex_mask.specs.declared.mask.Mask.TheVariants.{Values}

-- what is inside the first of these masks that is mixed, if one is
abbrev pub first_mixed : List Mask → Option Contents
first_mixed [] = None
first_mixed (Values w ∷ masks) = Some w.value
first_mixed (m ∷ masks) = first_mixed masks

-- the cached true indices of v are taken at those of w
pub record TakesListAtList (v w : Contents) : Type 0 where
  pub path : path_of v w ≡ Indices
  pub listed : IsSome v.caches.indices
  pub rank_listed : IsSome w.caches.indices
