-- By which kernel two masks of mixed values are narrowed, how the result is held, what it caches, and the steps that are taken.
use Rattle.std.specs.Prelude.{ℕ, ◌≡◌, ◌≤◌, ◌*◌, Bool, true, false, ◌&&◌, Option, IfSome, List, length, nat_lt, is_some, if◌then◌else◌}
use Rattle.mask_bits.specs.Buffer.{values}
use Rattle.mask_bits.specs.Positions.{positions, count, rank_intersection}
use Rattle.mask_bits.specs.Words.{started_words}
use Rattle.vortex_mask.specs.Caches.{caches, where_mixed}
use Rattle.vortex_mask.specs.Mask.{truth, variant, fitting_variant, all_false}
use Rattle.vortex_mask.specs.MaskValues.{Contents, Caches, no_caches, only_indices}
use Rattle.vortex_mask.specs.Steps.{StepCounts, no_steps, word_steps, driven_steps}
use Rattle.vortex_mask.specs.declared.intersect_by_rank.path.RankPath.{RankPath}
use Rattle.vortex_mask.specs.declared.intersect_by_rank.path.RankPath.TheVariants.{Indices, MaskDriven, BitBuffers, RankIndices}
use Rattle.vortex_mask.specs.declared.mask.Mask.{Mask}
use Rattle.vortex_mask.specs.declared.mask.Mask.TheVariants.{AllTrue, Values}

-- the path of a mask with so many values and true ones, narrowed by a rank mask with so many, where the true indices of each are cached or not: the first test that holds decides
abbrev pub path : ℕ → ℕ → ℕ → ℕ → Bool → Bool → RankPath
path len trues rank_len rank_trues self_cached true =
    if self_cached && nat_lt rank_trues (started_words len) then Indices
    else (if nat_lt (64 * trues) len then Indices
    else (if nat_lt (32 * rank_trues) rank_len then MaskDriven
    else (if nat_lt rank_len (4 * rank_trues) then BitBuffers
    else RankIndices)))
path len trues rank_len rank_trues self_cached false =
    if nat_lt (64 * trues) len then Indices
    else (if nat_lt (32 * rank_trues) rank_len then MaskDriven
    else BitBuffers)

-- the path of two masks of mixed values
abbrev pub path_of : Contents → Contents → RankPath
path_of v w = path (length (values v.buffer)) (count (values v.buffer)) (length (values w.buffer)) (count (values w.buffer)) (is_some v.caches.indices) (is_some w.caches.indices)

-- whether the words of so many values, of which so many are true, are deposited by the loop: fewer than one in 16 is
abbrev pub is_deposited_by_loop : ℕ → ℕ → Bool
is_deposited_by_loop len trues = nat_lt (16 * trues) len

-- what a mixed result r caches: its true indices, where the path finds these one by one
abbrev pub path_caches : RankPath → List Bool → Caches
path_caches Indices r = only_indices (positions r)
path_caches MaskDriven r = only_indices (positions r)
path_caches BitBuffers r = no_caches
path_caches RankIndices r = no_caches

-- what a rank intersection m of two masks caches: an all-true mask narrows to the other one with its lists, and two mixed ones to a mask that caches what their path leaves
abbrev pub narrowed_caches : Mask → Mask → Mask → Caches
narrowed_caches (AllTrue n) b m = caches b
narrowed_caches (Values v) (AllTrue n) m = caches (Values v)
narrowed_caches (Values v) (Values w) m = where_mixed m (path_caches (path_of v.value w.value) (truth m))
narrowed_caches a b m = no_caches

-- the steps s of a path from list a by ranks b to the result r: a deposit for each started word of a, or a selection for each rank in no more words than are started, or none
abbrev pub AreStepsOf : RankPath → List Bool → List Bool → List Bool → StepCounts → Type 0
AreStepsOf Indices a b r s = s ≡ no_steps
AreStepsOf MaskDriven a b r s = (s ≡ driven_steps s.words (count b) (positions r)) × (s.words ≤ started_words (length a))
AreStepsOf BitBuffers a b r s = s ≡ word_steps a r
AreStepsOf RankIndices a b r s = s ≡ word_steps a r

-- the steps s that narrow mask a by mask b to m: those of their path where both are mixed, and none elsewhere
abbrev pub AreNarrowingSteps : Mask → Mask → Mask → StepCounts → Type 0
AreNarrowingSteps (Values v) (Values w) m s = AreStepsOf (path_of v.value w.value) (values v.value.buffer) (values w.value.buffer) (truth m) s
AreNarrowingSteps a b m s = s ≡ no_steps

-- m is v narrowed by w on a path: their rank intersection as it is held where some list is not empty, with what the path caches, by its steps where they are counted
pub record IsNarrowedOn (path : RankPath) (v w : Contents) (m : Mask) (steps : Option StepCounts) : Type 0 where
  pub list : truth m ≡ rank_intersection (values v.buffer) (values w.buffer)
  pub variant : variant m ≡ fitting_variant all_false (truth m)
  pub caches : caches m ≡ where_mixed m (path_caches path (truth m))
  pub taken : IfSome steps (AreStepsOf path (values v.buffer) (values w.buffer) (truth m))
