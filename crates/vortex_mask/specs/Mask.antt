-- What a contract sees of a `Mask`: its list, the variant that holds it, and what is inside `Values`.
use Rattle.std.specs.Prelude.{◌≡◌, Bool, true, false, List, [], ◌∷◌, length, Option, Some, None, if◌then◌else◌, ◌⊎◌}
use Rattle.std.proofs.Math.Bool.{beq}
use Rattle.std.specs.Cmp.Lexicographic.{pointwise}
use Rattle.std.specs.List.{list_all, list_any}
use Rattle.std.specs.Ordering.{on}
use Rattle.mask_bits.specs.Buffer.{Packed, values}
use Rattle.vortex_mask.specs.MaskValues.{Contents}
use Rattle.mask_bits.specs.Positions.{count, repeated}
use Rattle.vortex_mask.specs.declared.mask.all_or.AllOr.{AllOr}
use Rattle.vortex_mask.specs.declared.mask.all_or.AllOr.TheVariants as all_or
use Rattle.vortex_mask.specs.declared.mask.Mask.{Mask}
use Rattle.vortex_mask.specs.declared.mask.Mask.TheVariants.{AllTrue, AllFalse, Values}

-- the truth values of a mask, however it is held
abbrev pub truth : Mask → List Bool
truth (AllTrue n) = repeated n true
truth (AllFalse n) = repeated n false
truth (Values v) = values v.value.buffer

-- the three ways to hold a mask: `AllTrue`, `AllFalse` and `Values`
pub data Variant : Type 0 where
  all_true : Variant
  all_false : Variant
  mixed : Variant

-- the way in which a mask is held
abbrev pub variant : Mask → Variant
variant (AllTrue n) = all_true
variant (AllFalse n) = all_false
variant (Values v) = mixed

-- the one way in which a list may be held: a list with no values is held as `empty` says
abbrev pub fitting_variant : Variant → List Bool → Variant
fitting_variant empty [] = empty
fitting_variant empty (v ∷ m) = if list_all (λ b. b) (v ∷ m) then all_true else (if list_any (λ b. b) (v ∷ m) then mixed else all_false)

-- two variants read as truth values, which `mixed` leaves open, and joined by `and`
abbrev pub variant_and : Variant → Variant → Variant
variant_and all_true w = w
variant_and all_false w = all_false
variant_and mixed all_true = mixed
variant_and mixed all_false = all_false
variant_and mixed mixed = mixed

-- two variants read as truth values, and joined by `or`
abbrev pub variant_or : Variant → Variant → Variant
variant_or all_true w = all_true
variant_or all_false w = w
variant_or mixed all_true = all_true
variant_or mixed all_false = mixed
variant_or mixed mixed = mixed

-- a variant read as a truth value, and negated
abbrev pub variant_not : Variant → Variant
variant_not all_true = all_false
variant_not all_false = all_true
variant_not mixed = mixed

-- how a part with no values is held: as the whole is, and as all false where that is mixed
abbrev pub variant_of_no_part : Variant → Variant
variant_of_no_part all_true = all_true
variant_of_no_part all_false = all_false
variant_of_no_part mixed = all_false

-- no value differs from another: the list is empty, all true or all false
abbrev pub IsUniform : List Bool → Type 0
IsUniform m = (count m ≡ 0) ⊎ (count m ≡ length m)

-- what is inside `Values`
abbrev pub contents : Mask → Option Contents
contents (Values v) = Some v.value
contents m = None

-- `All`, `None` or the buffer, by variant
abbrev pub held_buffer : Mask → AllOr Packed
held_buffer (AllTrue n) = all_or.All
held_buffer (AllFalse n) = all_or.None
held_buffer (Values v) = all_or.Some v.value.buffer

-- whether two masks have the same list
abbrev pub same_truth : Mask → Mask → Bool
same_truth = on truth (pointwise beq)
