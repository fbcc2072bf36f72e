-- The lists of masks that are put one after another.
use Rattle.std.specs.Prelude.{ℕ, ◌≡◌, ◌<◌, ◌^◌, Bool, List, length, map, All}
use Rattle.std.specs.Borrow.{Bor}
use Rattle.std.specs.List.{sum_by}
use Rattle.mask_bits.specs.Lists.{concat}
use Rattle.vortex_mask.specs.declared.mask.Mask.{Mask}
use Rattle.vortex_mask.specs.Mask.{truth}

-- the list of each mask
abbrev pub lists_of : List (Bor Mask) → List (List Bool)
lists_of masks = map (λ mask. truth mask.now) masks

-- the sum of the lengths
abbrev pub total_len : List (List Bool) → ℕ
total_len lists = sum_by length lists

-- a mask is the lists one after another, whose lengths add up to its own, which fits
pub record Joins (lists : List (List Bool)) (mask : Mask) : Type 0 where
  pub list : truth mask ≡ concat lists
  pub len : length (truth mask) ≡ total_len lists
  pub fits : total_len lists < 2 ^ 64

-- each value of each mask, by its list, is v
abbrev pub AreAll : {M : Type 0} → (M → List Bool) → Bool → List M → Type 0
AreAll list v masks = All (λ mask. All (λ b. b ≡ v) (list mask)) masks
