-- The share of true values.
use Rattle.std.specs.Prelude.{Bool, List, length}
use Rattle.mask_bits.specs.Buffer.{values}
use Rattle.mask_bits.specs.Positions.{count}
use Rattle.vortex_mask.specs.declared.mask.Mask.{Mask}
use Rattle.vortex_mask.specs.declared.mask.Mask.TheVariants.{AllTrue, AllFalse, Values}
use Rattle.vortex_mask.specs.declared.mask.fraction.Fraction.{Fraction}

-- how many values are true, of how many
abbrev pub share : List Bool → Fraction
share m = record { num = count m; den = length m }

-- 1/1 of an all-true mask and 0/1 of an all-false one, whatever their length, and else the share of its list
abbrev pub share_by_variant : Mask → Fraction
share_by_variant (AllTrue n) = record { num = 1; den = 1 }
share_by_variant (AllFalse n) = record { num = 0; den = 1 }
share_by_variant (Values v) = share (values v.value.buffer)
