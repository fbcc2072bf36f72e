-- What a contract sees of an iterator over the values of a mask, over its true indices and over its runs.
use Rattle.std.specs.Prelude.{ℕ, ◌-◌, Bool, List}
use Rattle.std.specs.List.{range_with_len}
use Rattle.std.specs.Option.{option_to_list}
use Rattle.mask_bits.specs.Positions.{repeated}
use Rattle.vortex_mask.specs.declared.mask.iter.MaskBoolIter.{MaskBoolIter}
use Rattle.vortex_mask.specs.declared.mask.iter.MaskBoolIter.TheVariants.{Repeat, Bits}
use Rattle.vortex_mask.specs.declared.mask.iter.MaskSetIndices.{MaskSetIndices}
use Rattle.vortex_mask.specs.declared.mask.iter.MaskSetIndices.TheVariants as set_indices
use Rattle.vortex_mask.specs.declared.mask.iter.MaskSetSlices.{MaskSetSlices}
use Rattle.vortex_mask.specs.declared.mask.iter.MaskSetSlices.TheVariants as set_slices

-- the values that it has still to give, in their order
abbrev pub values_left : MaskBoolIter → List Bool
values_left (Repeat value remaining) = repeated remaining value
values_left (Bits values) = values

-- the true indices that it has still to give, ascending
abbrev pub indices_left : MaskSetIndices → List ℕ
indices_left (set_indices.Range next «end») = range_with_len next («end» - next)
indices_left (set_indices.Bits indices) = indices

-- the runs that it has still to give, ascending
abbrev pub ranges_left : MaskSetSlices → List (ℕ × ℕ)
ranges_left (set_slices.Whole run) = option_to_list run
ranges_left (set_slices.Bits runs) = runs
