-- A mask as it is printed.
use Rattle.std.specs.Prelude.{ℕ, Bool, List, [], ◌∷◌, ◌++◌, map, codes, length}
use Rattle.std.specs.Fmt.{decimal}
use Rattle.mask_bits.specs.Buffer.{values}
use Rattle.mask_bits.specs.Positions.{count}
use Rattle.mask_bits.specs.Text.{digit}
use Rattle.vortex_mask.specs.declared.mask.Mask.{Mask}
use Rattle.vortex_mask.specs.declared.mask.Mask.TheVariants.{AllTrue, AllFalse, Values}

-- `-` for the empty list, else a digit for each value
abbrev pub mask_text : List Bool → List ℕ
mask_text [] = codes "-"
mask_text (v ∷ m) = map digit (v ∷ m)

-- what `Debug` writes of mixed values: how many are true, and how many there are
abbrev pub counts_text : List Bool → List ℕ
counts_text m = codes "true_count=" ++ decimal (count m) ++ codes ", len=" ++ decimal (length m)

-- what `Debug` writes of a mask: its variant with its length, or the counts of mixed values
abbrev pub debug_text : Mask → List ℕ
debug_text (AllTrue n) = codes "All true(" ++ decimal n ++ codes ")"
debug_text (AllFalse n) = codes "All false(" ++ decimal n ++ codes ")"
debug_text (Values v) = counts_text (values v.value.buffer)
