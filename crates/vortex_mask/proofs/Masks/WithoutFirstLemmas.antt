-- A list without its first true values.
use Rattle.vortex_mask.proofs.Common.{nil-repeated}
use Rattle.vortex_mask.proofs.Masks.MaskLemmas.{fitting_variant-all_false}
use Rattle.mask_bits.proofs.Lists.PartLemmas.{part_of_repeated}
use Rattle.mask_bits.proofs.Lists.WithoutFirstLemmas.{without_first-back, without_first-all, without_first-none, length-without_first, count-without_first}

pub ruleset without_first_facts = (nil-repeated, fitting_variant-all_false, part_of_repeated, without_first-back, without_first-all, without_first-none, length-without_first, count-without_first)
