-- The list of a mask, by the variant that it is held in.
use Rattle.vortex_mask.proofs.Common.{◌≡◌, true, false, length, refl, all_true, all_false, variant, truth, repeated, length-repeated, Mask, AllTrue, AllFalse}

-- a mask that is held as all true has true values alone
pub all_true_has_true_values : (m : Mask) → variant m ≡ all_true → truth m ≡ repeated (length (truth m)) true
all_true_has_true_values (AllTrue n) held = rw length-repeated refl
all_true_has_true_values m held = absurd (cc)

-- one that is held as all false has false values alone
pub all_false_has_false_values : (m : Mask) → variant m ≡ all_false → truth m ≡ repeated (length (truth m)) false
all_false_has_false_values (AllFalse n) held = rw length-repeated refl
all_false_has_false_values m held = absurd (cc)

pub ruleset variants_of_one_value = (all_true_has_true_values, all_false_has_false_values)
