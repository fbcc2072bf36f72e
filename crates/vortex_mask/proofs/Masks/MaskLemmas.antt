-- Lists of one value, and the variants that lists may have.
use Rattle.vortex_mask.proofs.Common.{common_steps, ◌↔◌, ◌≤◌, slice_range, All, ◌≡◌, ℕ, zero, suc, ◌<◌, Bool, true, false, List, [], ◌∷◌, length, refl, sym, ap, ◌∙◌, arith, IsTrue, booleans_Decides, slice_eq-Decides, Variant, all_true, all_false, mixed, fitting_variant, truth, same_truth, at_indices, count, positions, rank_intersection, repeated, length-chosen, positions-rank_intersection, rank_intersection-none, length-rank_intersection, count-le-length, length-bitmap, rank_intersection-all_true, rank_intersection-by_all_true, nil-repeated, slice_get-repeated, all_true-count, positions-repeated_true_at, All-repeated, repeated_from_All, count-repeated_true, count-repeated_false, all_true_from_count, all_false_from_count, list_all-count, list_all-count_less, list_any-count, list_any-count_zero, length-repeated, Mask}
use Rattle.mask_bits.proofs.Lists.ChooseLemmas.{chosen-all_true, chosen-all_false, chosen_of_repeated}
use Rattle.mask_bits.proofs.Lists.LimitLemmas.{limited-front, limited-all, limited-none, length-limited, count-limited}
use Rattle.mask_bits.proofs.Lists.PartLemmas.{part_of_repeated}

pub fitting_variant-all : (empty : Variant) (m : List Bool) → 0 < length m → count m ≡ length m → fitting_variant empty m ≡ all_true
fitting_variant-all empty [] some e = absurd (omega arith)
fitting_variant-all empty (v ∷ m) some e = rw (list_all-count 0 (v ∷ m) e) refl

pub fitting_variant-none : (empty : Variant) (m : List Bool) → 0 < length m → count m ≡ 0 → fitting_variant empty m ≡ all_false
fitting_variant-none empty [] some e = absurd (omega arith)
fitting_variant-none empty (v ∷ m) some e = grind (arith, common_steps, list_all-count_less, list_any-count_zero)

pub fitting_variant-some : (empty : Variant) (m : List Bool) → 0 < count m → count m < length m → fitting_variant empty m ≡ mixed
fitting_variant-some empty [] some less = absurd (omega arith)
fitting_variant-some empty (v ∷ m) some less = grind (arith, common_steps, list_all-count_less, list_any-count)

-- a list with no true value, held as all false also where it is empty
pub fitting_variant-all_false : (m : List Bool) → count m ≡ 0 → fitting_variant all_false m ≡ all_false
fitting_variant-all_false [] e = refl
fitting_variant-all_false (v ∷ m) e = fitting_variant-none all_false (v ∷ m) (omega arith) e

pub fitting_variant-repeated_true : (n : ℕ) → fitting_variant all_true (repeated n true) ≡ all_true
fitting_variant-repeated_true zero = rw (nil-repeated true) refl
fitting_variant-repeated_true (suc n) = grind (arith, fitting_variant-all, length-repeated, count-repeated_true)

-- as many true values as values, or none
pub repeated-all : (m : List Bool) → count m ≡ length m → repeated (length m) true ≡ m
repeated-all m e = sym (all_true_from_count 0 m e)

pub repeated-none : (m : List Bool) → count m ≡ 0 → repeated (length m) false ≡ m
repeated-none m e = sym (all_false_from_count 0 m e)

pub all_false-count : (m : List Bool) → (count m ≡ 0) ↔ All (λ v. v ≡ false) m
all_false-count m = (λ e. All-repeated false m (all_false_from_count 0 m e), λ all. ap count (repeated_from_All false m all) ∙ count-repeated_false (length m))

pub ruleset value_facts = (slice_get-repeated, all_true-count, all_false-count, positions-repeated_true_at)

pub ruleset variant_facts = (length-repeated, count-repeated_true, count-repeated_false, count-le-length, repeated-all, repeated-none, fitting_variant-repeated_true, fitting_variant-some, fitting_variant-all, fitting_variant-none)

pub ruleset bitmap_facts = (variant_facts, length-bitmap)

pub front_of_repeated : (n : ℕ) (v : Bool) (e : ℕ) → e ≤ n → slice_range (repeated n v) 0 e ≡ repeated e v
front_of_repeated n v e h = grind (arith, part_of_repeated n v 0 e)

pub ruleset part_facts = (front_of_repeated, limited-front, part_of_repeated, limited-all, limited-none, length-limited, count-limited)

pub ruleset count_facts = (part_of_repeated, length-repeated, count-repeated_true, count-repeated_false)

pub ruleset chosen_value_facts = (length-repeated, length-chosen, chosen-all_true, chosen-all_false, chosen_of_repeated)

-- the true indices of a narrowed mask, from those of both
pub narrowed_indices : (a b : List Bool) → length b ≡ count a → at_indices (positions a) (positions b) ≡ positions (rank_intersection a b)
narrowed_indices a b fits = sym (positions-rank_intersection a b fits)

pub ruleset narrowing_facts = (narrowed_indices, rank_intersection-all_true, rank_intersection-by_all_true, rank_intersection-none, length-rank_intersection)

-- the test of two masks' lists is true exactly where they are one list
pub same_truth_is_one_list : (a b : Mask) → IsTrue (same_truth a b) ↔ (truth a ≡ truth b)
same_truth_is_one_list a b = slice_eq-Decides booleans_Decides (truth a) (truth b) (same_truth a b) refl
