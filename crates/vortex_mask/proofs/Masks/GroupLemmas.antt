-- The masks of groups: how many there are, and how many values of each are true.
use Rattle.vortex_mask.proofs.Common.{◌≡◌, ℕ, Bool, List, length, map, sym, ap, ◌∙◌, arith, range_with_len, length-map, map-map, length-map-range_with_len, count, truth, Mask}
use Rattle.mask_bits.proofs.Lists.GroupLemmas.{groups_begin_within}

-- as many masks as groups
pub length-groups : (masks : List Mask) (group : ℕ → List Bool) (n : ℕ) → map truth masks ≡ map group (range_with_len 0 n) → length masks ≡ n
length-groups masks group n same = omega (arith, length-map masks truth, ap length same, length-map-range_with_len group 0 n)

-- each with the count of its group
pub counts-groups : (masks : List Mask) (group : ℕ → List Bool) (n : ℕ) → map truth masks ≡ map group (range_with_len 0 n)
    → map (λ m. count (truth m)) masks ≡ map (λ number. count (group number)) (range_with_len 0 n)
counts-groups masks group n same = sym (map-map count truth masks) ∙ ap (map count) same ∙ map-map count group (range_with_len 0 n)

pub ruleset group_facts = (length-groups, counts-groups, groups_begin_within)
