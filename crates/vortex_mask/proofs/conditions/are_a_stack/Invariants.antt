use Rattle.vortex_mask.proofs.Common.{◌∷◌, ◌↔◌, map, drop, truth, IsStack}
use Rattle.vortex_mask.proofs.conditions.are_a_stack.Given as goal

-- the masks are a stack exactly if those from the one before on are
abbrev pub invariant-loop-mask : goal.invariant-loop-mask
invariant-loop-mask l = IsStack (truth l.before ∷ map truth (drop l.mask-index l.masks)) ↔ IsStack (truth l.first ∷ map truth l.masks)
