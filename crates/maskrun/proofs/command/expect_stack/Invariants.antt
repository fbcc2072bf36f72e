use Rattle.std.proofs.Common.{◌≡◌, ◌∷◌, drop, map}
use Rattle.maskrun.specs.Commands.{misfit}
use Rattle.vortex_mask.specs.Mask.{truth}
use Rattle.maskrun.proofs.command.expect_stack.Given as goal

abbrev pub invariant-loop-mask : goal.invariant-loop-mask
invariant-loop-mask l = misfit (truth l.before ∷ map truth (drop l.mask-index l.rest)) ≡ misfit (truth l.first ∷ map truth l.rest)
