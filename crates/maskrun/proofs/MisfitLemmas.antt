-- Masks without a misfit are a stack, and no others are.
use Rattle.std.proofs.Common.{◌≡◌, ◌↔◌, ◌==◌, Bool, List, [], ◌∷◌, length, None, inl, inr, refl, eq-eqb, arith, tests}
use Rattle.std.proofs.lemmas.Bool.{cases_Bool}
use Rattle.mask_bits.specs.Positions.{count}
use Rattle.mask_bits.specs.Stacks.{IsStack}
use Rattle.maskrun.specs.Commands.{misfit}

stack_from_no_misfit : (ms : List (List Bool)) → misfit ms ≡ None → IsStack ms
stack_from_no_misfit [] none = tt
stack_from_no_misfit (a ∷ []) none = tt
stack_from_no_misfit (a ∷ b ∷ ms) none =
    elim (cases_Bool (length b == count a)) [
      | inl fits ↦ (grind (arith, tests), stack_from_no_misfit (b ∷ ms) (rw fits at none))
      | inr other ↦ let some = rw other at none in absurd (cc)
    ]

no_misfit_from_stack : (ms : List (List Bool)) → IsStack ms → misfit ms ≡ None
no_misfit_from_stack [] stack = refl
no_misfit_from_stack (a ∷ []) stack = refl
no_misfit_from_stack (a ∷ b ∷ ms) stack = rw (eq-eqb (length b) (count a) stack.0) (no_misfit_from_stack (b ∷ ms) stack.1)

pub stacks_have_no_misfit : (ms : List (List Bool)) → (misfit ms ≡ None) ↔ IsStack ms
stacks_have_no_misfit ms = (stack_from_no_misfit ms, no_misfit_from_stack ms)
