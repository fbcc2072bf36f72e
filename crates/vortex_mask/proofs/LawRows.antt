-- What terms say where a clause is read from outside: each row takes one, and computes an instance of it.
use Rattle.vortex_mask.proofs.Common.{ℕ, ◌≡◌, Bool, List, Bor, Packed, values, IsListOf, IfLent, AreNarrowingSteps, StepCounts, no_steps, Mask, AllTrue, AllFalse, Values}
use Rattle.vortex_mask.specs.declared.mask.all_or.AllOr.TheVariants.{Some}

-- ---- a list that is lent

lent_list : (list : List ℕ) (P : List ℕ → Type 0) → IfLent (Some list) P → P list
lent_list list P holds = holds

listed : (b : Bor Packed) (m : List Bool) → IsListOf (Some b) m → m ≡ values b.now
listed b m is = is

-- ---- steps where a side is all false

no_steps_by_all_false : (a m : Mask) (n : ℕ) (s : StepCounts) → AreNarrowingSteps a (AllFalse n) m s → s ≡ no_steps
no_steps_by_all_false (Values v) m n s are = are
no_steps_by_all_false (AllTrue k) m n s are = are
no_steps_by_all_false (AllFalse k) m n s are = are

no_steps_by_all_true : (a m : Mask) (n : ℕ) (s : StepCounts) → AreNarrowingSteps a (AllTrue n) m s → s ≡ no_steps
no_steps_by_all_true (Values v) m n s are = are
no_steps_by_all_true (AllTrue k) m n s are = are
no_steps_by_all_true (AllFalse k) m n s are = are
