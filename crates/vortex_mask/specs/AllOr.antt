-- What an `AllOr` holds.
use Rattle.std.specs.Prelude.{◌≡◌, Bool, true, false, List, length}
use Rattle.std.specs.Borrow.{Bor}
use Rattle.mask_bits.specs.Buffer.{Packed, values}
use Rattle.mask_bits.specs.Positions.{repeated}
use Rattle.vortex_mask.specs.declared.mask.all_or.AllOr.{AllOr}
use Rattle.vortex_mask.specs.declared.mask.all_or.AllOr.TheVariants.{All, None, Some}

-- P of one that stands for all, Q of one that stands for none, and R of a value
abbrev pub MatchAllOr : {T : Type 0} → AllOr T → Type 0 → Type 0 → (T → Type 0) → Type 0
MatchAllOr All P Q R = P
MatchAllOr None P Q R = Q
MatchAllOr (Some x) P Q R = R x

-- P of the value, in the form for a `requires`
abbrev pub ForValue : {T : Type 0} → AllOr T → (T → Type 0) → Type 0
ForValue {T} a P = (x : T) → a ≡ Some x → P x

-- whatever a clone of x may be, it is x
abbrev pub IsOnlyClone : {T : Type 0} → (T → T → Type 0) → T → Type 0
IsOnlyClone {T} is_clone x = (y : T) → is_clone x y → y ≡ x

-- one of a reference, with what that points to in its place
abbrev pub all_or_copied : {T : Type 0} → AllOr (Bor T) → AllOr T
all_or_copied All = All
all_or_copied None = None
all_or_copied (Some x) = Some x.now

-- a list lent so: `All` where each value is true, `None` where each is false, else those of a buffer
abbrev pub IsListOf : AllOr (Bor Packed) → List Bool → Type 0
IsListOf All m = m ≡ repeated (length m) true
IsListOf None m = m ≡ repeated (length m) false
IsListOf (Some b) m = m ≡ values b.now
