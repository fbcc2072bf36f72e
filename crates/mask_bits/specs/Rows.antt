-- What a test answers of each of some rows, and what it leaves of values that stand beside them.
use Rattle.std.specs.Prelude.{◌≡◌, Bool, true, false, List, length, map, zip, All}
use Rattle.std.specs.Borrow.{Bor}
use Rattle.mask_bits.specs.Lists.{and_of}

-- each answer is one that the test may give at its row
pub record AreAnswers {T : Type 0} (gives : T → Bool → Type 0) (rows : List T) (answers : List Bool) : Type 0 where
  pub len : length answers ≡ length rows
  pub each : All (λ p. gives p.0 p.1) (zip rows answers)

-- whatever function of a row the test computes, the answers are that function of each row
abbrev pub AreAsComputed : {T : Type 0} → (Bor T → Bool → Type 0) → List T → List Bool → Type 0
AreAsComputed {T} gives rows answers = (f : T → Bool) → ((row : Bor T) (answer : Bool) → gives row answer → answer ≡ f row.now) → answers ≡ map f rows

-- what a test leaves of a value: of a true one an answer that it may give at the value's row, and a false one as it is
abbrev pub leaves : {T : Type 0} → (T → Bool → Type 0) → T → Bool → Bool → Type 0
leaves gives row true left = gives row left
leaves gives row false left = left ≡ false

-- each value is what the test leaves of the value before at its row
abbrev pub AreLeft : {T : Type 0} → (T → Bool → Type 0) → List T → List Bool → List Bool → Type 0
AreLeft gives rows before left = AreAnswers (λ p. leaves gives p.0 p.1) (zip rows before) left

-- whatever function of a row the test computes, those values are left true of whose rows it is
abbrev pub AreLeftAsComputed : {T : Type 0} → (Bor T → Bool → Type 0) → List T → List Bool → List Bool → Type 0
AreLeftAsComputed {T} gives rows before left = (f : T → Bool) → ((row : Bor T) (answer : Bool) → gives row answer → answer ≡ f row.now) → left ≡ and_of before (map f rows)
