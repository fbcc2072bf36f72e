-- Bits that are set in bytes. No public clause cites this term.
use Rattle.std.specs.Prelude.{ℕ, ◌≡◌, ◌||◌, List}
use Rattle.mask_bits.specs.Buffer.{backing_bit}
use Rattle.mask_bits.specs.Runs.{is_inside}

-- the bits from position m to n are set, and all others as they were
abbrev pub AreSet : List ℕ → List ℕ → ℕ → ℕ → Type 0
AreSet old new m n = (p : ℕ) → backing_bit new p ≡ (is_inside p (m, n) || backing_bit old p)
