-- What a contract sees of `Steps`.
use Rattle.std.specs.Prelude.{ℕ, ◌≡◌, ◌<◌, ◌≤◌, ◌*◌, ◌%◌, Bool, false, Option, IfSome, List, length, slice_index_or}
use Rattle.std.specs.List.{sum_by}
use Rattle.mask_bits.specs.Buffer.{backing_bit}
use Rattle.mask_bits.specs.Positions.{count, count_below}
use Rattle.mask_bits.specs.Words.{started_words}

-- how many words were deposited, read and selected in, and sums over these steps: of the masks' counts, of the results' counts, and of the places selected
pub record StepCounts : Type 0 where
  pub deposits : ℕ
  pub words : ℕ
  pub selections : ℕ
  pub offered : ℕ
  pub placed : ℕ
  pub spots : ℕ

-- nothing counted yet
abbrev pub no_steps : StepCounts
no_steps = record { deposits = 0; words = 0; selections = 0; offered = 0; placed = 0; spots = 0 }

-- a deposit for each started word of a mask, which offer places at all its true values and place those of the result
abbrev pub word_steps : List Bool → List Bool → StepCounts
word_steps m r = record { deposits = started_words (length m); words = started_words (length m); selections = 0; offered = count m; placed = count r; spots = 0 }

-- n selections in so many words, which find these indices: the sum is of these within their words
abbrev pub driven_steps : ℕ → ℕ → List ℕ → StepCounts
driven_steps words n indices = record { deposits = 0; words = words; selections = n; offered = 0; placed = 0; spots = sum_by (λ p. p % 64) indices }

-- each step adds at most 64 to a sum
pub record SumsFit (deposits selections offered placed spots : ℕ) : Type 0 where
  pub offered_fits : offered ≤ 64 * deposits
  pub placed_fits : placed ≤ 64 * deposits
  pub spots_fit : spots ≤ 64 * selections

-- the first i words of a mask a took their deposits: the next rank bit, the bits of r that are written, and the steps where they are counted
pub record IsDeposited (a r : List Bool) (i at : ℕ) (out : List ℕ) (steps : Option StepCounts) : Type 0 where
  pub place : at ≡ count_below a (64 * i)
  pub written : (p : ℕ) → p < 64 * i → backing_bit out p ≡ slice_index_or r p false
  pub counted : IfSome steps (λ s. s ≡ record { deposits = i; words = i; selections = 0; offered = count_below a (64 * i); placed = count_below r (64 * i); spots = 0 })
