-- Items and runs of a word's bits that are being pushed. No public clause cites these terms.
use Rattle.std.specs.Prelude.{ℕ, ◌+◌, ◌≡◌, ◌<◌, ◌≤◌, ◌^◌, ◌&&◌, not, Bool, true, false, List, [], ◌∷◌, ◌++◌, length, zip}
use Rattle.mask_bits.specs.Positions.{indices_from}
use Rattle.mask_bits.specs.RunScan.{runs_from}
use Rattle.mask_bits.specs.Words.{word_bits}

-- the items, and then the rest, are `all`, and others where nothing is left of the rest
pub record ArePushed {X : Type 0} (all items rest : List X) : Type 0 where
  pub others : List X
  pub list : items ++ rest ≡ all ++ others

-- the runs of a list whose first index is n, behind a run from `start` on that has not ended before n where `inside`
abbrev pub runs_behind : Bool → ℕ → ℕ → List Bool → List (ℕ × ℕ)
runs_behind false start n m = runs_from n m
runs_behind true start n [] = (start, n) ∷ []
runs_behind true start n (true ∷ m) = runs_behind true start (n + 1) m
runs_behind true start n (false ∷ m) = (start, n) ∷ runs_from (n + 1) m

-- runs that end at the indices of one word's bits, and begin at `first` and at those of another one's
unfoldable pub runs_between : ℕ → ℕ → ℕ → ℕ → List (ℕ × ℕ)
runs_between base first starts ends = zip (first ∷ indices_from base (word_bits starts)) (indices_from base (word_bits ends))

-- two words, and each of the runs between their bits begins, where the first one does
pub record AreEdges (base starts ends : ℕ) : Type 0 where
  pub starts_fit : starts < 2 ^ 64
  pub ends_fit : ends < 2 ^ 64
  pub each : length (indices_from base (word_bits ends)) ≤ length (indices_from base (word_bits starts)) + 1

-- where runs begin: at `start` too, if inside one
abbrev pub begins : Bool → ℕ → List ℕ → List ℕ
begins false start ps = ps
begins true start ps = start ∷ ps

-- where values are true and the ones before them are not: `before` is the one before the first
abbrev pub starts_of : Bool → List Bool → List Bool
starts_of before [] = []
starts_of before (v ∷ m) = (v && not before) ∷ starts_of v m
