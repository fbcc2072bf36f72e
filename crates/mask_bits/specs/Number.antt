-- Bytes as one number. No public clause cites this term: what a word of bytes is, is `window`.
use Rattle.std.specs.Prelude.{ℕ, ◌+◌, ◌*◌, List, [], ◌∷◌}

-- the number whose digits to the base 256 are the bytes, the first lowest
abbrev pub number : List ℕ → ℕ
number [] = 0
number (b ∷ bs) = b + 256 * number bs
