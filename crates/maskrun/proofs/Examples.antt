-- Worked rows of the definitions, which the checker computes. Those of whole commands stand in `rows`.
use Rattle.std.proofs.Common.{◌≡◌, true, false, [], ◌∷◌, Ok, Err, codes, refl}
use Rattle.maskrun.specs.Commands.{command_of, line}
use Rattle.maskrun.specs.Arguments.{number_argument}
use Rattle.maskrun.specs.declared.command.Command.TheVariants.{Rank}
use Rattle.maskrun.specs.declared.error.RunError.TheVariants.{Usage, BadNumber}

-- a command with its arguments read
rank_is_read : command_of (codes "rank" ∷ codes "01" ∷ codes "-" ∷ []) ≡ Ok (Rank (false ∷ true ∷ []) [])
rank_is_read = refl

no_words : line [] ≡ Err Usage
no_words = refl

-- numbers
leading_zeros : number_argument 2 (codes "0018") ≡ Ok 18
leading_zeros = refl

no_number : number_argument 2 [] ≡ Err (BadNumber 2)
no_number = refl
