-- What `parse` gives of digits.
use Rattle.std.proofs.Common.{◌≡◌, ℕ, ◌<◌, ◌^◌, true, List, length, Err, rules, arith, tests}
use Rattle.std.proofs.lemmas.Str.Parse.{IsNumeralModel, numerals_by_value}
use Rattle.std.specs.Char.{is_ascii_digit}
use Rattle.std.specs.List.{list_all}
use Rattle.std.specs.Str.Parse.{digits_value}
use Rattle.maskrun.specs.Arguments.{number_argument}
use Rattle.maskrun.specs.declared.error.RunError.TheVariants.{BadNumber}

-- std's digits are these
pub digits : IsNumeralModel (λ ds. list_all is_ascii_digit ds ≡ true) (digits_value 10)
digits = numerals_by_value (λ ds. list_all is_ascii_digit ds ≡ true) (search rules)

-- digits that are none, or whose value is too large, are no number
pub refused_number : (n : ℕ) (cs : List ℕ) → ¬ ((0 < length cs) × (digits_value 10 cs < 2 ^ 64)) → Err (BadNumber n) ≡ number_argument n cs
refused_number n cs none = grind (arith, tests)
