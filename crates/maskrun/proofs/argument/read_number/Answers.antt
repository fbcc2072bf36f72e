use Rattle.std.proofs.Common.{sym, ◌∙◌}
use Rattle.std.proofs.lemmas.Result.{OkIff-at_err}
use Rattle.std.proofs.lemmas.Str.Parse.{parse_digits}
use Rattle.maskrun.proofs.DigitLemmas.{digits, refused_number}
use Rattle.maskrun.proofs.argument.read_number.Goals as goal

pub returns-in-Err : goal.returns-in-Err
returns-in-Err c =
    let text = c.args.text.now in
    let all = sym c.has_only_digits.ensures ∙ c.if-not-has_only_digits.false in
    refused_number c.args.argument text (OkIff-at_err c.parse.result _ _ _ (parse_digits digits 64 text c.parse.result c.parse.ensures.value.0 all) c.in-Err.is)
