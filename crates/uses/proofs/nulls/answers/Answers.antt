use Rattle.std.proofs.Common.{◌≡◌, ◌∙◌, map}
use Rattle.std.proofs.lemmas.Result.{IfOk-weaker}
use Rattle.mask_bits.specs.Nullable.{not_kleene_of, or_kleene_of}
use Rattle.mask_bits.specs.NullableBuffer.{nullable_values}
use Rattle.uses.specs.Nulls.{condition}
use Rattle.uses.proofs.nulls.answers.Goals as goal

pub returns : goal.returns
returns c =
    let law = c.kleene_row_by_row.ensures.rows in
    let same : not_kleene_of (or_kleene_of (nullable_values c.in_ok-a.a) (nullable_values c.in_ok-b.b)) ≡ map (condition c.args.low) c.args.rows.now
    = rw (c.in_ok-a.ensures, c.in_ok-b.ensures, law.or c.args.rows.now _ _) (law.not c.args.rows.now _) in
    IfOk-weaker c.neither.result _ _ (λ t is. is ∙ same) c.neither.ensures
