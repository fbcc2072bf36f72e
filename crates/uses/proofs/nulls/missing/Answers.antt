use Rattle.std.specs.Option.{is_none}
use Rattle.uses.proofs.nulls.missing.Goals as goal

pub returns : goal.returns
returns c = rw (c.new.ensures.buffer, c.in_ok-values.ensures) (c.kleene_row_by_row.ensures.rows.all_valid c.args.rows.now (λ row. is_none row.b))
