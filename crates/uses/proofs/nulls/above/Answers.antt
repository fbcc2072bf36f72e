use Rattle.std.proofs.Common.{◌≡◌, ℕ, Option, None, Some, refl, nat_lt}
use Rattle.std.specs.Option.{is_some, option_map, unwrap_or}
use Rattle.mask_bits.specs.Nullable.{nullable_value}
use Rattle.uses.specs.Nulls.{has_above, is_above}
use Rattle.uses.proofs.nulls.above.Goals as goal

-- a value of a, by whether it is there and what it says where it is
answer : (low : ℕ) (a : Option ℕ) → nullable_value (nat_lt low (unwrap_or a 0)) (is_some a) ≡ option_map (nat_lt low) a
answer low None = refl
answer low (Some a) = refl

pub returns : goal.returns
returns c =
    rw (c.new.ensures.buffer, c.in_ok-values.ensures, c.in_ok-validity.ensures)
    (c.kleene_row_by_row.ensures.rows.with_validity c.args.rows.now (has_above c.args.low) (λ row. is_some row.a) (is_above c.args.low) (λ row. answer c.args.low row.a))
