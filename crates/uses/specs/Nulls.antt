-- A condition of SQL on rows of two columns with nulls.
use Rattle.std.specs.Prelude.{ℕ, Bool, Option, Some, nat_lt}
use Rattle.std.specs.Option.{is_none, option_map, unwrap_or}
use Rattle.mask_bits.specs.Nullable.{is_true, not_kleene, or_kleene}
use Rattle.uses.specs.declared.nulls.Row.{Row}

-- `a > low`, which is null where a is
abbrev pub is_above : ℕ → Row → Option Bool
is_above low row = option_map (nat_lt low) row.a

-- whether a is there and above, or 0 would be
abbrev pub has_above : ℕ → Row → Bool
has_above low row = nat_lt low (unwrap_or row.a 0)

-- `b IS NULL`, which never is
abbrev pub is_missing : Row → Option Bool
is_missing row = Some (is_none row.b)

-- `NOT (a > low OR b IS NULL)`
abbrev pub condition : ℕ → Row → Option Bool
condition low row = not_kleene (or_kleene (is_above low row) (is_missing row))

-- whether that is true
abbrev pub is_kept : ℕ → Row → Bool
is_kept low row = is_true (condition low row)
