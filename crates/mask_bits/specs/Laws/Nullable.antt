-- What holds of `and`, `or` and `not` of truth values with nulls, and of what a filter keeps.
use Rattle.std.specs.Prelude.{◌≡◌, ℕ, Bool, false, List, Option, None, Some, filter, length, map, slice_get}
use Rattle.mask_bits.specs.Lists.{and_of, or_of, not_of}
use Rattle.mask_bits.specs.Positions.{chosen}
use Rattle.mask_bits.specs.Nullable.{and_kleene, or_kleene, not_kleene, is_true, nullable_value, and_kleene_of, or_kleene_of, not_kleene_of, is_true_of, is_not_false_of, is_null_of, nullable}

-- `not` of `and` is `or` of both negated, and `not` of `or` is `and` of both negated
pub record IsDeMorgan : Type 0 where
  pub not_and : (a b : List (Option Bool)) → not_kleene_of (and_kleene_of a b) ≡ or_kleene_of (not_kleene_of a) (not_kleene_of b)
  pub not_or : (a b : List (Option Bool)) → not_kleene_of (or_kleene_of a b) ≡ and_kleene_of (not_kleene_of a) (not_kleene_of b)

-- a filter keeps of `and` what it keeps of both, and of `or` what it keeps of one
pub record IsTrueOfParts : Type 0 where
  pub and : (a b : List (Option Bool)) → is_true_of (and_kleene_of a b) ≡ and_of (is_true_of a) (is_true_of b)
  pub or : (a b : List (Option Bool)) → is_true_of (or_kleene_of a b) ≡ or_of (is_true_of a) (is_true_of b)

-- a filter by `not` keeps no null, just as one by the list itself
pub record KeepsNoNull : Type 0 where
  pub plain : (a : List (Option Bool)) (i : ℕ) → slice_get a i ≡ Some None → slice_get (is_true_of a) i ≡ Some false
  pub not : (a : List (Option Bool)) (i : ℕ) → slice_get a i ≡ Some None → slice_get (is_true_of (not_kleene_of a)) i ≡ Some false

-- `not` twice is nothing
abbrev pub IsNotTwice : Type 0
IsNotTwice = (a : List (Option Bool)) → not_kleene_of (not_kleene_of a) ≡ a

-- what isn't false are those whose negation isn't true
abbrev pub IsNotFalseOfNot : Type 0
IsNotFalseOfNot = (a : List (Option Bool)) → is_not_false_of a ≡ not_of (is_true_of (not_kleene_of a))

-- where there is no null, the tables are the plain ones
pub record IsPlainWithoutNulls : Type 0 where
  pub and : (a b : List Bool) → and_kleene_of (nullable a None) (nullable b None) ≡ nullable (and_of a b) None
  pub or : (a b : List Bool) → or_kleene_of (nullable a None) (nullable b None) ≡ nullable (or_of a b) None
  pub not : (a : List Bool) → not_kleene_of (nullable a None) ≡ nullable (not_of a) None
  pub is_true : (a : List Bool) → is_true_of (nullable a None) ≡ a

-- what is true, what isn't false and what is null, of values and their validity
pub record IsByParts : Type 0 where
  pub is_true : (values validity : List Bool) → is_true_of (nullable values (Some validity)) ≡ and_of values validity
  pub is_not_false : (values validity : List Bool) → is_not_false_of (nullable values (Some validity)) ≡ or_of values (not_of validity)
  pub is_null : (values validity : List Bool) → length validity ≡ length values → is_null_of (nullable values (Some validity)) ≡ not_of validity

-- tests of each of some rows: a test of values and of their validity, the tables of two tests, and what a filter keeps
pub record IsRowByRow (T : Type 0) : Type 0 where
  pub with_validity : (rows : List T) (value valid : T → Bool) (test : T → Option Bool) → ((row : T) → nullable_value (value row) (valid row) ≡ test row) → nullable (map value rows) (Some (map valid rows)) ≡ map test rows
  pub all_valid : (rows : List T) (value : T → Bool) → nullable (map value rows) None ≡ map (λ row. Some (value row)) rows
  pub and : (rows : List T) (f g : T → Option Bool) → and_kleene_of (map f rows) (map g rows) ≡ map (λ row. and_kleene (f row) (g row)) rows
  pub or : (rows : List T) (f g : T → Option Bool) → or_kleene_of (map f rows) (map g rows) ≡ map (λ row. or_kleene (f row) (g row)) rows
  pub not : (rows : List T) (f : T → Option Bool) → not_kleene_of (map f rows) ≡ map (λ row. not_kleene (f row)) rows
  pub kept : (rows : List T) (f : T → Option Bool) → chosen rows (is_true_of (map f rows)) ≡ filter (λ row. is_true (f row)) rows
