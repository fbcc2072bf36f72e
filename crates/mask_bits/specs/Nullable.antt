-- Truth values with nulls, and Kleene's tables of them: `None` is null, a value that isn't known.
use Rattle.std.specs.Prelude.{Bool, true, false, List, map, zip, Option, None, Some}
use Rattle.std.specs.Option.{is_none, is_some}

-- true where both are, false where one is, and else null
abbrev pub and_kleene : Option Bool → Option Bool → Option Bool
and_kleene (Some true) (Some true) = Some true
and_kleene (Some true) (Some false) = Some false
and_kleene (Some true) None = None
and_kleene (Some false) (Some true) = Some false
and_kleene (Some false) (Some false) = Some false
and_kleene (Some false) None = Some false
and_kleene None (Some true) = None
and_kleene None (Some false) = Some false
and_kleene None None = None

-- true where one is, false where both are, and else null
abbrev pub or_kleene : Option Bool → Option Bool → Option Bool
or_kleene (Some true) (Some true) = Some true
or_kleene (Some true) (Some false) = Some true
or_kleene (Some true) None = Some true
or_kleene (Some false) (Some true) = Some true
or_kleene (Some false) (Some false) = Some false
or_kleene (Some false) None = None
or_kleene None (Some true) = Some true
or_kleene None (Some false) = None
or_kleene None None = None

-- the negation: that of null is null
abbrev pub not_kleene : Option Bool → Option Bool
not_kleene (Some true) = Some false
not_kleene (Some false) = Some true
not_kleene None = None

-- what a filter keeps: a null isn't true
abbrev pub is_true : Option Bool → Bool
is_true (Some true) = true
is_true (Some false) = false
is_true None = false

-- what a check lets pass: a null isn't false
abbrev pub is_not_false : Option Bool → Bool
is_not_false (Some true) = true
is_not_false (Some false) = false
is_not_false None = true

-- a value and whether it is valid: one that isn't is null, whatever it holds
abbrev pub nullable_value : Bool → Bool → Option Bool
nullable_value value true = Some value
nullable_value value false = None

-- values with their validity, in step; where there is no validity, all are valid
abbrev pub nullable : List Bool → Option (List Bool) → List (Option Bool)
nullable values None = map Some values
nullable values (Some validity) = map (λ v. nullable_value v.0 v.1) (zip values validity)

-- f of the two values at each index, of lists of one length
abbrev pub combined_nullable : (Option Bool → Option Bool → Option Bool) → List (Option Bool) → List (Option Bool) → List (Option Bool)
combined_nullable f a b = map (λ v. f v.0 v.1) (zip a b)

-- `and` of the two values at each index
abbrev pub and_kleene_of : List (Option Bool) → List (Option Bool) → List (Option Bool)
and_kleene_of a b = combined_nullable and_kleene a b

-- `or` of the two values at each index
abbrev pub or_kleene_of : List (Option Bool) → List (Option Bool) → List (Option Bool)
or_kleene_of a b = combined_nullable or_kleene a b

-- each value negated
abbrev pub not_kleene_of : List (Option Bool) → List (Option Bool)
not_kleene_of a = map not_kleene a

-- which values are true
abbrev pub is_true_of : List (Option Bool) → List Bool
is_true_of a = map is_true a

-- which values are true or null
abbrev pub is_not_false_of : List (Option Bool) → List Bool
is_not_false_of a = map is_not_false a

-- which values are null
abbrev pub is_null_of : List (Option Bool) → List Bool
is_null_of a = map is_none a

-- which values are not null
abbrev pub is_valid_of : List (Option Bool) → List Bool
is_valid_of a = map is_some a
