-- What holds of lists of truth values with nulls: Kleene's laws, at each place, and the two lists that tell where they are true and false.
use Rattle.mask_bits.proofs.Common.{◌≡◌, suc, Bool, true, false, not, ◌&&◌, ◌||◌, List, [], ◌∷◌, length, map, zip, Option, None, Some, slice_get-map, refl, ap, ◌∙◌, arith, chosen, repeated, combined, and_of, or_of, not_of, and_not_of}
use Rattle.mask_bits.specs.Laws.Nullable.{IsDeMorgan, IsTrueOfParts, KeepsNoNull, IsNotTwice, IsNotFalseOfNot, IsPlainWithoutNulls, IsByParts, IsRowByRow}
use Rattle.mask_bits.proofs.Lists.RowLemmas.{chosen_by_test}
use Rattle.mask_bits.specs.Nullable.{and_kleene, or_kleene, not_kleene, is_true, is_not_false, nullable_value, nullable, combined_nullable, not_kleene_of, is_true_of, is_not_false_of, is_null_of, is_valid_of}

-- ---- the tables

-- what is proved of each value is proved of all
pub by_values : (P : Option Bool → Type 0) → P (Some true) → P (Some false) → P None → (x : Option Bool) → P x
by_values P at_true at_false at_null (Some true) = at_true
by_values P at_true at_false at_null (Some false) = at_false
by_values P at_true at_false at_null None = at_null

pub by_values_2 : (P : Option Bool → Option Bool → Type 0)
    → P (Some true) (Some true) → P (Some true) (Some false) → P (Some true) None
    → P (Some false) (Some true) → P (Some false) (Some false) → P (Some false) None
    → P None (Some true) → P None (Some false) → P None None
    → (x y : Option Bool) → P x y
by_values_2 P tt' tf tn ft ff fn nt nf nn x y = by_values (λ x. P x y) (by_values (λ y. P (Some true) y) tt' tf tn y) (by_values (λ y. P (Some false) y) ft ff fn y) (by_values (λ y. P None y) nt nf nn y) x

not_and : (x y : Option Bool) → not_kleene (and_kleene x y) ≡ or_kleene (not_kleene x) (not_kleene y)
not_and = by_values_2 (λ x y. not_kleene (and_kleene x y) ≡ or_kleene (not_kleene x) (not_kleene y)) refl refl refl refl refl refl refl refl refl

not_or : (x y : Option Bool) → not_kleene (or_kleene x y) ≡ and_kleene (not_kleene x) (not_kleene y)
not_or = by_values_2 (λ x y. not_kleene (or_kleene x y) ≡ and_kleene (not_kleene x) (not_kleene y)) refl refl refl refl refl refl refl refl refl

true_and : (x y : Option Bool) → is_true (and_kleene x y) ≡ (is_true x && is_true y)
true_and = by_values_2 (λ x y. is_true (and_kleene x y) ≡ (is_true x && is_true y)) refl refl refl refl refl refl refl refl refl

true_or : (x y : Option Bool) → is_true (or_kleene x y) ≡ (is_true x || is_true y)
true_or = by_values_2 (λ x y. is_true (or_kleene x y) ≡ (is_true x || is_true y)) refl refl refl refl refl refl refl refl refl

-- ---- at each place

pub map_combined : {A : Type 0} (h : Option Bool → A) (f : Option Bool → Option Bool → Option Bool) (g : A → A → A)
    → ((x y : Option Bool) → h (f x y) ≡ g (h x) (h y)) → (a b : List (Option Bool))
    → map h (combined_nullable f a b) ≡ map (λ (v : A × A). g v.0 v.1) (zip (map h a) (map h b))
map_combined h f g same [] b = refl
map_combined h f g same (x ∷ a) [] = refl
map_combined h f g same (x ∷ a) (y ∷ b) = grind (arith, map_combined h f g same a b, same x y)

-- ---- the laws

pub de_morgan : IsDeMorgan
de_morgan = record {
  not_and = map_combined not_kleene and_kleene or_kleene not_and;
  not_or = map_combined not_kleene or_kleene and_kleene not_or;
}

pub is_true_of_parts : IsTrueOfParts
is_true_of_parts = record {
  and = map_combined is_true and_kleene (λ x y. x && y) true_and;
  or = map_combined is_true or_kleene (λ x y. x || y) true_or;
}

pub keeps_no_null : KeepsNoNull
keeps_no_null = record {
  plain = λ a i null. grind (arith, slice_get-map);
  not = λ a i null. grind (arith, slice_get-map);
}

pub not_twice : IsNotTwice
not_twice [] = refl
not_twice (x ∷ a) = grind (arith, not_twice a, by_values (λ x. not_kleene (not_kleene x) ≡ x) refl refl refl x)

pub is_not_false_of_not : IsNotFalseOfNot
is_not_false_of_not [] = refl
is_not_false_of_not (x ∷ a) = grind (arith, is_not_false_of_not a, by_values (λ x. is_not_false x ≡ not (is_true (not_kleene x))) refl refl refl x)

pub plain_by : (f : Option Bool → Option Bool → Option Bool) (g : Bool → Bool → Bool) → ((x y : Bool) → f (Some x) (Some y) ≡ Some (g x y)) → (a b : List Bool) → combined_nullable f (map Some a) (map Some b) ≡ map Some (combined g a b)
plain_by f g same [] b = refl
plain_by f g same (x ∷ a) [] = refl
plain_by f g same (x ∷ a) (y ∷ b) = grind (arith, plain_by f g same a b, same x y)

pub plain_and : (x y : Bool) → and_kleene (Some x) (Some y) ≡ Some (x && y)
plain_and true true = refl
plain_and true false = refl
plain_and false true = refl
plain_and false false = refl

pub plain_or : (x y : Bool) → or_kleene (Some x) (Some y) ≡ Some (x || y)
plain_or true true = refl
plain_or true false = refl
plain_or false true = refl
plain_or false false = refl

pub plain_not : (a : List Bool) → not_kleene_of (map Some a) ≡ map Some (not_of a)
plain_not [] = refl
plain_not (true ∷ a) = ap (λ (xs : List (Option Bool)). Some false ∷ xs) (plain_not a)
plain_not (false ∷ a) = ap (λ (xs : List (Option Bool)). Some true ∷ xs) (plain_not a)

pub plain_is_true : (a : List Bool) → is_true_of (map Some a) ≡ a
plain_is_true [] = refl
plain_is_true (true ∷ a) = ap (λ (xs : List Bool). true ∷ xs) (plain_is_true a)
plain_is_true (false ∷ a) = ap (λ (xs : List Bool). false ∷ xs) (plain_is_true a)

pub plain_without_nulls : IsPlainWithoutNulls
plain_without_nulls = record {
  and = plain_by and_kleene (λ x y. x && y) plain_and;
  or = plain_by or_kleene (λ x y. x || y) plain_or;
  not = plain_not;
  is_true = plain_is_true;
}

-- ---- values with their validity

pub length-somes : (m : List Bool) → length (nullable m None) ≡ length m
length-somes [] = refl
length-somes (x ∷ m) = ap suc (length-somes m)

pub length-both : (m v : List Bool) → length v ≡ length m → length (nullable m (Some v)) ≡ length m
length-both [] v len = refl
length-both (x ∷ m) [] len = absurd (omega arith)
length-both (x ∷ m) (y ∷ v) len = grind (arith, length-both m v)

pub true-both : (m v : List Bool) → is_true_of (nullable m (Some v)) ≡ and_of m v
true-both [] v = refl
true-both (x ∷ m) [] = refl
true-both (true ∷ m) (true ∷ v) = grind (arith, true-both m v)
true-both (true ∷ m) (false ∷ v) = grind (arith, true-both m v)
true-both (false ∷ m) (true ∷ v) = grind (arith, true-both m v)
true-both (false ∷ m) (false ∷ v) = grind (arith, true-both m v)

pub not_false-both : (m v : List Bool) → is_not_false_of (nullable m (Some v)) ≡ combined (λ x y. x || not y) m v
not_false-both [] v = refl
not_false-both (x ∷ m) [] = refl
not_false-both (true ∷ m) (true ∷ v) = grind (arith, not_false-both m v)
not_false-both (true ∷ m) (false ∷ v) = grind (arith, not_false-both m v)
not_false-both (false ∷ m) (true ∷ v) = grind (arith, not_false-both m v)
not_false-both (false ∷ m) (false ∷ v) = grind (arith, not_false-both m v)

pub not_false-somes : (m : List Bool) → is_not_false_of (nullable m None) ≡ m
not_false-somes [] = refl
not_false-somes (true ∷ m) = grind (arith, not_false-somes m)
not_false-somes (false ∷ m) = grind (arith, not_false-somes m)

pub null-both : (m v : List Bool) → length v ≡ length m → is_null_of (nullable m (Some v)) ≡ not_of v
null-both [] [] len = refl
null-both [] (y ∷ v) len = absurd (omega arith)
null-both (x ∷ m) [] len = refl
null-both (x ∷ m) (true ∷ v) len = grind (arith, null-both m v)
null-both (x ∷ m) (false ∷ v) len = grind (arith, null-both m v)

pub null-somes : (m : List Bool) → is_null_of (nullable m None) ≡ repeated (length m) false
unfolding repeated
null-somes [] = refl
null-somes (x ∷ m) = ap (λ (xs : List Bool). false ∷ xs) (null-somes m)

pub not-both : (m v : List Bool) → nullable (and_not_of v m) (Some v) ≡ not_kleene_of (nullable m (Some v))
not-both [] [] = refl
not-both [] (y ∷ v) = refl
not-both (x ∷ m) [] = refl
not-both (true ∷ m) (true ∷ v) = grind (arith, not-both m v)
not-both (true ∷ m) (false ∷ v) = grind (arith, not-both m v)
not-both (false ∷ m) (true ∷ v) = grind (arith, not-both m v)
not-both (false ∷ m) (false ∷ v) = grind (arith, not-both m v)

pub cleared-both : (m v : List Bool) → is_true_of (nullable (and_not_of v m) (Some v)) ≡ and_not_of v m
cleared-both [] [] = refl
cleared-both [] (y ∷ v) = refl
cleared-both (x ∷ m) [] = refl
cleared-both (true ∷ m) (true ∷ v) = grind (arith, cleared-both m v)
cleared-both (true ∷ m) (false ∷ v) = grind (arith, cleared-both m v)
cleared-both (false ∷ m) (true ∷ v) = grind (arith, cleared-both m v)
cleared-both (false ∷ m) (false ∷ v) = grind (arith, cleared-both m v)

pub length-combined_nullable : (f : Option Bool → Option Bool → Option Bool) (a b : List (Option Bool)) → length a ≡ length b → length (combined_nullable f a b) ≡ length a
length-combined_nullable f [] b len = refl
length-combined_nullable f (x ∷ a) [] len = absurd (omega arith)
length-combined_nullable f (x ∷ a) (y ∷ b) len = grind (arith, length-combined_nullable f a b)

pub length-not_kleene_of : (m : List (Option Bool)) → length (not_kleene_of m) ≡ length m
length-not_kleene_of [] = refl
length-not_kleene_of (x ∷ m) = ap suc (length-not_kleene_of m)

-- where a list is true, and where it is valid, say what it is
pub nullable-parts : (m : List (Option Bool)) → nullable (is_true_of m) (Some (is_valid_of m)) ≡ m
nullable-parts [] = refl
nullable-parts (Some true ∷ m) = grind (arith, nullable-parts m)
nullable-parts (Some false ∷ m) = grind (arith, nullable-parts m)
nullable-parts (None ∷ m) = grind (arith, nullable-parts m)

or-not : (m v : List Bool) → combined (λ x y. x || not y) m v ≡ or_of m (not_of v)
or-not [] v = refl
or-not (x ∷ m) [] = refl
or-not (x ∷ m) (y ∷ v) = grind (arith, or-not m v)

pub by_parts : IsByParts
by_parts = record {
  is_true = true-both;
  is_not_false = λ m v. not_false-both m v ∙ or-not m v;
  is_null = null-both;
}

-- ---- row by row

nullable-rows : {T : Type 0} (rows : List T) (value valid : T → Bool) (test : T → Option Bool) → ((row : T) → nullable_value (value row) (valid row) ≡ test row) → nullable (map value rows) (Some (map valid rows)) ≡ map test rows
nullable-rows [] value valid test same = refl
nullable-rows {T} (r ∷ rows) value valid test same = grind (arith, nullable-rows rows value valid test same, same r)

somes-rows : {T : Type 0} (rows : List T) (value : T → Bool) → nullable (map value rows) None ≡ map (λ row. Some (value row)) rows
somes-rows [] value = refl
somes-rows (r ∷ rows) value = ap (λ (xs : List (Option Bool)). Some (value r) ∷ xs) (somes-rows rows value)

table-rows : {T : Type 0} (t : Option Bool → Option Bool → Option Bool) (rows : List T) (f g : T → Option Bool) → combined_nullable t (map f rows) (map g rows) ≡ map (λ row. t (f row) (g row)) rows
table-rows t [] f g = refl
table-rows t (r ∷ rows) f g = ap (λ (xs : List (Option Bool)). t (f r) (g r) ∷ xs) (table-rows t rows f g)

map-rows : {T A : Type 0} (h : Option Bool → A) (rows : List T) (f : T → Option Bool) → map h (map f rows) ≡ map (λ row. h (f row)) rows
map-rows h [] f = refl
map-rows {T} {A} h (r ∷ rows) f = ap (λ (xs : List A). h (f r) ∷ xs) (map-rows h rows f)

pub row_by_row : {T : Type 0} → IsRowByRow T
row_by_row = record {
  with_validity = nullable-rows;
  all_valid = somes-rows;
  and = table-rows and_kleene;
  or = table-rows or_kleene;
  not = map-rows not_kleene;
  kept = λ rows f. ap (chosen rows) (map-rows is_true rows f) ∙ chosen_by_test rows (λ row. is_true (f row));
}
