-- What holds of buffers of truth values with nulls, by their parts.
use Rattle.mask_bits.proofs.Common.{◌≡◌, ℕ, Bor, IfSome, subst, Bool, List, length, Option, None, Some, refl, sym, ap, ◌∙◌, option_map, repeated, Result, IfOk, IfOk-weaker, Packed, IsWithinBytes, values, bitmap, combined}
use Rattle.std.specs.Option.{ForSome}
use Rattle.mask_bits.specs.Nullable.{nullable, combined_nullable, is_true_of, is_valid_of}
use Rattle.mask_bits.specs.NullableBuffer.{AreInStep, NullablePacked, nullable_values}
use Rattle.mask_bits.proofs.CombineLemmas.{values-parts, within-parts}
use Rattle.mask_bits.proofs.Lists.BooleanLemmas.{length-combined}
use Rattle.mask_bits.proofs.Lists.CountLemmas.{length-repeated}
use Rattle.mask_bits.proofs.Lists.NullableLemmas.{length-somes, length-both, length-combined_nullable, nullable-parts}

pub length-nullable_values : (b : Packed) (v : Option Packed) → AreInStep b v → length (nullable (values b) (option_map values v)) ≡ length (values b)
length-nullable_values b None fits = length-somes (values b)
length-nullable_values b (Some v) fits = length-both (values b) (values v) (fits v refl)

pub ruleset buffer_facts = (length-nullable_values)

-- what is said of a clone, of two combined and of one value, by their lists
pub cloned-list : {E : Type 0} (r : Result Packed E) (x : Packed) → IfOk r (λ b. b ≡ x) → IfOk r (λ b. values b ≡ values x)
cloned-list r x same = IfOk-weaker r (λ b. b ≡ x) (λ b. values b ≡ values x) (λ b is. ap values is) same

pub cloned-len : {E : Type 0} (r : Result Packed E) (x : Packed) → IfOk r (λ b. b ≡ x) → IfOk r (λ b. length (values b) ≡ length (values x))
cloned-len r x same = IfOk-weaker r (λ b. b ≡ x) (λ b. length (values b) ≡ length (values x)) (λ b is. ap (λ p. length (values p)) is) same

pub combined-len : {E : Type 0} (r : Result Packed E) (f : Bool → Bool → Bool) (m v : List Bool) → length v ≡ length m → IfOk r (λ b. values b ≡ combined f m v) → IfOk r (λ b. length (values b) ≡ length m)
combined-len r f m v len is = IfOk-weaker r (λ b. values b ≡ combined f m v) (λ b. length (values b) ≡ length m) (λ b same. ap length same ∙ length-combined f m v (sym len)) is

pub repeated-len : {E : Type 0} (r : Result Packed E) (n : ℕ) (v : Bool) → IfOk r (λ b. values b ≡ repeated n v) → IfOk r (λ b. length (values b) ≡ n)
repeated-len r n v is = IfOk-weaker r (λ b. values b ≡ repeated n v) (λ b. length (values b) ≡ n) (λ b same. ap length same ∙ length-repeated n v) is

-- ---- lent as plain bytes

pub bitmap-both : (x v : Packed) (xs vs : List ℕ) (p q n : ℕ) → xs ≡ x.bytes → p ≡ x.offset → vs ≡ v.bytes → q ≡ v.offset → length (values v) ≡ length (values x) → n ≡ length (values x)
    → nullable (bitmap xs p n) (Some (bitmap vs q n)) ≡ nullable (values x) (Some (values v))
bitmap-both x v xs vs p q n is_xs is_p is_vs is_q len is_n = rw (values-parts x xs p n is_xs is_p is_n, values-parts v vs q n is_vs is_q (is_n ∙ sym len)) refl

pub bitmap-alone : (x : Packed) (xs : List ℕ) (p n : ℕ) → xs ≡ x.bytes → p ≡ x.offset → n ≡ length (values x) → nullable (bitmap xs p n) None ≡ nullable (values x) None
bitmap-alone x xs p n is_xs is_p is_n = rw (values-parts x xs p n is_xs is_p is_n) refl

pub within-lent : (v : Packed) (b : Bor (List ℕ)) (q : ℕ) → IsWithinBytes b.now v.offset v.len → q ≡ v.offset → ForSome (Some (b, q)) (λ (x : Bor (List ℕ) × ℕ). IsWithinBytes x.0.now x.1 (length (values v)))
within-lent v b q within is_q x is = subst (λ (y : Option (Bor (List ℕ) × ℕ)). IfSome y (λ x. IsWithinBytes x.0.now x.1 (length (values v)))) is (within-parts v b.now q (length (values v)) within is_q refl)

-- ---- made of where they are true and where they are valid

pub made-list : {E : Type 0} (r : Result NullablePacked E) (x v : Packed) (m : List (Option Bool))
    → IfOk r (λ b. (b.values ≡ x) × (b.validity ≡ Some v)) → values x ≡ is_true_of m → values v ≡ is_valid_of m → IfOk r (λ b. nullable_values b ≡ m)
made-list r x v m made is_values is_validity = IfOk-weaker r (λ b. (b.values ≡ x) × (b.validity ≡ Some v)) (λ b. nullable_values b ≡ m) (λ b is. rw (is.0, is.1, is_values, is_validity) (nullable-parts m)) made

pub made-cleared : {E : Type 0} (r : Result NullablePacked E) (x v : Packed) (m : List (Option Bool))
    → IfOk r (λ b. (b.values ≡ x) × (b.validity ≡ Some v)) → values x ≡ is_true_of m → values v ≡ is_valid_of m → IfOk r (λ b. values b.values ≡ is_true_of (nullable_values b))
made-cleared r x v m made is_values is_validity = IfOk-weaker r (λ b. (b.values ≡ x) × (b.validity ≡ Some v)) (λ b. values b.values ≡ is_true_of (nullable_values b)) (λ b is. rw (is.0, is.1, is_values, is_validity, nullable-parts m) refl) made

pub made-len : {E : Type 0} (r : Result NullablePacked E) (f : Option Bool → Option Bool → Option Bool) (a b : List (Option Bool)) → length a ≡ length b
    → IfOk r (λ n. nullable_values n ≡ combined_nullable f a b) → IfOk r (λ n. length (nullable_values n) ≡ length a)
made-len r f a b len made = IfOk-weaker r (λ n. nullable_values n ≡ combined_nullable f a b) (λ n. length (nullable_values n) ≡ length a) (λ n is. ap length is ∙ length-combined_nullable f a b len) made
