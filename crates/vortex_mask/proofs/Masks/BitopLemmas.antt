-- Boolean calls where one list is of one value.
use Rattle.vortex_mask.proofs.Common.{◌≡◌, ℕ, ◌-◌, Bool, true, false, not, ◌&&◌, ◌||◌, List, length, refl, ◌∙◌, arith, if◌then◌else◌, and-true, and-false, or-true, or-false, and_of, or_of, not_of, and_not_of, count, repeated, combined_itself, length-combined, length-not_of, combined-left, combined-right, map-itself, map-one, not_of-repeated, count_of_complement}

pub and_of-left : (v : Bool) (n : ℕ) (b : List Bool) → n ≡ length b → and_of (repeated n v) b ≡ (if v then b else repeated n false)
and_of-left true n b e = rw e (combined-left (λ x y. x && y) true (λ y. y) (λ y. refl) b ∙ map-itself b)
and_of-left false n b e = rw e (combined-left (λ x y. x && y) false (λ y. false) (λ y. refl) b ∙ map-one false b)

pub and_of-right : (v : Bool) (n : ℕ) (a : List Bool) → n ≡ length a → and_of a (repeated n v) ≡ (if v then a else repeated n false)
and_of-right true n a e = rw e (combined-right (λ x y. x && y) true (λ x. x) and-true a ∙ map-itself a)
and_of-right false n a e = rw e (combined-right (λ x y. x && y) false (λ x. false) and-false a ∙ map-one false a)

pub or_of-left : (v : Bool) (n : ℕ) (b : List Bool) → n ≡ length b → or_of (repeated n v) b ≡ (if v then repeated n true else b)
or_of-left true n b e = rw e (combined-left (λ x y. x || y) true (λ y. true) (λ y. refl) b ∙ map-one true b)
or_of-left false n b e = rw e (combined-left (λ x y. x || y) false (λ y. y) (λ y. refl) b ∙ map-itself b)

pub or_of-right : (v : Bool) (n : ℕ) (a : List Bool) → n ≡ length a → or_of a (repeated n v) ≡ (if v then repeated n true else a)
or_of-right true n a e = rw e (combined-right (λ x y. x || y) true (λ x. true) or-true a ∙ map-one true a)
or_of-right false n a e = rw e (combined-right (λ x y. x || y) false (λ x. x) or-false a ∙ map-itself a)

pub and_not_of-left : (v : Bool) (n : ℕ) (b : List Bool) → n ≡ length b → and_not_of (repeated n v) b ≡ (if v then not_of b else repeated n false)
and_not_of-left true n b e = rw e (combined-left (λ x y. x && not y) true not (λ y. refl) b)
and_not_of-left false n b e = rw e (combined-left (λ x y. x && not y) false (λ y. false) (λ y. refl) b ∙ map-one false b)

pub and_not_of-right : (v : Bool) (n : ℕ) (a : List Bool) → n ≡ length a → and_not_of a (repeated n v) ≡ (if v then repeated n false else a)
and_not_of-right true n a e = rw e (combined-right (λ x y. x && not y) true (λ x. false) and-false a ∙ map-one false a)
and_not_of-right false n a e = rw e (combined-right (λ x y. x && not y) false (λ x. x) and-true a ∙ map-itself a)

-- what is false is true in the complement
pub count-not_of : (m : List Bool) → count (not_of m) ≡ length m - count m
count-not_of m = omega (arith, count_of_complement m)

pub ruleset bitop_facts = (count-not_of, length-combined, length-not_of, combined_itself, not_of-repeated, and_of-left, and_of-right, or_of-left, or_of-right, and_not_of-left, and_not_of-right)
