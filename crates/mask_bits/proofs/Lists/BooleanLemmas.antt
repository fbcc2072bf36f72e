-- What holds of lists combined value by value: the laws of truth values, at each place.
use Rattle.mask_bits.proofs.Common.{◌≡◌, ℕ, zero, suc, ◌<◌, Bool, true, false, not, ◌&&◌, ◌||◌, List, [], ◌∷◌, ◌++◌, length, get_or, take, map, refl, ap, arith, map-id, combined, and_of, or_of, not_of, and_not_of, repeated, and_comm, or_comm, and_assoc, or_assoc, and-or_distrib_left, or-and_distrib_left, and-not_self, or-not_self}
use Rattle.mask_bits.specs.Laws.Boolean.{IsFreeOfOrder, DistributesOver, Absorbs, HasComplements, AndNotIsAndOfNot}
use Rattle.mask_bits.specs.Laws.RankIntersection.{RankIntersectionOfAnd, RankIntersectionOfNot}
use Rattle.mask_bits.proofs.Lists.Places.PlaceLemmas.{trues, count-trues}
use Rattle.mask_bits.proofs.Lists.RankLemmas.{narrow, rank_intersection-narrow}

-- ---- at each place

combined-commutes : (f : Bool → Bool → Bool) → ((x y : Bool) → f x y ≡ f y x) → (a b : List Bool) → combined f a b ≡ combined f b a
combined-commutes f same [] [] = refl
combined-commutes f same [] (y ∷ b) = refl
combined-commutes f same (x ∷ a) b = grind (arith, combined-commutes f same a)

combined-regroups : (f : Bool → Bool → Bool) → ((x y z : Bool) → f (f x y) z ≡ f x (f y z)) → (a b c : List Bool) → combined f (combined f a b) c ≡ combined f a (combined f b c)
combined-regroups f same [] b c = refl
combined-regroups f same (v ∷ a) b c = grind (arith, combined-regroups f same a)

combined-distributes : (f g : Bool → Bool → Bool) → ((x y z : Bool) → f x (g y z) ≡ g (f x y) (f x z)) → (a b c : List Bool) → combined f a (combined g b c) ≡ combined g (combined f a b) (combined f a c)
combined-distributes f g same [] b c = refl
combined-distributes f g same (x ∷ a) [] c = refl
combined-distributes f g same (x ∷ a) (y ∷ b) c = grind (arith, combined-distributes f g same a b)

combined-absorbs : (f g : Bool → Bool → Bool) → ((x y : Bool) → f x (g x y) ≡ x) → (a b : List Bool) → length a ≡ length b → combined f a (combined g a b) ≡ a
combined-absorbs f g same [] b len = refl
combined-absorbs f g same (v ∷ a) b len = grind (arith, combined-absorbs f g same a)

combined-not : (f : Bool → Bool → Bool) (v : Bool) → ((x : Bool) → f x (not x) ≡ v) → (a : List Bool) → combined f a (not_of a) ≡ repeated (length a) v
unfolding repeated
combined-not f v same [] = refl
combined-not f v same (x ∷ a) = grind (arith, combined-not f v same a)

pub length-combined : (f : Bool → Bool → Bool) (a b : List Bool) → length a ≡ length b → length (combined f a b) ≡ length a
length-combined f [] b len = refl
length-combined f (v ∷ a) b len = grind (arith, length-combined f a)

pub length-not_of : (a : List Bool) → length (not_of a) ≡ length a
length-not_of [] = refl
length-not_of (x ∷ a) = ap suc (length-not_of a)

not_not : (a : List Bool) → not_of (not_of a) ≡ a
not_not [] = refl
not_not (v ∷ a) = grind (arith, not_not a)

-- an operation that takes no account of its second list
pub combined_itself : (a : List Bool) → combined (λ x y. not x) a a ≡ not_of a
combined_itself [] = refl
combined_itself (x ∷ a) = ap (λ (xs : List Bool). not x ∷ xs) (combined_itself a)

-- the value at a place
pub get_or-combined : (f : Bool → Bool → Bool) (a b : List Bool) (i : ℕ) (d : Bool) → i < length a → length a ≡ length b → get_or (combined f a b) i d ≡ f (get_or a i d) (get_or b i d)
get_or-combined f [] b i d h len = absurd (omega arith)
get_or-combined f (v ∷ a) b i d h len = grind (arith, get_or-combined f a)

-- ---- where one side is a list of one value

-- g of the other side, where that is what the value makes of it
pub combined-left : (f : Bool → Bool → Bool) (v : Bool) (g : Bool → Bool) → ((y : Bool) → f v y ≡ g y) → (b : List Bool) → combined f (repeated (length b) v) b ≡ map g b
unfolding repeated
combined-left f v g same [] = refl
combined-left f v g same (y ∷ b) = grind (arith, combined-left f v g same b)

pub combined-right : (f : Bool → Bool → Bool) (v : Bool) (g : Bool → Bool) → ((x : Bool) → f x v ≡ g x) → (a : List Bool) → combined f a (repeated (length a) v) ≡ map g a
unfolding repeated
combined-right f v g same [] = refl
combined-right f v g same (x ∷ a) = grind (arith, combined-right f v g same a)

-- the values of two parts
pub combined-append : (f : Bool → Bool → Bool) (a b c d : List Bool) → length a ≡ length b → combined f (a ++ c) (b ++ d) ≡ combined f a b ++ combined f c d
combined-append f [] [] c d len = refl
combined-append f [] (y ∷ b) c d len = absurd (omega arith)
combined-append f (x ∷ a) [] c d len = absurd (omega arith)
combined-append f (x ∷ a) (y ∷ b) c d len = ap (λ (xs : List Bool). f x y ∷ xs) (combined-append f a b c d (omega arith))

-- the first values
pub combined-take : (f : Bool → Bool → Bool) (n : ℕ) (a b : List Bool) → take n (combined f a b) ≡ combined f (take n a) (take n b)
combined-take f zero a b = refl
combined-take f (suc n) a b = grind (arith, combined-take f n)

-- the other side itself, or one value alone
pub map-itself : (m : List Bool) → map (λ (x : Bool). x) m ≡ m
map-itself m = map-id m

pub map-one : (v : Bool) (m : List Bool) → map (λ (x : Bool). v) m ≡ repeated (length m) v
unfolding repeated
map-one v [] = refl
map-one v (x ∷ m) = ap (λ (xs : List Bool). v ∷ xs) (map-one v m)

pub not_of-repeated : (n : ℕ) (v : Bool) → not_of (repeated n v) ≡ repeated n (not v)
unfolding repeated
not_of-repeated zero v = refl
not_of-repeated (suc n) v = ap (λ (xs : List Bool). not v ∷ xs) (not_of-repeated n v)

-- ---- the laws

pub and_is_free_of_order : IsFreeOfOrder and_of
and_is_free_of_order = record { commutes = combined-commutes (λ x y. x && y) and_comm; regroups = combined-regroups (λ x y. x && y) and_assoc }

pub or_is_free_of_order : IsFreeOfOrder or_of
or_is_free_of_order = record { commutes = combined-commutes (λ x y. x || y) or_comm; regroups = combined-regroups (λ x y. x || y) or_assoc }

pub and_distributes : DistributesOver and_of or_of
and_distributes = combined-distributes (λ x y. x && y) (λ x y. x || y) and-or_distrib_left

pub or_distributes : DistributesOver or_of and_of
or_distributes = combined-distributes (λ x y. x || y) (λ x y. x && y) or-and_distrib_left

pub and_absorbs_or : Absorbs and_of or_of
and_absorbs_or = combined-absorbs (λ x y. x && y) (λ x y. x || y) (λ x y. grind arith)

pub or_absorbs_and : Absorbs or_of and_of
or_absorbs_and = combined-absorbs (λ x y. x || y) (λ x y. x && y) (λ x y. grind arith)

pub complements : HasComplements
complements = record {
  none_is_both = combined-not (λ x y. x && y) false and-not_self;
  each_is_one = combined-not (λ x y. x || y) true or-not_self;
  twice = not_not;
}

pub and_not_is_and_of_not : AndNotIsAndOfNot
and_not_is_and_of_not [] b = refl
and_not_is_and_of_not (v ∷ a) b = grind (arith, and_not_is_and_of_not a)

-- ---- under a rank intersection

and-narrow : (a b c : List Bool) → length b ≡ trues a → length c ≡ trues a → and_of (narrow a b) (narrow a c) ≡ narrow a (and_of b c)
and-narrow [] b c fits fits' = refl
and-narrow (v ∷ a) b c fits fits' = grind (arith, and-narrow a)

pub rank_intersection_of_and : RankIntersectionOfAnd
rank_intersection_of_and a b c fits fits' = grind (arith, length-combined, rank_intersection-narrow, and-narrow, count-trues)

not-narrow : (a b : List Bool) → length b ≡ trues a → narrow a (not_of b) ≡ and_not_of a (narrow a b)
not-narrow [] b fits = refl
not-narrow (v ∷ a) b fits = grind (arith, not-narrow a)

pub rank_intersection_of_not : RankIntersectionOfNot
rank_intersection_of_not a b fits = grind (arith, rank_intersection-narrow, length-not_of, not-narrow, count-trues)

-- how long the results of boolean calls are
pub ruleset length_facts = (length-combined, length-not_of, combined_itself)
