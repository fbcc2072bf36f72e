-- What holds of `and`, `or`, and-not and complements.
use Rattle.std.specs.Prelude.{◌≡◌, Bool, false, List, length, true}
use Rattle.mask_bits.specs.Lists.{and_of, or_of, not_of, and_not_of}
use Rattle.mask_bits.specs.Positions.{repeated}

-- an operation on two lists that takes them in either order, and three in either grouping
pub record IsFreeOfOrder (join : List Bool → List Bool → List Bool) : Type 0 where
  pub commutes : (a b : List Bool) → join a b ≡ join b a
  pub regroups : (a b c : List Bool) → join (join a b) c ≡ join a (join b c)

-- an operation on two lists that may be brought inside another
abbrev pub DistributesOver : (List Bool → List Bool → List Bool) → (List Bool → List Bool → List Bool) → Type 0
DistributesOver join other = (a b c : List Bool) → join a (other b c) ≡ other (join a b) (join a c)

-- an operation on two lists that drops what another adds
abbrev pub Absorbs : (List Bool → List Bool → List Bool) → (List Bool → List Bool → List Bool) → Type 0
Absorbs join other = (a b : List Bool) → length a ≡ length b → join a (other a b) ≡ a

-- what a list and its complement are together
pub record HasComplements : Type 0 where
  pub none_is_both : (a : List Bool) → and_of a (not_of a) ≡ repeated (length a) false
  pub each_is_one : (a : List Bool) → or_of a (not_of a) ≡ repeated (length a) true
  pub twice : (a : List Bool) → not_of (not_of a) ≡ a

-- and-not is `and` with the complement
abbrev pub AndNotIsAndOfNot : Type 0
AndNotIsAndOfNot = (a b : List Bool) → and_not_of a b ≡ and_of a (not_of b)
