-- What the result of a boolean call caches: where it is one of its operands, what that one caches.
use Rattle.vortex_mask.specs.Caches.{caches}
use Rattle.vortex_mask.specs.MaskValues.{Caches, no_caches}
use Rattle.vortex_mask.specs.declared.mask.Mask.{Mask}
use Rattle.vortex_mask.specs.declared.mask.Mask.TheVariants.{AllTrue, AllFalse, Values}

-- with an all-true mask, `and` is the other one
abbrev pub and_caches : Mask → Mask → Caches
and_caches (AllTrue n) b = caches b
and_caches (Values v) (AllTrue n) = caches (Values v)
and_caches a b = no_caches

-- with an all-false mask, `or` is the other one
abbrev pub or_caches : Mask → Mask → Caches
or_caches (AllFalse n) b = caches b
or_caches (Values v) (AllFalse n) = caches (Values v)
or_caches a b = no_caches

-- without the values of an all-false mask, a mask is itself
abbrev pub and_not_caches : Mask → Mask → Caches
and_not_caches a (AllFalse n) = caches a
and_not_caches a b = no_caches
