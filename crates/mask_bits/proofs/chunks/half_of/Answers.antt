use Rattle.mask_bits.proofs.Common.{◌*◌, ◌-◌, ◌/◌, ◌^◌, ◌<◌, ℕ, subst, arith, IsPlaceOf}
use Rattle.mask_bits.proofs.Lists.Places.HalfLemmas.{count_below-masked, count_below-shifted, place_in_upper}
use Rattle.mask_bits.proofs.chunks.half_of.Goals as goal

pub returns-then-n-below-clause-within : goal.returns-then-n-below-clause-within
returns-then-n-below-clause-within c = omega (arith, count_below-masked c.args.word c.args.half (omega (arith, c.requires.few)), c.if-n-below.true)

pub returns-else-n-below-clause-within : goal.returns-else-n-below-clause-within
returns-else-n-below-clause-within c =
    omega (arith, count_below-masked c.args.word c.args.half (omega (arith, c.requires.few)), count_below-shifted c.args.word c.args.half c.args.half (2 * c.args.half) (omega arith) (omega (arith, c.requires.few)), c.requires.within, c.if-n-below.false)

pub returns-else-n-below-clause-place : goal.returns-else-n-below-clause-place
returns-else-n-below-clause-place c = λ p h is.
    let few : c.args.half < 64 = omega (arith, c.requires.few) in
    let below = count_below-masked c.args.word c.args.half few in
    place_in_upper c.args.word c.args.n c.args.half p (omega (arith, c.requires.few))
    (subst (λ (k : ℕ). IsPlaceOf (c.args.word / 2 ^ c.args.half) (c.args.n - k) p) below is)
    (omega (arith, below, c.if-n-below.false))
