use Rattle.mask_bits.proofs.Common.{IsNonDecreasing, subst, sym, values}
use Rattle.mask_bits.proofs.CountBeforeLemmas.{counts_rise}
use Rattle.mask_bits.proofs.ranks.Ranks.block_of.Goals as goal

pub count_up_to-past-requires : goal.count_up_to-past-requires
count_up_to-past-requires c = subst IsNonDecreasing (sym c.deref.ensures.value) (counts_rise (values c.self.inside.buffer) c.self.inside.before.items c.self.invariant)
