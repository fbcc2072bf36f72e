use Rattle.std.proofs.Common.{refl}
use Rattle.mask_bits.proofs.Lists.Runs.RangeRowLemmas.{chosen_by_ranges}
use Rattle.uses.proofs.lent_lists.choosing_by_ranges.Goals as goal

pub returns : goal.returns
returns g c = λ m len are. chosen_by_ranges c.args.rows.now _ m c.args.ranges.now refl len are
