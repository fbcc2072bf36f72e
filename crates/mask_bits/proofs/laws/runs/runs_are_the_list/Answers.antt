use Rattle.mask_bits.proofs.Lists.Runs.RunListLemmas.{runs_are_the_list}
use Rattle.mask_bits.proofs.laws.runs.runs_are_the_list.Goals as goal

pub returns : goal.returns
returns c = record { only = runs_are_the_list; given = λ m. runs_are_the_list m c.args.ranges.now }
