use Rattle.mask_bits.proofs.Common.{arith, runs_between}
use Rattle.mask_bits.proofs.Lists.Places.PushLemmas.{ArePushed-more}
use Rattle.mask_bits.proofs.RunWordLemmas.{no_runs_between}
use Rattle.mask_bits.proofs.set_slices.push_first.Goals as goal

pub returns-clause-pushed : goal.returns-clause-pushed
returns-clause-pushed c all so_far =
    grind (arith, no_runs_between, ArePushed-more c.args.edges.ends all c.args.ranges.now.items (runs_between c.args.base c.args.edges.first c.args.edges.starts c.args.edges.ends) (runs_between c.args.base c.pop.result.1.first c.pop.result.1.starts c.pop.result.1.ends) c.pop.result.0)
