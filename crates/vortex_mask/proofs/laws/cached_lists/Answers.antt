use Rattle.vortex_mask.proofs.Common.{AreRuns-runs_from, runs_are_ranges}
use Rattle.vortex_mask.proofs.laws.cached_lists.Goals as goal

pub returns-in-Values-clause-lent : goal.returns-in-Values-clause-lent
returns-in-Values-clause-lent c = runs_are_ranges _ _ (AreRuns-runs_from _)

pub returns-in_default-clause-lent : goal.returns-in_default-clause-lent
returns-in_default-clause-lent c = runs_are_ranges _ _ (AreRuns-runs_from _)
