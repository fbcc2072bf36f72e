use Rattle.std.proofs.Common.{length}
use Rattle.uses.proofs.planner.+stopped_early.Given as goal

abbrev pub decreases-stopped_early : goal.decreases-stopped_early
decreases-stopped_early l = length l.rest.now
