use Rattle.vortex_mask.proofs.Common.{arith, get_or, le_or_l, le_or_r}
use Rattle.vortex_mask.proofs.Deposits.DepositLemmas.{Deposits-none}
use Rattle.vortex_mask.proofs.intersect_by_rank.deposit.PortableDepositBits.deposit_two.Goals as goal

pub returns-then-sources-eq0-clause-first : goal.returns-then-sources-eq0-clause-first
returns-then-sources-eq0-clause-first c = Deposits-none _ _ (omega (arith, c.if-sources-eq0.true, le_or_l (get_or c.args.sources 0 0) (get_or c.args.sources 1 0)))

pub returns-then-sources-eq0-clause-second : goal.returns-then-sources-eq0-clause-second
returns-then-sources-eq0-clause-second c = Deposits-none _ _ (omega (arith, c.if-sources-eq0.true, le_or_r (get_or c.args.sources 0 0) (get_or c.args.sources 1 0)))
