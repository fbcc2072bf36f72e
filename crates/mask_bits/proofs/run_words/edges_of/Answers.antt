use Rattle.mask_bits.proofs.Common.{arith, runs_between}
use Rattle.mask_bits.proofs.RunWordLemmas.{first_begins, AreEdges-first}
use Rattle.mask_bits.proofs.run_words.edges_of.Goals as goal

pub returns-then-begun-clause-runs : goal.returns-then-begun-clause-runs
unfolding runs_between
returns-then-begun-clause-runs c = grind (arith)

pub returns-clause-runs : goal.returns-clause-runs
returns-clause-runs c = grind (arith, first_begins)

pub returns-clause-edges : goal.returns-clause-edges
returns-clause-edges c = grind (arith, AreEdges-first)
