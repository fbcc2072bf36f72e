use Rattle.mask_bits.proofs.RunWordLemmas.{AreEdges-pop, runs_between-pop}
use Rattle.mask_bits.proofs.run_words.pop.Goals as goal

pub returns-clause-first : goal.returns-clause-first
returns-clause-first c some = runs_between-pop c.args.base c.args.edges.first c.args.edges.starts c.args.edges.ends c.requires.fits some c.requires.edges

pub returns-clause-edges : goal.returns-clause-edges
returns-clause-edges c = AreEdges-pop c.args.base c.args.edges.starts c.args.edges.ends c.requires.edges
