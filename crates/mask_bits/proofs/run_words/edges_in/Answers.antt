use Rattle.mask_bits.proofs.Common.{arith}
use Rattle.mask_bits.proofs.RunWordLemmas.{behind-word}
use Rattle.mask_bits.proofs.run_words.edges_in.Goals as goal

pub returns-clause-runs : goal.returns-clause-runs
returns-clause-runs c rest = grind (arith, behind-word c.args.begun.inside c.args.begun.start c.args.base c.args.word c.args.before rest)
