use Rattle.vortex_mask.proofs.Common.{◌+◌, ◌∙◌, arith, padded_part-whole}
use Rattle.vortex_mask.proofs.intersect_by_rank.steps.Steps.two_words.Goals as goal

pub returns-clause-first : goal.returns-clause-first
returns-clause-first c = c.word.ensures ∙ padded_part-whole c.args.chunks.now c.args.i (omega arith)

pub returns-clause-second : goal.returns-clause-second
returns-clause-second c = c.word-2.ensures ∙ padded_part-whole c.args.chunks.now (c.args.i + 1) (omega arith)
