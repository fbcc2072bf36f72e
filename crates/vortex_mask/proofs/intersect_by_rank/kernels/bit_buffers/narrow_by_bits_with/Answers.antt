use Rattle.vortex_mask.proofs.Common.{ap, ◌∙◌, arith, word_steps, length-bitmap}
use Rattle.vortex_mask.proofs.Kernels.StepLemmas.{counted-as}
use Rattle.vortex_mask.proofs.Kernels.WordKernelLemmas.{narrowed-values}
use Rattle.vortex_mask.proofs.intersect_by_rank.kernels.bit_buffers.narrow_by_bits_with.Goals as goal

pub narrow_pairs-requires-clause-ranks : goal.narrow_pairs-requires-clause-ranks
narrow_pairs-requires-clause-ranks g c = omega (arith, c.requires.fitting, c.requires.within.fits, length-bitmap c.args.ranks.now.bytes c.args.ranks.now.offset c.args.ranks.now.len)

pub narrow_rest-requires-clause-ranks : goal.narrow_rest-requires-clause-ranks
narrow_rest-requires-clause-ranks g c = omega (arith, c.requires.fitting, c.requires.within.fits, length-bitmap c.args.ranks.now.bytes c.args.ranks.now.offset c.args.ranks.now.len)

pub returns-clause-list : goal.returns-clause-list
returns-clause-list g c = c.narrow_rest.ensures.list ∙ narrowed-values c.args.chunks.now c.args.ranks.now c.requires.fitting

pub returns-clause-steps : goal.returns-clause-steps
returns-clause-steps g c = counted-as _ _ _ c.narrow_rest.ensures.steps (ap (word_steps c.args.chunks.now) (narrowed-values c.args.chunks.now c.args.ranks.now c.requires.fitting))
