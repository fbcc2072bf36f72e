use Rattle.vortex_mask.proofs.Common.{ap, ◌∙◌, arith, word_steps, count-le-length}
use Rattle.vortex_mask.proofs.Kernels.StepLemmas.{counted-as}
use Rattle.vortex_mask.proofs.Kernels.WordKernelLemmas.{narrowed-listed}
use Rattle.vortex_mask.proofs.intersect_by_rank.kernels.rank_indices.narrow_at_ranks_with.Goals as goal

pub narrow_rest-requires-clause-ranks : goal.narrow_rest-requires-clause-ranks
narrow_rest-requires-clause-ranks g c = omega (arith, c.requires.fits, count-le-length c.args.chunks.now)

pub returns-then-len-lt-SOME_WORDS-clause-list : goal.returns-then-len-lt-SOME_WORDS-clause-list
returns-then-len-lt-SOME_WORDS-clause-list g c = c.narrow_by_list.ensures.list ∙ narrowed-listed _ _ c.requires.ascending c.requires.within

pub returns-then-len-lt-SOME_WORDS-clause-steps : goal.returns-then-len-lt-SOME_WORDS-clause-steps
returns-then-len-lt-SOME_WORDS-clause-steps g c = counted-as _ _ _ c.narrow_by_list.ensures.steps (ap (word_steps c.args.chunks.now) (narrowed-listed _ _ c.requires.ascending c.requires.within))

pub returns-clause-list : goal.returns-clause-list
returns-clause-list g c = c.narrow_rest.ensures.list ∙ narrowed-listed _ _ c.requires.ascending c.requires.within

pub returns-clause-steps : goal.returns-clause-steps
returns-clause-steps g c = counted-as _ _ _ c.narrow_rest.ensures.steps (ap (word_steps c.args.chunks.now) (narrowed-listed _ _ c.requires.ascending c.requires.within))
