use Rattle.vortex_mask.proofs.Common.{length, ap, ◌∙◌, Packed, values, word_steps, length-bitmap}
use Rattle.vortex_mask.proofs.Kernels.StepLemmas.{counted-as}
use Rattle.vortex_mask.proofs.Kernels.WordKernelLemmas.{narrowed-values}
use Rattle.vortex_mask.proofs.intersect_by_rank.kernels.bit_buffers.narrow_words_with.Goals as goal

pub narrow_by_bits_with-requires-clause-fitting : goal.narrow_by_bits_with-requires-clause-fitting
narrow_by_bits_with-requires-clause-fitting g c =
    ap (λ (p : Packed). length (values p)) c.over.ensures.bits ∙ length-bitmap c.args.ranks.now c.args.offset c.args.len ∙ c.requires.fitting

pub returns-clause-list : goal.returns-clause-list
returns-clause-list g c =
    c.narrow_rest.ensures.list
    ∙ narrowed-values c.args.chunks.now (record { bytes = c.args.ranks.now; offset = c.args.offset; len = c.args.len }) (length-bitmap c.args.ranks.now c.args.offset c.args.len ∙ c.requires.fitting)

pub returns-clause-steps : goal.returns-clause-steps
returns-clause-steps g c =
    counted-as _ _ _ c.narrow_rest.ensures.steps
    (ap (word_steps c.args.chunks.now)
    (narrowed-values c.args.chunks.now (record { bytes = c.args.ranks.now; offset = c.args.offset; len = c.args.len }) (length-bitmap c.args.ranks.now c.args.offset c.args.len ∙ c.requires.fitting)))
