use Rattle.mask_bits.proofs.Common.{false, arith}
use Rattle.mask_bits.proofs.RunWordLemmas.{behind-few, begun-all, begun-next, begun-last}
use Rattle.mask_bits.proofs.set_slices.count_runs.Goals as goal

pub loop-i-init : goal.loop-i-init
loop-i-init c = omega (arith, begun-all c.args.chunks.now)

pub overflow_add-count : goal.overflow_add-count
overflow_add-count c =
    omega (arith, begun-next c.loop-i.inside c.word-word.result c.loop-i.i c.args.chunks.now (omega arith) c.word-word.ensures, behind-few false 0 0 c.args.chunks.now)

pub loop-i-preserved : goal.loop-i-preserved
loop-i-preserved c = grind (arith, begun-next)

pub overflow_add-result : goal.overflow_add-result
overflow_add-result c = grind (arith, begun-last, behind-few false 0 0 c.args.chunks.now)

pub returns-clause-runs : goal.returns-clause-runs
returns-clause-runs c = grind (arith, begun-last)

pub returns-clause-fits : goal.returns-clause-fits
returns-clause-fits c = grind (arith, begun-last, behind-few false 0 0 c.args.chunks.now)
