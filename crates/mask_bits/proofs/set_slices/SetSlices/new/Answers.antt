use Rattle.mask_bits.proofs.Common.{Bool, List, ap, sym, subst, runs, AreRuns}
use Rattle.mask_bits.proofs.Lists.Runs.RunLemmas.{AreRuns-runs_from}
use Rattle.mask_bits.proofs.set_slices.SetSlices.new.Goals as goal

pub returns-clause-runs : goal.returns-clause-runs
returns-clause-runs c =
    let m = c.args.chunks in
    subst (λ (xs : List Bool). AreRuns m (runs xs)) (sym c.first_word-word.ensures.all) (AreRuns-runs_from m)

pub returns-clause-list : goal.returns-clause-list
returns-clause-list c = ap runs c.first_word-word.ensures.all
