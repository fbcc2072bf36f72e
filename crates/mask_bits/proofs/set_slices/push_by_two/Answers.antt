use Rattle.mask_bits.proofs.Common.{List, ℕ, ◌≡◌, ap, ◌∙◌, ◌+◌, ◌++◌, length, take, count_ones, arith, sym, length-append, runs_between}
use Rattle.mask_bits.proofs.Lists.Places.PushLemmas.{ArePushed-all, ArePushed-none}
use Rattle.mask_bits.proofs.RunWordLemmas.{length-runs_between}
use Rattle.mask_bits.proofs.set_slices.push_by_two.Goals as goal

pub loop-left-init : goal.loop-left-init
loop-left-init c =
    let first = c.push_first-first.ensures in
    let is = c.push_first-left.ensures in
    record { pushed = is.pushed _ (first.pushed _ (ArePushed-none _ _)); edges = is.edges; room = is.room ∙ first.room }

pub loop-left-preserved : goal.loop-left-preserved
loop-left-preserved c =
    let so_far = c.loop-left.invariant in
    let next = c.push_first-next.ensures in
    let is = c.push_first-left-in-loop-left.ensures in
    record { pushed = is.pushed _ (next.pushed _ so_far.pushed); edges = is.edges; room = is.room ∙ next.room ∙ so_far.room }

pub returns-clause-runs : goal.returns-clause-runs
returns-clause-runs c =
    let a = c.args in
    let l = c.loop-left in
    let e = a.edges in
    let all : List (ℕ × ℕ) = a.ranges.now.items ++ runs_between a.base e.first e.starts e.ends in
    let end : length all ≡ c.len.result + count_ones e.ends = grind (arith, length-append, length-runs_between) in
    c.truncate.ensures.items ∙ ap (λ n. take n l.ranges.items) (sym end) ∙ ArePushed-all all l.ranges.items _ (omega (arith, end)) l.invariant.pushed
