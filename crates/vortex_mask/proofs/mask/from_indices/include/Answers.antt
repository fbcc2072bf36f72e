use Rattle.vortex_mask.proofs.Common.{◌<◌, ◌≤◌, Bool, true, List, set, option_or, Some, refl, ap, ◌∙◌, arith, length, length-true_at}
use Rattle.vortex_mask.proofs.Masks.ExcludedLemmas.{with-none, with-set, with-past}
use Rattle.vortex_mask.proofs.Masks.FaultLemmas.{first_past-within, first_past-more}
use Rattle.vortex_mask.proofs.mask.from_indices.include.Goals as goal

pub loop-index-init : goal.loop-index-init
loop-index-init g c = record {
  list = c.requires.none ∙ with-none c.args.len;
  past = refl;
}

pub set-requires : goal.set-requires
set-requires g c = omega (arith, ap length c.loop-index.invariant.list, length-true_at c.args.len c.loop-index.yielded, c.if-index-len.true)

pub loop-index-preserved-then-index-len : goal.loop-index-preserved-then-index-len
loop-index-preserved-then-index-len g c =
    let n = c.args.len in
    let x = c.in-Some.index in
    let xs = c.loop-index.yielded in
    let within : x < n = c.if-index-len.true in
    record {
      list = c.set.ensures ∙ ap (λ (m : List Bool). set m x true) c.loop-index.invariant.list ∙ with-set n x xs within;
      past = c.loop-index.invariant.past ∙ first_past-within n x xs within;
    }

pub loop-index-preserved : goal.loop-index-preserved
loop-index-preserved g c =
    let n = c.args.len in
    let x = c.in-Some.index in
    let xs = c.loop-index.yielded in
    let past : n ≤ x = omega (arith, c.if-index-len.false) in
    record {
      list = c.loop-index.invariant.list ∙ with-past n x xs past;
      past = c.or-outside.ensures ∙ ap (λ o. option_or o (Some x)) c.loop-index.invariant.past ∙ first_past-more n x xs past;
    }
