use Rattle.vortex_mask.proofs.Common.{◌<◌, ◌≤◌, Bool, false, List, set, option_or, Some, refl, ap, ◌∙◌, arith}
use Rattle.vortex_mask.proofs.Masks.ExcludedLemmas.{without-none, without-set, without-past}
use Rattle.vortex_mask.proofs.Masks.FaultLemmas.{first_past-within, first_past-more}
use Rattle.vortex_mask.proofs.mask.from_indices.exclude.Goals as goal

pub loop-index-init : goal.loop-index-init
loop-index-init g c = record {
  covered = c.requires.covered;
  list = c.requires.all ∙ without-none c.args.len;
  past = refl;
}

pub loop-index-preserved-then-index-len : goal.loop-index-preserved-then-index-len
loop-index-preserved-then-index-len g c =
    let n = c.args.len in
    let x = c.in-Some.index in
    let xs = c.loop-index.yielded in
    let within : x < n = c.if-index-len.true in
    record {
      covered = omega (arith, c.loop-index.invariant.covered, c.unset_value.auto.bytes);
      list = c.unset_value.ensures ∙ ap (λ (m : List Bool). set m x false) c.loop-index.invariant.list ∙ without-set n x xs within;
      past = c.loop-index.invariant.past ∙ first_past-within n x xs within;
    }

pub loop-index-preserved : goal.loop-index-preserved
loop-index-preserved g c =
    let n = c.args.len in
    let x = c.in-Some.index in
    let xs = c.loop-index.yielded in
    let past : n ≤ x = omega (arith, c.if-index-len.false) in
    record {
      covered = c.loop-index.invariant.covered;
      list = c.loop-index.invariant.list ∙ without-past n x xs past;
      past = c.or-past_end.ensures ∙ ap (λ o. option_or o (Some x)) c.loop-index.invariant.past ∙ first_past-more n x xs past;
    }
