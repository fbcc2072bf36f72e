use Rattle.vortex_mask.proofs.Common.{◌∙◌, ◌*◌, Bool, List, ℕ, length, sym, subst, ap, arith, take_at, IfOk-weaker, bitmap, values, AreRanges}
use Rattle.vortex_mask.proofs.Masks.SoundRangeLemmas.{nonempty-no_fault, within-no_fault, AreRanges-set}
use Rattle.vortex_mask.proofs.mask.from_slices.buffer_of.Goals as goal

pub set_ranges-requires-clause-some : goal.set_ranges-requires-clause-some
set_ranges-requires-clause-some c = nonempty-no_fault c.args.len c.args.ranges.now c.requires

pub set_ranges-requires-clause-within : goal.set_ranges-requires-clause-within
set_ranges-requires-clause-within c =
    within-no_fault c.args.len (8 * length c.deref_mut.result.now) c.args.ranges.now c.requires (omega (arith, c.started_words.ensures, c.deref_mut.ensures.len, c.in_ok-bytes.ensures.len))

pub returns-clause-list : goal.returns-clause-list
returns-clause-list c =
    let rs = c.args.ranges.now in
    let len = c.args.len in
    let bytes = c.set_ranges.new.bytes in
    let back = take_at bytes _ c.in_ok-bytes.bytes.len (omega (arith, c.set_ranges.auto.bytes, c.deref_mut.ensures.len)) in
    IfOk-weaker c.from_list.result _ _ (λ b is.
    subst (λ (m : List Bool). AreRanges m rs) (sym (ap values is ∙ ap (λ (xs : List ℕ). bitmap xs 0 len) back)) (AreRanges-set len rs bytes c.requires c.set_ranges.ensures)) c.from_list.ensures.buffer
