-- `dedup_by` tells each call by the values that it was shown and those that it left.
use Rattle.vortex_mask.proofs.Common.{nat_eq, sym, ◌∙◌, if◌then◌else◌}
use Rattle.vortex_mask.proofs.Masks.MergeLemmas.{runs-merged}
use Rattle.vortex_mask.proofs.mask.from_slices.merge_touching.Goals as goal

pub returns : goal.returns
returns c = record {
  runs = runs-merged _ (λ s x k b t x' k' h.
      let met = h.called.met in
      record {
        touch = met.0 ∙ (λ i. nat_eq (h.shows.0 i).0 (h.shows.1 i).1);
        range = sym h.leaves.0 ∙ met.1.1 ∙ h.shows.0;
        run = sym h.leaves.1 ∙ met.1.0 ∙ (λ i. if b then ((h.shows.1 i).0, (h.shows.0 i).1) else h.shows.1 i);
      }) _ _ _ c.dedup_by.ensures.filtered;
}
