use Rattle.vortex_mask.proofs.Common.{List, ℕ, arith, common_steps, nil_from_length, positions-all_false, positions-full}
use Rattle.vortex_mask.proofs.Masks.MaskLemmas.{variant_facts}
use Rattle.vortex_mask.proofs.Lists.PlaceListLemmas.{index_facts}
use Rattle.vortex_mask.proofs.mask.Mask.of_indices.Goals as goal

pub returns-in-Some-clause-mask : goal.returns-in-Some-clause-mask
returns-in-Some-clause-mask c =
    let items : List ℕ = c.args.indices.items in
    record {
      len = grind (arith, common_steps, variant_facts, index_facts);
      true_indices = grind (arith, nil_from_length items, positions-all_false c.args.len, positions-full c.args.len items c.requires.ascending c.requires.within);
      variant = grind (arith, common_steps, variant_facts, index_facts);
      caches = grind (arith, common_steps, variant_facts, index_facts);
    }
