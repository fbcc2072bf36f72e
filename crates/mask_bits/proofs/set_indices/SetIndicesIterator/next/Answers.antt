use Rattle.mask_bits.proofs.Common.{arith}
use Rattle.mask_bits.proofs.Lists.Words.WalkLemmas.{IsLeft-cleared}
use Rattle.mask_bits.proofs.set_indices.SetIndicesIterator.next.Goals as goal

pub invariant_of-self : goal.invariant_of-self
invariant_of-self c =
    let left = c.in_ok-at.ensures.is_left in
    (IsLeft-cleared c.self.inside.chunks c.in_ok-at.at c.in_ok-at.word (omega (arith, c.in_ok-at.ensures.found)) left.word left, c.self.invariant.1)
