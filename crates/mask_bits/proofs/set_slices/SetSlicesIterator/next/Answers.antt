use Rattle.mask_bits.proofs.Common.{arith}
use Rattle.mask_bits.proofs.RunWalkLemmas.{ones-inside, IsLeft-filled, IsLeft-ones_cleared}
use Rattle.mask_bits.proofs.set_slices.SetSlicesIterator.next.Goals as goal

pub past_full_words-at-requires : goal.past_full_words-at-requires
past_full_words-at-requires c =
    IsLeft-filled c.self.inside.chunks c.in_ok-at.at c.in_ok-at.word (omega (arith, c.in_ok-at.ensures.found)) c.in_ok-at.ensures.is_left

pub overflow_add-end : goal.overflow_add-end
overflow_add-end c =
    let last = c.past_full_words-at.result in
    omega (arith, c.self.invariant.1, c.trailing_ones.ensures, ones-inside c.self.inside.chunks last.0 last.1 c.past_full_words-at.ensures.full.is)

pub invariant_of-self : goal.invariant_of-self
invariant_of-self c =
    let last = c.past_full_words-at.result in
    (IsLeft-ones_cleared c.self.inside.chunks last.0 last.1 c.past_full_words-at.ensures.full.is, c.self.invariant.1)
