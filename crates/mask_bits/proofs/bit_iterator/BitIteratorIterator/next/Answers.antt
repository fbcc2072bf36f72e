use Rattle.mask_bits.proofs.Common.{◌≡◌, Bool, ◌∷◌, ◌+◌, ◌*◌, ◌/◌, ◌%◌, false, nat_eq, get_or, drop, sym, ap, ◌∙◌, arith, drop_more, shr_and_one}
use Rattle.mask_bits.proofs.Lists.Words.WalkLemmas.{bit-padded}
use Rattle.mask_bits.proofs.bit_iterator.BitIteratorIterator.next.Goals as goal

pub returns-clause-steps : goal.returns-clause-steps
returns-clause-steps c =
    let m = c.self.inside.chunks in
    let n = c.self.inside.next in
    let w = c.word_at_hand-word.result.0 in
    let more = c.word_at_hand-word.ensures.more in
    let hand = c.word_at_hand-word.ensures.at_hand in
    let place : 64 * (n / 64) + n % 64 ≡ n = omega arith in
    let bit = ap (λ v. nat_eq v 1) (shr_and_one w (n % 64)) ∙ bit-padded m (n / 64) w (n % 64) (hand.word more) (omega arith) ∙ ap (λ p. get_or m p false) place in
    sym c.self.view_is ∙ drop_more m n false (omega (arith, more, hand.within)) ∙ ap (λ (b : Bool). b ∷ drop (n + 1) m) (sym bit)
