use Rattle.mask_bits.proofs.Common.{ℕ, Option, ◌<◌, ◌-◌, length, subst, sym, arith, IfSome, count}
use Rattle.mask_bits.proofs.Lists.Places.PlaceLemmas.{place-within}
use Rattle.mask_bits.proofs.Lists.Places.SelectLemmas.{last_in_word}
use Rattle.mask_bits.proofs.chunks.BitChunks.last_set_index.Goals as goal

pub returns-then-last-ne0-clause-index : goal.returns-then-last-ne0-clause-index
returns-then-last-ne0-clause-index c =
    let m = c.args.self.now in
    let some : 0 < c.started_word-last.result = omega (arith, c.if-last-ne0.true) in
    sym (last_in_word m (c.loop-i.i - 1) c.started_word-last.result some c.started_word-last.type_inv c.started_word-last.ensures (λ p h. c.loop-i.invariant.none p (omega (arith, c.loop-i-test.true))))

pub returns-then-last-ne0-clause-within : goal.returns-then-last-ne0-clause-within
returns-then-last-ne0-clause-within c =
    let m = c.args.self.now in
    subst (λ (o : Option ℕ). IfSome o (λ p. p < length m)) (sym (returns-then-last-ne0-clause-index c)) (place-within m (count m - 1))
