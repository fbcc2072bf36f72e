use Rattle.mask_bits.proofs.Common.{ℕ, suc, set, ◌≡◌, ◌<◌, ◌-◌, ◌+◌, ◌^◌, ◌++◌, ◌∷◌, [], List, length, map, take, subst, sym, ap, ◌∙◌, append_assoc, arith, take-suc-set, bit_and, All, All-head, All-tail, positions, word_bits}
use Rattle.mask_bits.proofs.Lists.Places.SelectLemmas.{positions-lowest}
use Rattle.mask_bits.proofs.Lists.Words.LowestLemmas.{low}
use Rattle.mask_bits.proofs.PutIndicesLemmas.{some_bits}
use Rattle.mask_bits.proofs.indices_of_word.put_indices_up_to.Goals as goal

pub overflow_add-first : goal.overflow_add-first
overflow_add-first g c =
    let w = c.loop-place.left in
    let some = some_bits w (omega (arith, c.loop-place.invariant.counted, c.requires.enough, c.loop-place-test.true)) in
    grind (arith, positions-lowest w some c.loop-place.auto.left-fits.fits, All-head)

pub overflow_sub-left : goal.overflow_sub-left
overflow_sub-left g c = some_bits c.loop-place.left (omega (arith, c.loop-place.invariant.counted, c.requires.enough, c.loop-place-test.true))

pub loop-place-preserved : goal.loop-place-preserved
loop-place-preserved g c =
    let w = c.loop-place.left in
    let out = c.loop-place.out in
    let at = c.loop-place.place in
    let f : ℕ → g.row.N.Denot = λ p. g.N.RowIndex.index_of (c.args.first + p) in
    let fits : ℕ → Type 0 = λ p. c.args.first + p < 2 ^ 64 in
    let rest = positions (word_bits (bit_and w (w - 1))) in
    let some = some_bits w (omega (arith, c.loop-place.invariant.counted, c.requires.enough, c.loop-place-test.true)) in
    let first = positions-lowest w some c.loop-place.auto.left-fits.fits in
    let next : at + 1 ≡ suc at = omega arith in
    let inside : at < length out = omega (arith, c.loop-place-test.true, c.loop-place.auto.out, c.requires.room) in
    record {
      indices = ap (λ (xs : List g.row.N.Denot). take (at + 1) xs ++ map f rest) (c.put.ensures ∙ ap (set out at) c.of.ensures)
          ∙ ap (λ (n : ℕ). take n (set out at (f (low w))) ++ map f rest) next
          ∙ ap (λ (xs : List g.row.N.Denot). xs ++ map f rest) (take-suc-set out at (f (low w)) inside)
          ∙ append_assoc (take at out) (f (low w) ∷ []) (map f rest)
          ∙ ap (λ (ps : List ℕ). take at out ++ map f ps) (sym first)
          ∙ c.loop-place.invariant.indices;
      counted = omega (arith, ap length first, c.loop-place.invariant.counted);
      fits = All-tail fits (low w) rest (subst (All fits) first c.loop-place.invariant.fits);
    }
