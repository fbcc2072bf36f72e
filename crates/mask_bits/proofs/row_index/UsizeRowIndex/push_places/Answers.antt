use Rattle.mask_bits.proofs.Common.{ℕ, List, ◌+◌, ◌++◌, ◌%◌, ◌^◌, refl, ap, ◌∙◌, arith, mod-eq_of_lt}
use Rattle.mask_bits.proofs.ByteLemmas.{places-behind}
use Rattle.mask_bits.proofs.Lists.Words.LaneLemmas.{AreLanes-map, AreLanes-same, AreLanes-splat, AreLanes-zip2}
use Rattle.mask_bits.proofs.row_index.UsizeRowIndex.push_places.Goals as goal

pub returns-clause-items : goal.returns-clause-items
returns-clause-items g c =
    let base = c.args.base in
    let numbers = c.args.places in
    let places = AreLanes-map (λ n. n) (record { lanes = c.requires.eight; each = λ j h. refl }) in
    let lanes = AreLanes-zip2 (λ (x y : ℕ). (x + y) % 2 ^ 64) (AreLanes-splat 8 base) places in
    c.push_eight.ensures.items
    ∙ ap (λ (xs : List ℕ). g.R.Room.items c.args.out.now ++ xs)
    (places-behind (λ p. base + p) numbers _ c.requires.eight (AreLanes-same lanes (λ j h. mod-eq_of_lt (omega (arith, c.requires.few j h, c.requires.fits)))))
