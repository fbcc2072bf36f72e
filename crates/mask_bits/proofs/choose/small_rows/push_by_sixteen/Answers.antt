use Rattle.mask_bits.proofs.Common.{◌≡◌, ◌∙◌, ℕ, ◌*◌, ◌/◌, ◌^◌, ◌<◌, ◌≤◌, ◌++◌, ap, sym, arith, append-nil, div-eq_of_lt, length}
use Rattle.mask_bits.proofs.ByteRowLemmas.{chosen-of_zero, count-sixteen_more, part-pushed, shr-sixteen_more}
use Rattle.mask_bits.proofs.Lists.Places.PushLemmas.{no_places}
use Rattle.mask_bits.proofs.choose.small_rows.push_by_sixteen.Goals as goal

pub loop-j-preserved : goal.loop-j-preserved
loop-j-preserved g c =
    let rows = c.args.rows.now in
    let left = c.loop-j.left in
    let so_far = c.loop-j.invariant in
    let fits : left < 2 ^ 64 = omega (arith, c.loop-j.auto.left-fits) in
    record {
      items = part-pushed rows _ (g.R.Room.items c.loop-j.out) (g.R.Room.items c.push_sixteen.new.out) left c.loop-j.j fits (omega (arith, c.requires.whole, c.loop-j-test.true)) so_far.items c.push_sixteen.ensures.rows;
      counted = omega (arith, c.push_sixteen.ensures.len, count-sixteen_more left fits, so_far.counted);
      within = shr-sixteen_more c.args.word left c.loop-j.j so_far.within;
      kept = c.push_sixteen.ensures.kept ∙ so_far.kept;
    }

-- no bit is left
none : (w left j : ℕ) → w < 2 ^ 64 → 4 ≤ j → j ≤ 4 → left ≡ w / 2 ^ (16 * j) → left ≡ 0
none w left j fits low high is = is ∙ ap (λ k. w / 2 ^ (16 * k)) four ∙ div-eq_of_lt fits
  where
    four : j ≡ 4
    four = omega (arith, low, high)

pub returns-clause-rows : goal.returns-clause-rows
returns-clause-rows g c =
    let left = c.loop-j.left in
    let over : left ≡ 0 = none c.args.word left c.loop-j.j (omega (arith, c.ranges.word.fits)) c.loop-j-test.false c.loop-j.auto.j-end c.loop-j.invariant.within in
    sym (append-nil (g.R.Room.items c.loop-j.out)) ∙ ap (λ xs. g.R.Room.items c.loop-j.out ++ xs) (sym (chosen-of_zero _ left over)) ∙ c.loop-j.invariant.items

pub returns-clause-len : goal.returns-clause-len
returns-clause-len g c =
    let left = c.loop-j.left in
    let over : left ≡ 0 = none c.args.word left c.loop-j.j (omega (arith, c.ranges.word.fits)) c.loop-j-test.false c.loop-j.auto.j-end c.loop-j.invariant.within in
    omega (arith, c.loop-j.invariant.counted, ap (λ ps. length ps) (no_places left over))
