use Rattle.mask_bits.proofs.Common.{◌<◌, length, subst, sym, ◌∙◌, arith, get_or_default, ◌*◌, ◌%◌, ◌^◌, ◌-◌, bit_and, bit_or, FnReturnsAt}
use Rattle.mask_bits.proofs.LeftLemmas.{IsAskedSoFar, none_asked, one_more_asked, all_asked, asked_within}
use Rattle.mask_bits.proofs.Lists.Words.LowestLemmas.{low}
use Rattle.mask_bits.proofs.and_rows.left_one_by_one.Goals as goal

pub loop-asked-init : goal.loop-asked-init
loop-asked-init g c = none_asked (FnReturnsAt g.F.Fn c.args.test.now) c.args.rows.now c.args.word

pub bounds-rows-place : goal.bounds-rows-place
bounds-rows-place g c =
    asked_within (FnReturnsAt g.F.Fn c.args.test.now) c.args.rows.now c.args.word c.loop-asked.asked c.loop-asked.left (omega (arith, c.loop-asked-test.true)) c.loop-asked.auto.asked-fits.fits c.requires.within c.loop-asked.invariant

pub offset_bounds-rows-place : goal.offset_bounds-rows-place
offset_bounds-rows-place g c = omega (arith, bounds-rows-place g c)

pub loop-asked-preserved : goal.loop-asked-preserved
loop-asked-preserved g c =
    let rows = c.args.rows.now in
    let asked = c.loop-asked.asked in
    let gives = FnReturnsAt g.F.Fn c.args.test.now in
    let some : 0 < asked = omega (arith, c.loop-asked-test.true) in
    let fits = c.loop-asked.auto.asked-fits.fits in
    let within : low asked < length rows = asked_within gives rows c.args.word asked c.loop-asked.left some fits c.requires.within c.loop-asked.invariant in
    subst (λ x. IsAskedSoFar gives rows c.args.word (bit_and asked (asked - 1)) (bit_or c.loop-asked.left (x * 2 ^ low asked % 2 ^ 64))) (sym c.from.ensures)
    (one_more_asked gives rows c.args.word asked c.loop-asked.left c.test.result c.requires.few some fits
    (λ d. record { shown = _; shows = c.index-rows-place.is ∙ get_or_default rows (low asked) _ d within; says = record { met = c.test.ensures } }) c.loop-asked.invariant)

pub returns : goal.returns
returns g c =
    all_asked (FnReturnsAt g.F.Fn c.args.test.now) c.args.rows.now c.args.word c.loop-asked.asked c.loop-asked.left c.requires.few c.loop-asked-test.false c.loop-asked.invariant
