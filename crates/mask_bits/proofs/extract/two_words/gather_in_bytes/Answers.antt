use Rattle.mask_bits.proofs.Common.{◌≡◌, ◌-◌, ◌+◌, ℕ, arith, bit_and, get_or, lt_of_le_of_lt, and_le_r}
use Rattle.mask_bits.proofs.Lists.Words.LaneLemmas.{AreLanes-itself, AreLanes-zip2, AreLanes-same, lane-fits}
use Rattle.mask_bits.proofs.Lists.Words.GatherLemmas.{closed_from, within-free, closed_from-top, closed_from-free, closed_from-more, gathered-byte}
use Rattle.mask_bits.proofs.extract.two_words.gather_in_bytes.Goals as goal

pub loop-passed-init : goal.loop-passed-init
loop-passed-init c = AreLanes-same (AreLanes-zip2 bit_and (AreLanes-itself 16 c.args.sources c.fits-sources.0) (AreLanes-itself 16 c.args.masks c.fits-masks.0))
    (grind (arith, closed_from-top, lt_of_le_of_lt, and_le_r, lane-fits, within-free))

pub close_up-bits-requires-clause-free : goal.close_up-bits-requires-clause-free
close_up-bits-requires-clause-free c = λ j h off.
    let l = c.loop-passed in
    let p : ℕ = 6 - l.passed in
    let next : 7 - l.passed ≡ p + 1 = omega arith in
    let s : ℕ = get_or c.args.sources j 0 in
    let m : ℕ = get_or c.args.masks j 0 in
    grind (arith, closed_from, closed_from-free, within-free)

pub loop-passed-preserved : goal.loop-passed-preserved
loop-passed-preserved c =
    let l = c.loop-passed in
    let p : ℕ = 6 - l.passed in
    let next : 7 - l.passed ≡ p + 1 = omega arith in
    let then : 7 - (l.passed + 1) ≡ p = omega arith in
    grind (arith, closed_from, closed_from-more, within-free)

pub returns : goal.returns
returns c = grind (arith, closed_from, gathered-byte)
