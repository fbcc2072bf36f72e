use Rattle.mask_bits.proofs.Common.{◌^◌, ◌*◌, ◌+◌, ap, refl, subst, sym, get_or, w16, arith, digits_l, below_from_Fits, AreLanes}
use Rattle.mask_bits.proofs.Lists.Words.LaneLemmas.{AreLanes-itself}
use Rattle.mask_bits.proofs.Lists.Words.WideLaneLemmas.{AreLanes-wider, through_bytes, wide_lane-fits}
use Rattle.mask_bits.proofs.extract.two_words.wide.Goals as goal

pub returns : goal.returns
returns c =
    let xs = c.args.pairs in
    subst (λ n. AreLanes 4 (digits_l (2 ^ 32) 4 n) (λ j. get_or xs (2 * j) 0 + get_or xs (2 * j + 1) 0 * 2 ^ 16))
    (sym (through_bytes 65536 16 xs (omega arith) (below_from_Fits w16 xs c.fits-pairs.1) (ap (λ n. 65536 ^ n) c.fits-pairs.0)))
    (AreLanes-wider {n = 4} 65536 (2 ^ 32) refl (AreLanes-itself 8 xs c.fits-pairs.0) (λ j h. wide_lane-fits w16 8 xs j c.fits-pairs h))
