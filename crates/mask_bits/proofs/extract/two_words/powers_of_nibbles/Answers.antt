use Rattle.mask_bits.proofs.Common.{get_or}
use Rattle.mask_bits.proofs.Lists.Words.LaneLemmas.{AreLanes-itself, AreLanes-same, AreLanes-swz_l, SwzOk-lanes}
use Rattle.mask_bits.proofs.Lists.Words.WideLaneLemmas.{powers, power_at}
use Rattle.mask_bits.proofs.extract.two_words.powers_of_nibbles.Goals as goal

pub swizzle : goal.swizzle
swizzle c = SwzOk-lanes c.args.nibbles (λ j. get_or c.args.nibbles j 0) (AreLanes-itself 16 c.args.nibbles c.fits-nibbles.0) c.requires.nibbles

pub returns : goal.returns
returns c =
    AreLanes-same (AreLanes-swz_l c.args.nibbles (λ j. get_or c.args.nibbles j 0) (AreLanes-itself 16 c.args.nibbles c.fits-nibbles.0) c.requires.nibbles powers)
    (λ j h. power_at (get_or c.args.nibbles j 0) (c.requires.nibbles j h))
