use Rattle.mask_bits.proofs.ByteLemmas.{place-read}
use Rattle.mask_bits.proofs.byte_places.place_in_byte.Goals as goal

pub returns-clause-inside : goal.returns-clause-inside
returns-clause-inside c = (place-read c.args.byte c.args.rank c.requires.byte c.requires.rank).0

pub returns-clause-set : goal.returns-clause-set
returns-clause-set c = (place-read c.args.byte c.args.rank c.requires.byte c.requires.rank).1

pub returns-clause-number : goal.returns-clause-number
returns-clause-number c = (place-read c.args.byte c.args.rank c.requires.byte c.requires.rank).2
