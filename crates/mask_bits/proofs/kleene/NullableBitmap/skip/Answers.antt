use Rattle.mask_bits.proofs.KleeneLemmas.{parts-of-present, parts-of-absent}
use Rattle.mask_bits.proofs.kleene.NullableBitmap.skip.Goals as goal

pub returns-in-Some : goal.returns-in-Some
returns-in-Some c = λ n. parts-of-present c.args.self c.in-Some.validity c.args.start n c.in-Some.is

pub returns-in-None : goal.returns-in-None
returns-in-None c = λ n. parts-of-absent c.args.self c.args.start n c.in-None.is
