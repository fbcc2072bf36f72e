use Rattle.mask_bits.proofs.Common.{arith}
use Rattle.mask_bits.proofs.ByteLemmas.{length-places, places-listed, places-within}
use Rattle.mask_bits.proofs.byte_places.places_of.Goals as goal

pub returns-clause-lanes : goal.returns-clause-lanes
returns-clause-lanes c = length-places c.args.byte (omega arith)

pub returns-clause-inside : goal.returns-clause-inside
returns-clause-inside c k inside = places-within c.args.byte k (omega arith) inside

pub returns-clause-places : goal.returns-clause-places
returns-clause-places c k inside = places-listed c.args.byte k (omega arith) inside
