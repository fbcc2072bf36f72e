use Rattle.mask_bits.proofs.Lists.Places.IndexLemmas.{sorted_do_not_fall}
use Rattle.mask_tests.proofs.calls.sorted_numbers.Goals as goal

pub returns : goal.returns
returns c = sorted_do_not_fall
