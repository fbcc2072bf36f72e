use Rattle.mask_bits.proofs.Lists.Runs.RunLemmas.{runs_are_unique}
use Rattle.mask_bits.proofs.laws.runs.runs_are_unique.Goals as goal

pub returns : goal.returns
returns c = record {
  unique = runs_are_unique;
  given = λ of_one. runs_are_unique of_one.0 c.args.left.now c.args.right.now of_one.1.0 of_one.1.1;
}
