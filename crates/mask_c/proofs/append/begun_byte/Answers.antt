use Rattle.mask_c.proofs.Common.{ap, ◌∙◌, bit_at}
use Rattle.mask_c.proofs.AppendLemmas.{begun-kept, begun-put}
use Rattle.mask_c.proofs.append.begun_byte.Goals as goal

pub returns-clause-kept : goal.returns-clause-kept
returns-clause-kept c = λ j h. begun-kept c.from.result c.args.low c.args.word j c.requires h ∙ ap (λ x. bit_at x j) c.from.ensures

pub returns-clause-put : goal.returns-clause-put
returns-clause-put c = λ j h. begun-put c.from.result c.args.low c.args.word j h
