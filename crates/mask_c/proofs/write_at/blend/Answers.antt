use Rattle.mask_c.proofs.Common.{ap, ◌∙◌, bit_at}
use Rattle.mask_c.proofs.WriteLemmas.{byte-put, byte-kept}
use Rattle.mask_c.proofs.write_at.blend.Goals as goal

pub returns-clause-put : goal.returns-clause-put
returns-clause-put c = λ j h. byte-put c.from.result c.args.word c.args.low c.args.count j c.requires h

pub returns-clause-kept : goal.returns-clause-kept
returns-clause-kept c = λ j h apart. byte-kept c.from.result c.args.word c.args.low c.args.count j c.requires h apart ∙ ap (λ x. bit_at x j) c.from.ensures
