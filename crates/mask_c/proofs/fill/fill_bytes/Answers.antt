use Rattle.mask_c.proofs.Common.{replicate, sym, ap, ◌∙◌, length-between}
use Rattle.mask_c.proofs.FillLemmas.{bits_of_ones, bits_of_zeros, filled-bytes}
use Rattle.mask_c.proofs.fill.fill_bytes.Goals as goal

pub returns-then-value : goal.returns-then-value
returns-then-value c =
    filled-bytes c.args.bytes.now c.fill.new.self c.args.first c.args.last 255 c.args.value c.requires.ordered c.requires.within
    (c.fill.ensures.after (λ y same. same) ∙ ap (λ n. replicate n 255) (length-between c.args.bytes.now c.args.first c.args.last c.requires.within))
    (λ j h. bits_of_ones j h ∙ sym c.if-value.true)

pub returns-else-value : goal.returns-else-value
returns-else-value c =
    filled-bytes c.args.bytes.now c.fill-else-value.new.self c.args.first c.args.last 0 c.args.value c.requires.ordered c.requires.within
    (c.fill-else-value.ensures.after (λ y same. same) ∙ ap (λ n. replicate n 0) (length-between c.args.bytes.now c.args.first c.args.last c.requires.within))
    (λ j h. bits_of_zeros j h ∙ sym c.if-value.false)
