use Rattle.mask_c.proofs.Common.{◌+◌, ◌*◌, ◌/◌, sym, ap, ◌∙◌, bitmap, count, padded_remainder, count-word_bits}
use Rattle.mask_c.proofs.LastLemmas.{count-remainder}
use Rattle.mask_c.proofs.intersect.remainder_and_count.Goals as goal

pub returns-clause-ones : goal.returns-clause-ones
returns-clause-ones c = sym (count-word_bits c.remainder_bits-word.result c.remainder_bits-word.type_inv)

pub returns-clause-all : goal.returns-clause-all
returns-clause-all c =
    ap (λ n. count (bitmap c.args.bytes.now c.args.offset (64 * (c.args.len / 64))) + n)
    (sym (count-word_bits c.remainder_bits-word.result c.remainder_bits-word.type_inv) ∙ ap count c.remainder_bits-word.ensures ∙ ap (λ m. count (padded_remainder m)) c.new.ensures.list)
    ∙ count-remainder c.args.bytes.now c.args.offset c.args.len
