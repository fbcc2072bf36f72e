use Rattle.mask_bits.proofs.CompareLemmas.{none-parts, none_from_list}
use Rattle.mask_bits.proofs.compare.none_true.Goals as goal

pub returns-then-none_in_words : goal.returns-then-none_in_words
returns-then-none_in_words g c =
    let f = g.C.BitOp.of_bits in
    let parts = none-parts f c.args.a.now c.args.b.now c.args.a_offset c.args.b_offset c.args.len in
    let list = none_from_list f c.args.a.now c.args.b.now c.args.a_offset c.args.b_offset c.args.len in (
      λ yes. list.0 (parts.1 (c.none_in_words.ensures.0 c.if-none_in_words.true, c.none_in_last.ensures.0 yes)),
      λ none. c.none_in_last.ensures.1 (parts.0 (list.1 none)).1,
    )
