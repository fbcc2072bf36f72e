use Rattle.mask_bits.proofs.Common.{◌*◌}
use Rattle.mask_bits.proofs.CompareLemmas.{none-drop}
use Rattle.mask_bits.proofs.compare.none_in_words.Goals as goal

pub returns-then-b-eq0 : goal.returns-then-b-eq0
returns-then-b-eq0 g c =
    let moved = none-drop g.C.BitOp.of_bits c.args.a.now c.args.b.now _ _ _ _ c.args.a_offset c.args.b_offset (64 * c.args.words) c.new-a.ensures.bytes c.new-a.ensures.low c.new-b.ensures.bytes c.new-b.ensures.low in
    (λ yes. moved.0 (c.none_in_blocks.ensures.0 yes), λ same. c.none_in_blocks.ensures.1 (moved.1 same))

pub returns : goal.returns
returns g c =
    let moved = none-drop g.C.BitOp.of_bits c.args.a.now c.args.b.now _ _ _ _ c.args.a_offset c.args.b_offset (64 * c.args.words) c.new-a.ensures.bytes c.new-a.ensures.low c.new-b.ensures.bytes c.new-b.ensures.low in
    (λ yes. moved.0 (c.none_in_shifted_words.ensures.0 yes), λ same. c.none_in_shifted_words.ensures.1 (moved.1 same))
