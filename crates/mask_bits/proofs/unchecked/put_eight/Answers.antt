use Rattle.mask_bits.proofs.Common.{◌+◌, ◌-◌, ◌∙◌, arith, rules, drop-put_mid}
use Rattle.mask_bits.proofs.UncheckedLemmas.{eight-bytes}
use Rattle.mask_bits.proofs.unchecked.put_eight.Goals as goal

pub returns-clause-bytes : goal.returns-clause-bytes
returns-clause-bytes c =
    eight-bytes c.args.bytes.now c.args.out.now c.in-Some.chunk.now c.copy_from_slice.new.self c.args.at c.args.begin c.from_le_bytes.result (search rules) c.requires.within (omega (arith, c.requires.room)) (search rules) c.from_le_bytes.ensures (c.copy_from_slice.ensures.after ∙ c.to_le_bytes.ensures)

pub returns-clause-behind : goal.returns-clause-behind
returns-clause-behind c =
    drop-put_mid c.args.at (c.args.at + 8 - c.args.at) c.args.out.now c.copy_from_slice.new.self (c.args.at + 8) (omega arith) (omega (arith, c.requires.room)) (omega (arith, c.copy_from_slice.auto.self, c.requires.within, c.requires.room))
