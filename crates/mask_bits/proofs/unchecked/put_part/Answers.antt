use Rattle.mask_bits.proofs.Common.{◌+◌, ◌-◌, arith, drop-put_mid}
use Rattle.mask_bits.proofs.unchecked.put_part.Goals as goal

pub returns-clause-behind : goal.returns-clause-behind
returns-clause-behind c =
    let at = c.args.at in
    let end = c.args.at + (c.args.end - c.args.begin) in
    drop-put_mid at (end - at) c.args.out.now c.copy_from_slice.new.self end (omega arith) (omega (arith, c.requires.room))
    (omega (arith, c.copy_from_slice.auto.self, c.requires.room, c.requires.within))
