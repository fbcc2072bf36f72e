use Rattle.mask_bits.proofs.Common.{◌≡◌, ◌+◌, ◌*◌, ◌-◌, ◌/◌, ◌%◌, refl, arith}
use Rattle.mask_bits.proofs.WriteLemmas.{written-more, written-bits_clear}
use Rattle.mask_bits.proofs.write_bits.put_bits.Goals as goal

pub put_whole-requires-clause-clear : goal.put_whole-requires-clause-clear
put_whole-requires-clause-clear c =
    grind (arith, written-bits_clear c.args.bytes.now c.put_windows-2.new.bytes c.args.from.now c.args.at c.args.offset (64 - c.args.at % 64))

pub put_windows-requires-3-clause-clear : goal.put_windows-requires-3-clause-clear
put_windows-requires-3-clause-clear c =
    let room = 64 - c.args.at % 64 in
    let words = (c.args.n - room) / 64 - 1 in
    written-bits_clear c.put_windows-2.new.bytes c.put_whole.new.bytes c.args.from.now (64 * (c.args.at / 64 + 1)) (c.args.offset + room) (64 * words)
    (c.args.at + (room + 64 * words)) (omega arith) c.put_whole.ensures

pub returns : goal.returns
returns c =
    let at = c.args.at in
    let from = c.args.from.now in
    let offset = c.args.offset in
    let room = 64 - at % 64 in
    let words = (c.args.n - room) / 64 - 1 in
    let done = room + 64 * words in
    let rest = c.args.n - done in
    let all : done + rest ≡ c.args.n = omega arith in
    let a = c.args.bytes.now in
    let b = c.put_windows-2.new.bytes in
    let d = c.put_whole.new.bytes in
    let e = c.put_windows-3.new.bytes in
    let most = written-more a b d from at offset room (64 * words) (64 * (at / 64 + 1)) _ (omega arith) refl c.put_windows-2.ensures c.put_whole.ensures in
    grind (arith, written-more)
