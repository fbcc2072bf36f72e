use Rattle.mask_c.proofs.Common.{◌≡◌, ◌+◌, ◌*◌, ◌-◌, ◌/◌, subst, arith, IsWritten}
use Rattle.mask_c.proofs.WriteLemmas.{written-join, written-values}
use Rattle.mask_c.proofs.write_at.row_mask_write_at.Goals as goal

pub returns-then-front-more_len-clause-inside : goal.returns-then-front-more_len-clause-inside
returns-then-front-more_len-clause-inside c =
    let old = c.args.bytes.now in
    let new = c.write_in_byte.new.bytes in
    let more = c.args.more.now in
    written-values old new more c.args.start c.args.more_offset c.args.more_len (subst (IsWritten old new c.args.start more c.args.more_offset) c.if-front-more_len.true c.write_in_byte.ensures)

pub returns-clause-inside : goal.returns-clause-inside
returns-clause-inside c =
    let old = c.args.bytes.now in
    let one = c.write_in_byte.new.bytes in
    let two = c.write_bytes.new.bytes in
    let all = c.write_in_byte-2.new.bytes in
    let more = c.args.more.now in
    let start = c.args.start in
    let offset = c.args.more_offset in
    let len = c.args.more_len in
    let front = c.min-front.result in
    let bytes = (len - front) / 8 in
    let done = front + 8 * bytes in
    let place : 8 * ((start + front) / 8) ≡ start + front = omega (arith, c.min-front.ensures, c.if-front-more_len.false) in
    let whole : done + (len - done) ≡ len = omega (arith, c.min-front.ensures) in
    let begun : IsWritten old two start more offset done
    = written-join old one two more start offset front (8 * bytes) c.write_in_byte.ensures (subst (λ z. IsWritten one two z more (offset + front) (8 * bytes)) place c.write_bytes.ensures) in
    written-values old all more start offset len
    (subst (IsWritten old all start more offset) whole (written-join old two all more start offset done (len - done) begun c.write_in_byte-2.ensures))
