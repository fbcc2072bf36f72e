use Rattle.mask_bits.proofs.Common.{ℕ, true, ◌≡◌, ◌+◌, ◌*◌, ◌-◌, ◌/◌, ◌%◌, subst, arith, IsWrittenBehind, repeated}
use Rattle.mask_bits.proofs.WriteLemmas.{written-ones, written-more_ones, written-ones_clear}
use Rattle.mask_bits.proofs.write_bits.put_ones.Goals as goal

pub returns-then-n-room : goal.returns-then-n-room
returns-then-n-room c = written-ones c.args.bytes.now c.put_word.new.bytes c.args.at c.args.n (omega arith) c.put_word.ensures

pub put_full-requires-clause-clear : goal.put_full-requires-clause-clear
put_full-requires-clause-clear c =
    grind (arith, written-ones_clear c.args.bytes.now c.put_word-2.new.bytes c.args.at (64 - c.args.at % 64) (64 * (c.args.at / 64 + 1)) (omega arith), written-ones c.args.bytes.now c.put_word-2.new.bytes c.args.at (64 - c.args.at % 64) (omega arith) c.put_word-2.ensures)

pub put_word-requires-3-clause-clear : goal.put_word-requires-3-clause-clear
put_word-requires-3-clause-clear c =
    let first = c.args.at / 64 + 1 in
    let words = (c.args.n - (64 - c.args.at % 64)) / 64 in
    written-ones_clear c.put_word-2.new.bytes c.put_full.new.bytes (64 * first) (64 * words) (64 * (first + words)) (omega arith) c.put_full.ensures

pub returns : goal.returns
returns c =
    let at = c.args.at in
    let room = 64 - at % 64 in
    let first = at / 64 + 1 in
    let words = (c.args.n - room) / 64 in
    let rest = (c.args.n - room) % 64 in
    let all : room + 64 * words + rest ≡ c.args.n = omega arith in
    let a = c.args.bytes.now in
    let b = c.put_word-2.new.bytes in
    let d = c.put_full.new.bytes in
    let e = c.put_word-3.new.bytes in
    let few = written-ones a b at room (omega arith) c.put_word-2.ensures in
    let more = written-more_ones a b d at room (64 * words) (64 * first) (omega arith) few c.put_full.ensures in
    subst (λ (n : ℕ). IsWrittenBehind a e at (repeated n true)) all
    (written-more_ones a d e at (room + 64 * words) rest (64 * (first + words)) (omega arith) more
    (written-ones d e (64 * (first + words)) rest (omega arith) c.put_word-3.ensures))
