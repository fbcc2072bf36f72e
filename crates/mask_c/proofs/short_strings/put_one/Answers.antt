use Rattle.mask_c.proofs.Common.{◌+◌, ◌-◌, ◌*◌, arith, behind-later}
use Rattle.mask_c.proofs.ShortStringLemmas.{fewer-bytes}
use Rattle.mask_c.proofs.short_strings.put_one.Goals as goal

pub returns-then-bytes-begin-clause-bytes : goal.returns-then-bytes-begin-clause-bytes
returns-then-bytes-begin-clause-bytes g c =
    fewer-bytes c.args.bytes.now c.args.out.now c.put_words.new.out c.args.at c.args.begin c.args.end (8 * g.row.WORDS) c.requires.ordered
    (omega (arith, c.if-end-begin.true)) (omega (arith, c.if-bytes-begin.true, c.requires.ordered, c.requires.within)) (omega (arith, c.requires.room)) c.put_words.ensures.bytes

pub returns-then-bytes-begin-clause-behind : goal.returns-then-bytes-begin-clause-behind
returns-then-bytes-begin-clause-behind g c =
    behind-later c.put_words.new.out c.args.out.now (c.args.at + 8 * g.row.WORDS) (c.args.at + (c.args.end - c.args.begin) + 8 * g.row.WORDS) (omega arith) c.put_words.ensures.behind

pub returns-clause-behind : goal.returns-clause-behind
returns-clause-behind g c =
    behind-later c.put_part.new.out c.args.out.now c.put_part.result (c.put_part.result + 8 * g.row.WORDS) (omega arith) c.put_part.ensures.behind
