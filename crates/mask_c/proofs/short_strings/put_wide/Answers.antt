use Rattle.mask_c.proofs.Common.{◌≤◌, ◌<◌, ◌+◌, ◌-◌, ◌*◌, length, take, map, slice_range, ◌∙◌, arith, sum, behind-later, items_at, sizes, strings}
use Rattle.mask_c.proofs.ShortStringLemmas.{one-more}
use Rattle.mask_c.proofs.StringLemmas.{sum-earlier, sum-more}
use Rattle.mask_c.proofs.short_strings.put_wide.Given.{Over}
use Rattle.mask_c.proofs.short_strings.put_wide.Goals as goal
use Rattle.mask_c.proofs.short_strings.put_wide.Goals.{After-string_at-from}

-- the words of this string end before all strings do
room : (g : Over) (c : After-string_at-from g)
    → c.loop-k.written + (c.string_at-from.result.1 - c.string_at-from.result.0) + 8 * g.row.WORDS ≤ c.args.at + sum (items_at (sizes (map g.O.Offset.number c.args.offsets.now)) c.args.indices.now)
room g c =
    let ls = sizes (map g.O.Offset.number c.args.offsets.now) in
    let indices = c.args.indices.now in
    let k = c.loop-k.k in
    omega (arith, c.loop-k.invariant.size, sum-more ls indices k (c.string_at-from.result.1 - c.string_at-from.result.0) (omega (arith, c.requires.first)) c.string_at-from.ensures.size, sum-earlier ls indices (k + 1) c.args.first (omega arith), c.requires.behind)

pub put_one-written-requires-clause-room : goal.put_one-written-requires-clause-room
put_one-written-requires-clause-room g c = omega (arith, room g (goal.at.put_one-written-requires-clause-room g c).After-string_at-from, c.requires.room, c.loop-k.auto.out)

pub loop-k-preserved : goal.loop-k-preserved
loop-k-preserved g c =
    let ns = map g.O.Offset.number c.args.offsets.now in
    let bytes = c.args.string_bytes.now in
    let indices = c.args.indices.now in
    let k = c.loop-k.k in
    let string = c.string_at-from in
    let put = c.put_one-written in
    let so_far = c.loop-k.invariant in
    let few : k < length indices = omega (arith, c.requires.first) in
    record {
      strings = one-more (strings ns bytes) indices (take c.args.at c.args.out.now) (take c.loop-k.written c.loop-k.out) (take put.result put.new.out) (slice_range bytes string.result.0 string.result.1) k few (string.ensures.string bytes) so_far.strings put.ensures.bytes;
      size = omega (arith, put.ensures.size, so_far.size, sum-more (sizes ns) indices k (string.result.1 - string.result.0) few string.ensures.size);
      behind = behind-later put.new.out c.loop-k.out (put.result + 8 * g.row.WORDS) (c.args.at + sum (items_at (sizes ns) indices)) (omega (arith, put.ensures.size, room g (goal.at.loop-k-preserved g c).After-string_at-from)) put.ensures.behind ∙ so_far.behind;
    }
