use Rattle.mask_c.proofs.Common.{◌<◌, ◌-◌, ◌++◌, length, take, map, slice_range, sym, ap, ◌∙◌, arith, concat, items_at, sizes, strings, behind-later}
use Rattle.mask_c.proofs.StringLemmas.{bytes-step, items_at-more, sum-first, sum-more}
use Rattle.mask_c.proofs.strings.put_runs.Goals as goal

pub part_before-part-requires-clause-room : goal.part_before-part-requires-clause-room
part_before-part-requires-clause-room g c =
    omega (arith, c.loop-k.invariant.size, sum-first (sizes (map g.O.Offset.number c.args.offsets.now)) c.args.indices.now c.loop-k.k, c.requires.room, c.loop-k.auto.out)

pub loop-k-preserved : goal.loop-k-preserved
loop-k-preserved g c =
    let ns = map g.O.Offset.number c.args.offsets.now in
    let bytes = c.args.string_bytes.now in
    let indices = c.args.indices.now in
    let k = c.loop-k.k in
    let string = c.string_at-from in
    let from = string.result.0 in
    let to = string.result.1 in
    let before = c.part_before-part in
    let so_far = c.loop-k.invariant in
    let few : k < length indices = omega arith in
    record {
      strings = bytes-step bytes (take c.args.at c.args.out.now) (take before.result.1 before.new.out) (items_at (strings ns bytes) (take k indices)) before.result.0 from to before.ensures.ordered string.ensures.ordered (before.ensures.bytes ∙ so_far.strings)
          ∙ ap (λ its. take c.args.at c.args.out.now ++ concat its) (sym (items_at-more (strings ns bytes) indices k (slice_range bytes from to) few (string.ensures.string bytes)));
      size = omega (arith, before.ensures.size, before.ensures.ordered, string.ensures.ordered, so_far.size, sum-more (sizes ns) indices k (to - from) few string.ensures.size);
      ordered = omega (arith, before.ensures.ordered, string.ensures.ordered);
      within = omega (arith, string.ensures.covered, c.requires.covered);
      behind = before.ensures.behind ∙ behind-later c.loop-k.out c.args.out.now c.loop-k.written before.result.1 before.ensures.later so_far.behind;
    }

pub returns-clause-behind : goal.returns-clause-behind
returns-clause-behind g c =
    c.put_part.ensures.behind ∙ behind-later c.loop-k.out c.args.out.now c.loop-k.written c.put_part.result (omega (arith, c.put_part.ensures.size)) c.loop-k.invariant.behind
