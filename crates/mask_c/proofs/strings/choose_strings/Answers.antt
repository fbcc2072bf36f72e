use Rattle.mask_c.proofs.Common.{ℕ, List, ◌≡◌, ◌+◌, ◌*◌, ◌++◌, length, take, map, sym, ap, ◌∙◌, arith, rules, concat, sum, length-append, length-map, length-take, take-take, take_all, positions, word_bits, behind-later, count-word_bits, sizes, strings}
use Rattle.mask_c.proofs.ChooseLemmas.{positions-word_more}
use Rattle.mask_c.proofs.IndexLemmas.{indices-within}
use Rattle.mask_c.proofs.ShortStringLemmas.{waiting-strings, waiting-sum, waiting-within}
use Rattle.mask_c.proofs.StringLemmas.{items-all, sum-below}
use Rattle.mask_c.proofs.strings.choose_strings.Goals as goal

pub put_if_full-left-requires-clause-room : goal.put_if_full-left-requires-clause-room
put_if_full-left-requires-clause-room g c =
    let ls = sizes (map g.O.Offset.number c.args.offsets.now) in
    omega (arith, c.loop-i.invariant.size, sum-below ls c.args.chunks.now (64 * c.loop-i.i), c.requires.room, c.loop-i.auto.out)

pub put_strings-requires-clause-room : goal.put_strings-requires-clause-room
put_strings-requires-clause-room g c =
    let ls = sizes (map g.O.Offset.number c.args.offsets.now) in
    omega (arith, c.loop-i.invariant.size, sum-below ls c.args.chunks.now (64 * c.loop-i.i), c.requires.room, c.loop-i.auto.out)

pub put_indices-waiting-requires-clause-fits : goal.put_indices-waiting-requires-clause-fits
put_indices-waiting-requires-clause-fits g c =
    indices-within c.args.chunks.now (64 * c.loop-i.i) c.loop-i.i c.started_word-word.result c.started_word-word.ensures (omega arith) (omega arith)

pub loop-i-preserved : goal.loop-i-preserved
loop-i-preserved g c =
    let ns = map g.O.Offset.number c.args.offsets.now in
    let xss = strings ns c.args.string_bytes.now in
    let m = c.args.chunks.now in
    let i = c.loop-i.i in
    let word = c.started_word-word.result in
    let so_far = c.loop-i.invariant in
    let left = c.put_if_full-left in
    let put = c.put_indices-waiting in
    let here : List ℕ = map (λ p. 64 * i + p) (positions (word_bits word)) in
    let kept : List ℕ = take left.result.0 c.loop-i.block in
    let waits : take left.result.0 (take c.loop-i.waiting c.loop-i.block) ≡ kept = take-take left.result.0 c.loop-i.waiting c.loop-i.block (omega (arith, left.ensures.within, length-take c.loop-i.waiting c.loop-i.block)) in
    let new : take put.result put.new.out ≡ kept ++ here
    = put.ensures.indices ∙ take_all _ (kept ++ here) (omega (arith, length-append kept here, length-take left.result.0 c.loop-i.block, length-map (positions (word_bits word)) (λ p. 64 * i + p), count-word_bits word (search rules), left.ensures.few)) in
    let more : positions (take (64 * (i + 1)) m) ≡ positions (take (64 * i) m) ++ here
    = positions-word_more m i (omega arith) ∙ ap (λ x. positions (take (64 * i) m) ++ map (λ p. 64 * i + p) (positions x)) (sym c.started_word-word.ensures) in
    record {
      strings = waiting-strings xss (positions (take (64 * (i + 1)) m)) (positions (take (64 * i) m)) (take c.loop-i.waiting c.loop-i.block) (take left.result.0 (take c.loop-i.waiting c.loop-i.block)) kept here (take put.result put.new.out) (take c.loop-i.at c.loop-i.out) (take left.result.1 left.new.out) more waits new so_far.strings left.ensures.strings;
      size = waiting-sum (sizes ns) (positions (take (64 * (i + 1)) m)) (positions (take (64 * i) m)) (take c.loop-i.waiting c.loop-i.block) (take left.result.0 (take c.loop-i.waiting c.loop-i.block)) kept here (take put.result put.new.out) c.loop-i.at left.result.1 more waits new so_far.size left.ensures.size;
      within = waiting-within m i (length c.args.offsets.now) left.result.0 (take c.loop-i.waiting c.loop-i.block) kept here (take put.result put.new.out) more waits new c.requires.offsets so_far.within;
      few = omega (arith, put.ensures.count, left.ensures.few);
      behind = left.ensures.behind ∙ behind-later c.loop-i.out c.args.out.now c.loop-i.at left.result.1 left.ensures.later so_far.behind;
    }

pub returns-clause-strings : goal.returns-clause-strings
returns-clause-strings g c =
    let xss = strings (map g.O.Offset.number c.args.offsets.now) c.args.string_bytes.now in
    c.put_strings.ensures.strings ∙ c.loop-i.invariant.strings ∙ ap concat (items-all xss c.args.chunks.now (64 * c.loop-i.i) (omega arith))

pub returns-clause-size : goal.returns-clause-size
returns-clause-size g c =
    let ls = sizes (map g.O.Offset.number c.args.offsets.now) in
    c.put_strings.ensures.size ∙ c.loop-i.invariant.size ∙ ap sum (items-all ls c.args.chunks.now (64 * c.loop-i.i) (omega arith))

pub returns-clause-behind : goal.returns-clause-behind
returns-clause-behind g c =
    c.put_strings.ensures.behind ∙ behind-later c.loop-i.out c.args.out.now c.loop-i.at c.put_strings.result (omega (arith, c.put_strings.ensures.size)) c.loop-i.invariant.behind
