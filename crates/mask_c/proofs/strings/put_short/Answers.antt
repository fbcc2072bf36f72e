use Rattle.mask_c.proofs.Common.{◌≡◌, ◌+◌, ◌++◌, drop, take, map, sym, ap, ◌∙◌, arith, concat, sum, items_at, sizes, strings}
use Rattle.mask_c.proofs.ShortStringLemmas.{both-parts, rest-of, sum-both}
use Rattle.mask_c.proofs.strings.put_short.Goals as goal

pub put_runs-requires-clause-room : goal.put_runs-requires-clause-room
put_runs-requires-clause-room g c =
    let ls = sizes (map g.O.Offset.number c.args.offsets.now) in
    let k = c.before_last-first.result in
    omega (arith, c.put_wide-written.ensures.size, sum-both ls c.args.indices.now k, ap (λ ps. sum (items_at ls ps)) (rest-of c.args.indices.now k), c.requires.room, c.put_wide-written.auto.out)

pub returns-clause-strings : goal.returns-clause-strings
returns-clause-strings g c =
    let wide = c.put_wide-written in
    let k = c.before_last-first.result in
    let xss = strings (map g.O.Offset.number c.args.offsets.now) c.args.string_bytes.now in
    both-parts xss c.args.indices.now (take c.args.at c.args.out.now) (take wide.result wide.new.out) (take c.put_runs.result c.put_runs.new.out) k wide.ensures.strings
    (c.put_runs.ensures.strings ∙ ap (λ ps. take wide.result wide.new.out ++ concat (items_at xss ps)) (rest-of c.args.indices.now k))

pub returns-clause-behind : goal.returns-clause-behind
returns-clause-behind g c =
    let ls = sizes (map g.O.Offset.number c.args.offsets.now) in
    let wide = c.put_wide-written in
    let k = c.before_last-first.result in
    let total : c.put_runs.result ≡ c.args.at + sum (items_at ls c.args.indices.now) = omega (arith, c.put_runs.ensures.size, wide.ensures.size, sum-both ls c.args.indices.now k, ap (λ ps. sum (items_at ls ps)) (rest-of c.args.indices.now k)) in
    c.put_runs.ensures.behind ∙ ap (λ n. drop n wide.new.out) total ∙ wide.ensures.behind ∙ sym (ap (λ n. drop n c.args.out.now) total)

pub returns-clause-size : goal.returns-clause-size
returns-clause-size g c =
    let ls = sizes (map g.O.Offset.number c.args.offsets.now) in
    let k = c.before_last-first.result in
    omega (arith, c.put_runs.ensures.size, c.put_wide-written.ensures.size, sum-both ls c.args.indices.now k, ap (λ ps. sum (items_at ls ps)) (rest-of c.args.indices.now k))
