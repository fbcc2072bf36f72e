use Rattle.mask_c.proofs.Common.{◌<◌, ◌≤◌, ◌≢◌, length, map, get_or, get_or-set_same, get_or-set_other, below_more, sym, ◌∙◌, arith, ext_get_or, get_or-map, length-map, All-get_or, bitmap, count_below, count_below-within}
use Rattle.mask_c.proofs.BitmapLemmas.{count-runs_on}
use Rattle.mask_c.proofs.counts.row_mask_counts_below.Goals as goal

pub overflow_add-below : goal.overflow_add-below
overflow_add-below c =
    let m = bitmap c.args.bytes.now c.args.offset c.args.len in
    let index = get_or c.args.indices.now c.loop-i.i 0 in
    let so_far = c.loop-i.invariant in
    let further = count-runs_on c.args.bytes.now c.args.offset c.args.len c.loop-i.from index _ _ (so_far.behind c.loop-i.i (omega arith) (omega arith)) (All-get_or (λ j. j ≤ c.args.len) c.args.indices.now c.loop-i.i 0 (omega arith) c.requires.within) so_far.below c.count_bits-below.ensures in
    omega (arith, further, count_below-within m index)

pub loop-i-preserved : goal.loop-i-preserved
loop-i-preserved c =
    let m = bitmap c.args.bytes.now c.args.offset c.args.len in
    let indices = c.args.indices.now in
    let i = c.loop-i.i in
    let index = get_or indices i 0 in
    let so_far = c.loop-i.invariant in
    let within = All-get_or (λ j. j ≤ c.args.len) indices i 0 (omega arith) c.requires.within in
    let further = count-runs_on c.args.bytes.now c.args.offset c.args.len c.loop-i.from index _ _ (so_far.behind i (omega arith) (omega arith)) within so_far.below c.count_bits-below.ensures in
    record {
      within = within;
      below = further;
      counts = below_more _ _
          (λ k h. let ne : k ≢ i = omega arith in rw get_or-set_other (so_far.counts k h))
          (let lt : i < length c.loop-i.out = omega arith in rw get_or-set_same further);
      behind = λ k later inside. c.requires.ascending i k 0 (omega (arith, later)) inside;
    }

pub returns : goal.returns
returns c =
    let m = bitmap c.args.bytes.now c.args.offset c.args.len in
    let indices = c.args.indices.now in
    let len = length-map indices (count_below m) in
    ext_get_or 0 c.loop-i.out (map (count_below m) indices) (omega arith) (λ k h.
    c.loop-i.invariant.counts k (omega arith) ∙ sym (get_or-map (count_below m) indices k 0 0 (omega arith)))
