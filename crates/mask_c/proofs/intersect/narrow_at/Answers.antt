use Rattle.mask_c.proofs.Common.{false, subst, ◌≡◌, ◌<◌, ◌≤◌, ◌+◌, ◌*◌, ◌/◌, ◌-◌, take, sym, ap, ap₂, ◌∙◌, arith, get_or-take, length-take, All, bitmap, at_indices, count, positions, rank_intersection, true_at, word_bits, length-true_at, length-bitmap, length-word_bits, ascending-take, narrowed_at, deposit_is_rank_intersection}
use Rattle.mask_c.proofs.LastLemmas.{written-narrowed}
use Rattle.mask_c.proofs.LastRankLemmas.{below-all, ranks-parts}
use Rattle.mask_c.proofs.intersect.narrow_at.Goals as goal

pub narrow_at_ranks-requires-clause-within : goal.narrow_at_ranks-requires-clause-within
narrow_at_ranks-requires-clause-within g c =
    let is : c.args.true_count - c.remainder_and_count-word.result.1 ≡ count c.new-front.result = omega (arith, c.requires.counted, c.remainder_and_count-word.ensures.all, ap count c.new-front.ensures.list) in
    subst (λ n. All (λ k. k < n) (take c.last_ranks-cut.result.0 c.args.ranks.now)) is (below-all c.args.ranks.now _ _ c.last_ranks-cut.ensures.split)

pub returns-clause-values : goal.returns-clause-values
returns-clause-values g c =
    let m = bitmap c.args.bytes.now c.args.offset c.args.len in
    let ranks = c.args.ranks.now in
    let front = c.narrow_at_ranks.new.out in
    let a = c.new-front.result in
    let cut = c.last_ranks-cut.result.0 in
    let bits = c.last_ranks-cut.result.1 in
    let mask = c.remainder_and_count-word.result.0 in
    let k = count (word_bits mask) in
    let n = c.args.true_count - c.remainder_and_count-word.result.1 in
    let last = take k (word_bits bits) in
    let few : k ≤ 64 = omega (arith, c.remainder_and_count-word.ensures.few, c.remainder_and_count-word.ensures.ones) in
    let is_n : count a ≡ n = omega (arith, c.requires.counted, c.remainder_and_count-word.ensures.all, ap count c.new-front.ensures.list) in
    let all : n + k ≡ count m = omega (arith, c.requires.counted, c.remainder_and_count-word.ensures.all, c.remainder_and_count-word.ensures.ones) in
    let within = subst (λ i. All (λ r. r < i) (take cut ranks)) (sym is_n) (below-all ranks n cut c.last_ranks-cut.ensures.split) in
    c.put_remainder.ensures.list
    ∙ written-narrowed c.args.bytes.now c.args.offset c.args.len (true_at n (take cut ranks)) front _ mask bits c.deposit_bits.result
    (omega (arith, c.narrow_at_ranks.auto.out, length-take (8 * (c.args.len / 64)) c.args.out.now, c.requires.room))
    (length-true_at n (take cut ranks) ∙ omega (arith, is_n, ap count c.new-front.ensures.list))
    (ap (bitmap front 0) (sym c.new-front.ensures.len) ∙ c.narrow_at_ranks.ensures.list ∙ sym (narrowed_at a (take cut ranks) (ascending-take cut ranks c.requires.ascending) within)
    ∙ ap₂ (λ x i. rank_intersection x (true_at i (take cut ranks))) c.new-front.ensures.list is_n)
    c.remainder_and_count-word.ensures.word (deposit_is_rank_intersection bits mask c.deposit_bits.result c.deposit_bits.ensures)
    ∙ ap (rank_intersection m)
    (sym (ranks-parts ranks n k cut last c.last_ranks-cut.ensures.split (omega (arith, length-take k (word_bits bits), length-word_bits bits)) (λ j h.
    get_or-take k (word_bits bits) j false h ∙ c.last_ranks-cut.ensures.bits j (omega arith)))
    ∙ ap (λ i. true_at i ranks) all)
    ∙ narrowed_at m ranks c.requires.ascending (subst (λ i. All (λ r. r < i) ranks) c.requires.counted c.requires.within)
    ∙ ap (λ i. true_at i (at_indices (positions m) ranks)) (length-bitmap c.args.bytes.now c.args.offset c.args.len)
