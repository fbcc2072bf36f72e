use Rattle.vortex_mask.proofs.Common.{◌<◌, arith, All-get_or, count, count-le-length}
use Rattle.vortex_mask.proofs.Kernels.RankBlockLemmas.{backing_bit-zeros}
use Rattle.vortex_mask.proofs.Lists.StartedWordLemmas.{place-within}
use Rattle.vortex_mask.proofs.intersect_by_rank.kernels.rank_blocks.narrow_by_blocks.Goals as goal

pub put_ranks-end-requires-clause-room : goal.put_ranks-end-requires-clause-room
put_ranks-end-requires-clause-room g c = record {
  ascending = c.requires.ascending;
  small = λ k h. omega (arith, c.requires.fits, count-le-length c.args.chunks.now, All-get_or (λ n. n < count c.args.chunks.now) c.args.ranks.now k 0 h c.requires.within);
  from = c.loop-done.invariant.split;
  room = omega arith;
}

pub put_ranks-end-requires-clause-clear : goal.put_ranks-end-requires-clause-clear
put_ranks-end-requires-clause-clear g c = λ p. backing_bit-zeros 512 p

pub narrow_pairs-requires-clause-ranks : goal.narrow_pairs-requires-clause-ranks
narrow_pairs-requires-clause-ranks g c = omega (arith, c.requires.fits, count-le-length c.args.chunks.now)

pub overflow_add-done : goal.overflow_add-done
overflow_add-done g c = omega (arith, c.requires.fits, count-le-length c.args.chunks.now, place-within c.args.chunks.now _ _ c.narrow_pairs.ensures.narrowed.place)
