use Rattle.vortex_mask.proofs.Common.{◌+◌, ◌*◌, refl, sym, arith, count_ones, count-word_bits}
use Rattle.vortex_mask.proofs.Kernels.WordKernelLemmas.{deposited-at, deposited-more, two-deposits-room, two-words-room, two_counted}
use Rattle.vortex_mask.proofs.Lists.StartedWordLemmas.{IsAt, place-next, place-after_within}
use Rattle.vortex_mask.proofs.intersect_by_rank.kernels.word_loop.Narrowed.narrow_pairs.Goals as goal
use Rattle.vortex_mask.proofs.intersect_by_rank.kernels.word_loop.Narrowed.narrow_pairs.Goals.{After-read_two_words-both}
use Rattle.vortex_mask.proofs.intersect_by_rank.kernels.word_loop.Narrowed.narrow_pairs.Given.{Over}

-- the two words of a turn
first : (g : Over) (c : After-read_two_words-both g)
    → IsAt c.args.chunks.now (2 * c.loop-self.self.pairs) (g.R.RankWords.number c.args.ranks.now c.loop-self.self.at) c.read_two_words-both.result.0 (count_ones c.read_two_words-both.result.0)
first g c = record { place = c.loop-self.invariant.narrowed.place; shows = c.read_two_words-both.ensures.first; counted = sym (count-word_bits c.read_two_words-both.result.0 (omega arith)) }

second : (g : Over) (c : After-read_two_words-both g)
    → IsAt c.args.chunks.now (2 * c.loop-self.self.pairs + 1) (g.R.RankWords.number c.args.ranks.now c.loop-self.self.at + count_ones c.read_two_words-both.result.0) c.read_two_words-both.result.1 (count_ones c.read_two_words-both.result.1)
second g c = record { place = place-next (first g c); shows = c.read_two_words-both.ensures.second; counted = sym (count-word_bits c.read_two_words-both.result.1 (omega arith)) }

pub read_two_words-both-requires-clause-room : goal.read_two_words-both-requires-clause-room
read_two_words-both-requires-clause-room g c = two-words-room _ _ c.loop-self.invariant.narrowed (omega arith)

pub deposit_two_words-kept-requires-clause-few : goal.deposit_two_words-kept-requires-clause-few
deposit_two_words-kept-requires-clause-few g c = two-deposits-room _ _ _ c.loop-self.invariant.narrowed c.read_two_words-both.ensures.ticked (omega arith)

pub two_words-sources-requires-clause-within : goal.two_words-sources-requires-clause-within
two_words-sources-requires-clause-within g c = omega (arith, c.requires.ranks, place-after_within (second g (goal.at.two_words-sources-requires-clause-within g c).After-read_two_words-both))

pub deposit_two_words-kept-requires-clause-counted_first : goal.deposit_two_words-kept-requires-clause-counted_first
deposit_two_words-kept-requires-clause-counted_first g c = (first g (goal.at.deposit_two_words-kept-requires-clause-counted_first g c).After-read_two_words-both).counted

pub deposit_two_words-kept-requires-clause-counted_second : goal.deposit_two_words-kept-requires-clause-counted_second
deposit_two_words-kept-requires-clause-counted_second g c = (second g (goal.at.deposit_two_words-kept-requires-clause-counted_second g c).After-read_two_words-both).counted

pub loop-self-preserved : goal.loop-self-preserved
loop-self-preserved g c =
    let start = (goal.at.loop-self-preserved g c).After-read_two_words-both in
    let f = g.R.RankWords.bit c.args.ranks.now in
    record {
      past = omega (arith, c.loop-self.invariant.past);
      unmoved = λ e. absurd (omega (arith, c.loop-self.invariant.past));
      there = omega (arith, c.loop-self-test.true);
      passed = c.two_words-sources.ensures.passed;
      narrowed = deposited-at (omega arith) (sym c.two_words-sources.ensures.number) (two_counted _ _ _ _ _ c.read_two_words-both.ensures.ticked c.deposit_two_words-kept.ensures.ticked)
          (deposited-more f _
          (deposited-more f _ c.loop-self.invariant.narrowed (first g start) c.two_words-sources.ensures.first c.deposit_two_words-kept.ensures.first c.set_word.ensures.here c.set_word.ensures.others refl)
          (second g start) c.two_words-sources.ensures.second c.deposit_two_words-kept.ensures.second c.set_word-in-loop-self.ensures.here c.set_word-in-loop-self.ensures.others refl);
    }
