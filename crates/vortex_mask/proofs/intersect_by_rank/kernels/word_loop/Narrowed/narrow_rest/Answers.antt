use Rattle.vortex_mask.proofs.Common.{◌≡◌, ◌+◌, refl, ap, subst, arith, count_ones, common_steps, count-word_bits}
use Rattle.vortex_mask.proofs.Kernels.WordKernelLemmas.{deposit-room, deposited-at, deposited-list, deposited-more, deposited-steps, one_counted, word-room, word-started}
use Rattle.vortex_mask.proofs.Lists.StartedWordLemmas.{IsAt, place-after_within}
use Rattle.vortex_mask.proofs.intersect_by_rank.kernels.word_loop.Narrowed.narrow_rest.Goals as goal
use Rattle.vortex_mask.proofs.intersect_by_rank.kernels.word_loop.Narrowed.narrow_rest.Goals.{After-read_word-word}
use Rattle.vortex_mask.proofs.intersect_by_rank.kernels.word_loop.Narrowed.narrow_rest.Given.{Over}

-- the word of a turn
here : (g : Over) (c : After-read_word-word g) → IsAt c.args.chunks.now c.loop-i.i (g.R.RankWords.number c.args.ranks.now c.loop-i.done.at) c.read_word-word.result (count_ones c.read_word-word.result)
here g c = grind (arith, common_steps, word-started, count-word_bits, c.loop-i.invariant.narrowed.place, c.read_word-word.ensures.whole, c.read_word-word.ensures.last)

pub read_word-word-requires-clause-room : goal.read_word-word-requires-clause-room
read_word-word-requires-clause-room g c = word-room _ _ c.loop-i.invariant.narrowed (omega arith)

pub deposit_word-kept-requires-clause-room : goal.deposit_word-kept-requires-clause-room
deposit_word-kept-requires-clause-room g c = deposit-room _ _ _ c.loop-i.invariant.narrowed c.read_word-word.ensures.ticked (omega arith)

pub two_words-requires-clause-within : goal.two_words-requires-clause-within
two_words-requires-clause-within g c = omega (arith, c.requires.ranks, place-after_within (here g (goal.at.two_words-requires-clause-within g c).After-read_word-word))

pub deposit_word-kept-requires-clause-counted : goal.deposit_word-kept-requires-clause-counted
deposit_word-kept-requires-clause-counted g c = (here g (goal.at.deposit_word-kept-requires-clause-counted g c).After-read_word-word).counted

pub loop-i-preserved : goal.loop-i-preserved
loop-i-preserved g c =
    let n = count_ones c.read_word-word.result in
    let e : c.loop-i.done.at + n + 0 ≡ c.loop-i.done.at + n = omega arith in
    let number : g.R.RankWords.number c.args.ranks.now c.loop-i.done.at + n ≡ g.R.RankWords.number c.args.ranks.now (c.loop-i.done.at + n)
    = omega (arith, c.two_words.ensures.number, ap (g.R.RankWords.number c.args.ranks.now) e) in
    record {
      passed = subst (g.R.RankWords.IsPassed c.args.ranks.now c.two_words.new.next) e c.two_words.ensures.passed;
      narrowed = deposited-at refl number refl
          (deposited-more (g.R.RankWords.bit c.args.ranks.now) _ c.loop-i.invariant.narrowed (here g (goal.at.loop-i-preserved g c).After-read_word-word) c.two_words.ensures.first c.deposit_word-kept.ensures.deposited
          c.set_word.ensures.here c.set_word.ensures.others (one_counted _ _ _ c.read_word-word.ensures.ticked c.deposit_word-kept.ensures.ticked));
    }

pub returns-clause-list : goal.returns-clause-list
returns-clause-list g c = deposited-list (g.R.RankWords.bit c.args.ranks.now) _ (omega arith) c.loop-i.invariant.narrowed

pub returns-clause-steps : goal.returns-clause-steps
returns-clause-steps g c = deposited-steps (g.R.RankWords.bit c.args.ranks.now) _ (omega arith) c.loop-i.invariant.narrowed
