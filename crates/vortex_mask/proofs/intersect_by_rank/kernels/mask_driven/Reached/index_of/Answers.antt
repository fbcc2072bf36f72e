use Rattle.vortex_mask.proofs.Common.{◌+◌, refl, arith, count-le-length, count-word_bits}
use Rattle.vortex_mask.proofs.Kernels.DepositListLemmas.{selected_is_inside}
use Rattle.vortex_mask.proofs.Kernels.DrivenLemmas.{more-words, place-found, read-more}
use Rattle.vortex_mask.proofs.Kernels.StepLemmas.{read-next, read-none, read-room, select-next, select-room}
use Rattle.vortex_mask.proofs.Lists.StartedWordLemmas.{place-within}
use Rattle.vortex_mask.proofs.intersect_by_rank.kernels.mask_driven.Reached.index_of.Goals as goal

pub overflow_add-end : goal.overflow_add-end
overflow_add-end g c = grind (arith, count-le-length, place-within)

pub loop-end-init : goal.loop-end-init
loop-end-init g c = record {
  read = c.requires.read;
  ends = refl;
  reached = c.requires.ahead;
  ticked = read-none _ _ c.requires.counted;
}

pub read_word-self-requires-clause-room : goal.read_word-self-requires-clause-room
read_word-self-requires-clause-room g c = read-room _ _ _ _ c.loop-end.invariant.ticked (omega (arith, c.requires.fits, more-words _ _ _ _ c.args.rank c.loop-end.invariant.read))

pub overflow_add-end-in-loop-end : goal.overflow_add-end-in-loop-end
overflow_add-end-in-loop-end g c =
    let m = c.args.chunks.now in
    let read = read-more m _ _ _ c.read_word-self.result c.loop-end.end c.loop-end.invariant.read (omega (arith, more-words _ _ _ _ c.args.rank c.loop-end.invariant.read)) c.loop-end.invariant.ends (omega arith) c.read_word-self.ensures.whole c.read_word-self.ensures.last in
    omega (arith, place-within m (c.loop-end.self.words + 1) _ read.counted, count-le-length m, c.requires.fits)

pub loop-end-preserved : goal.loop-end-preserved
loop-end-preserved g c = record {
  read = read-more c.args.chunks.now _ _ _ c.read_word-self.result c.loop-end.end c.loop-end.invariant.read (omega (arith, more-words _ _ _ _ c.args.rank c.loop-end.invariant.read)) c.loop-end.invariant.ends (omega arith) c.read_word-self.ensures.whole c.read_word-self.ensures.last;
  ends = refl;
  reached = c.loop-end-test.true;
  ticked = read-next _ _ _ _ c.loop-end.invariant.ticked c.read_word-self.ensures.ticked;
}

pub select_bit-requires-clause-room : goal.select_bit-requires-clause-room
select_bit-requires-clause-room g c = select-room _ _ _ _ c.loop-end.invariant.ticked c.requires.room

pub select_bit-requires-clause-inside : goal.select_bit-requires-clause-inside
select_bit-requires-clause-inside g c = omega (arith, count-word_bits c.loop-end.self.word (omega arith), c.loop-end.invariant.ends)

pub overflow_add-result : goal.overflow_add-result
overflow_add-result g c = grind (arith, count-word_bits, selected_is_inside)

pub returns-clause-index : goal.returns-clause-index
returns-clause-index g c =
    place-found c.args.chunks.now c.loop-end.self.words c.loop-end.self.word c.loop-end.self.before c.args.rank c.select_bit.result
    c.loop-end.invariant.read (omega arith) c.loop-end.invariant.reached (omega (arith, c.loop-end.invariant.ends)) c.select_bit.ensures.selected

pub returns-clause-ticked : goal.returns-clause-ticked
returns-clause-ticked g c = select-next _ _ _ _ _ _ c.loop-end.invariant.ticked c.select_bit.ensures.ticked (grind (arith, count-word_bits, selected_is_inside))
