use Rattle.mask_bits.proofs.Common.{◌≡◌, ◌+◌, ◌*◌, subst, arith, rules, AreChosenSoFar}
use Rattle.mask_bits.proofs.ChosenBitLemmas.{AreChosenAt-whole, AreChosenSoFar-none, AreChosenSoFar-more, chosen-within, extracted-clear}
use Rattle.mask_bits.proofs.Lists.Places.PlaceLemmas.{count-le-length}
use Rattle.mask_bits.proofs.choose.bits.put_pairs.Goals as goal

pub loop-pair-init : goal.loop-pair-init
loop-pair-init c = AreChosenSoFar-none c.args.values.now c.args.masks.now c.args.out.now

pub put_behind-last-requires : goal.put_behind-last-requires
put_behind-last-requires c =
    let s = c.args.values.now in
    let m = c.args.masks.now in
    let first = AreChosenAt-whole s m (2 * c.loop-pair.pair) c.word-in-loop-pair-2.result c.word.result _ c.requires.fitting (omega (arith, c.loop-pair-test.true, c.len-pair-end.ensures)) c.word.type_inv c.word-in-loop-pair-2.ensures c.word.ensures c.extract_two-words.ensures.first in
    let within = chosen-within first c.loop-pair.invariant in
    record {
      few = search rules;
      begun = search rules;
      word = grind (arith, extracted-clear);
      room = omega (arith, within, c.requires.room, c.loop-pair.auto.out);
      fits = omega (arith, within, c.requires.fits, count-le-length m);
    }

pub put_behind-last-requires-in-loop-pair : goal.put_behind-last-requires-in-loop-pair
put_behind-last-requires-in-loop-pair c =
    let s = c.args.values.now in
    let m = c.args.masks.now in
    let first = AreChosenAt-whole s m (2 * c.loop-pair.pair) c.word-in-loop-pair-2.result c.word.result _ c.requires.fitting (omega (arith, c.loop-pair-test.true, c.len-pair-end.ensures)) c.word.type_inv c.word-in-loop-pair-2.ensures c.word.ensures c.extract_two-words.ensures.first in
    let second = AreChosenAt-whole s m (2 * c.loop-pair.pair + 1) c.word-in-loop-pair-3.result c.word-in-loop-pair.result _ c.requires.fitting (omega (arith, c.loop-pair-test.true, c.len-pair-end.ensures)) c.word-in-loop-pair.type_inv c.word-in-loop-pair-3.ensures c.word-in-loop-pair.ensures c.extract_two-words.ensures.second in
    let put = c.put_behind-last.ensures in
    let so_far = AreChosenSoFar-more c.put_behind-last.new.out c.put_behind-last.result.word c.put_behind-last.result.count c.requires.fitting first c.loop-pair.invariant put.count put.list put.begun put.behind in
    let within = chosen-within second so_far in
    record {
      few = search rules;
      begun = search rules;
      word = grind (arith, extracted-clear);
      room = omega (arith, within, c.requires.room, c.loop-pair.auto.out, c.put_behind-last.auto.out);
      fits = omega (arith, within, c.requires.fits, count-le-length m);
    }

pub loop-pair-preserved : goal.loop-pair-preserved
loop-pair-preserved c =
    let s = c.args.values.now in
    let m = c.args.masks.now in
    let first = AreChosenAt-whole s m (2 * c.loop-pair.pair) c.word-in-loop-pair-2.result c.word.result _ c.requires.fitting (omega (arith, c.loop-pair-test.true, c.len-pair-end.ensures)) c.word.type_inv c.word-in-loop-pair-2.ensures c.word.ensures c.extract_two-words.ensures.first in
    let second = AreChosenAt-whole s m (2 * c.loop-pair.pair + 1) c.word-in-loop-pair-3.result c.word-in-loop-pair.result _ c.requires.fitting (omega (arith, c.loop-pair-test.true, c.len-pair-end.ensures)) c.word-in-loop-pair.type_inv c.word-in-loop-pair-3.ensures c.word-in-loop-pair.ensures c.extract_two-words.ensures.second in
    let put = c.put_behind-last.ensures in
    let so_far = AreChosenSoFar-more c.put_behind-last.new.out c.put_behind-last.result.word c.put_behind-last.result.count c.requires.fitting first c.loop-pair.invariant put.count put.list put.begun put.behind in
    let then = c.put_behind-last-in-loop-pair.ensures in
    let next : 2 * c.loop-pair.pair + 1 + 1 ≡ 2 * (c.loop-pair.pair + 1) = omega arith in
    subst (λ i. AreChosenSoFar s m i c.args.out.now c.put_behind-last-in-loop-pair.new.out c.put_behind-last-in-loop-pair.result.word c.put_behind-last-in-loop-pair.result.count) next
    (AreChosenSoFar-more c.put_behind-last-in-loop-pair.new.out c.put_behind-last-in-loop-pair.result.word c.put_behind-last-in-loop-pair.result.count c.requires.fitting second so_far then.count then.list then.begun then.behind)
