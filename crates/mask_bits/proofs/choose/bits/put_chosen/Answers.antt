use Rattle.mask_bits.proofs.ChosenBitLemmas.{AreChosenAt, AreChosenSoFar-more}
use Rattle.mask_bits.proofs.choose.bits.put_chosen.Goals as goal

pub loop-i-preserved : goal.loop-i-preserved
loop-i-preserved c =
    let here : AreChosenAt c.args.values.now c.args.masks.now c.loop-i.i c.started_word.result c.started_word-mask.result c.extract-word.result
    = record { fits = c.started_word-mask.type_inv; reads = c.started_word.ensures; chooses = c.started_word-mask.ensures; extracts = c.extract-word.ensures } in
    let put = c.put_behind-last.ensures in
    AreChosenSoFar-more c.put_behind-last.new.out c.put_behind-last.result.word c.put_behind-last.result.count c.requires.fitting here c.loop-i.invariant put.count put.list put.begun put.behind
