use Rattle.std.specs.Option.{is_some}
use Rattle.mask_bits.specs.Nullable.{is_true}
use Rattle.mask_bits.proofs.KleeneLemmas.{AreOfTable-step}
use Rattle.mask_bits.proofs.kleene.extend.Goals as goal

pub loop-i-preserved : goal.loop-i-preserved
loop-i-preserved g c =
    let both = c.of-word.ensures _ _ c.word.ensures c.word-in-loop-i.ensures in
    record {
      values = AreOfTable-step is_true g.C.KleeneOp.table c.args.a c.args.b c.loop-i.values c.set_word.new.bytes c.loop-i.i _
          c.loop-i.invariant.values both.trues c.set_word.ensures.here c.set_word.ensures.others;
      validity = AreOfTable-step is_some g.C.KleeneOp.table c.args.a c.args.b c.loop-i.validity c.set_word-in-loop-i.new.bytes c.loop-i.i _
          c.loop-i.invariant.validity (c.valid.ensures _ both) c.set_word-in-loop-i.ensures.here c.set_word-in-loop-i.ensures.others;
    }
