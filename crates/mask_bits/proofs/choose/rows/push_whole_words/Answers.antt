use Rattle.mask_bits.proofs.Common.{◌*◌, ap, ◌∙◌, arith}
use Rattle.mask_bits.proofs.Lists.PushRowsLemmas.{part_len, word_room, word_pushed}
use Rattle.mask_bits.proofs.choose.rows.push_whole_words.Goals as goal

pub push_rows_of_word-requires-clause-whole : goal.push_rows_of_word-requires-clause-whole
push_rows_of_word-requires-clause-whole g c =
    omega (arith, c.requires.enough, part_len c.args.rows.now _ (64 * c.loop-i.i) g.row.ROWS (c.requires.within c.loop-i.i c.loop-i-test.true) c.part.ensures)

pub push_rows_of_word-requires-clause-room : goal.push_rows_of_word-requires-clause-room
push_rows_of_word-requires-clause-room g c =
    omega (arith, ap g.R.Room.capacity c.loop-i.invariant.kept, word_room c.args.rows.now _ c.args.chunks.now c.loop-i.i c.word.result _ c.requires.fitting c.word.ensures c.loop-i.invariant.items c.requires.room)

pub loop-i-preserved : goal.loop-i-preserved
loop-i-preserved g c =
    let m = c.args.chunks.now in
    let i = c.loop-i.i in
    record {
      items = word_pushed c.args.rows.now _ (g.R.Room.items c.loop-i.out) (g.R.Room.items c.push_rows_of_word.new.out) m i g.row.ROWS c.word.result c.requires.fitting c.part.ensures c.requires.enough (omega (arith, c.requires.within i c.loop-i-test.true)) c.word.ensures c.loop-i.invariant.items
          c.push_rows_of_word.ensures.rows;
      kept = c.push_rows_of_word.ensures.kept ∙ c.loop-i.invariant.kept;
    }
