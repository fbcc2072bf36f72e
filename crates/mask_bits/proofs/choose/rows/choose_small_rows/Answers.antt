use Rattle.mask_bits.proofs.Common.{◌≡◌, ℕ, ◌*◌, ◌/◌, length, take, chosen, ap, ◌∙◌, refl, sym, arith, take_rest}
use Rattle.mask_bits.proofs.Lists.PushRowsLemmas.{chosen_of_none, part_len, word_room, rest_room, rest_within, rest_pushed, word_pushed}
use Rattle.mask_bits.proofs.choose.rows.choose_small_rows.Goals as goal

pub loop-i-init : goal.loop-i-init
loop-i-init g c = record { items = c.requires.empty ∙ sym chosen_of_none; kept = refl }

pub push_small_rows-requires-clause-whole : goal.push_small_rows-requires-clause-whole
push_small_rows-requires-clause-whole g c =
    part_len c.args.rows.now _ (64 * c.loop-i.i) 64 (omega (arith, c.len-words.ensures, c.requires.fitting, c.loop-i-test.true)) c.part.ensures

pub push_small_rows-requires-clause-room : goal.push_small_rows-requires-clause-room
push_small_rows-requires-clause-room g c =
    omega (arith, ap g.R.Room.capacity c.loop-i.invariant.kept, word_room c.args.rows.now _ c.args.chunks.now c.loop-i.i c.word.result _ c.requires.fitting c.word.ensures c.loop-i.invariant.items c.requires.room)

pub loop-i-preserved : goal.loop-i-preserved
loop-i-preserved g c =
    let m = c.args.chunks.now in
    let i = c.loop-i.i in
    record {
      items = word_pushed c.args.rows.now _ (g.R.Room.items c.loop-i.out) (g.R.Room.items c.push_small_rows.new.out) m i 64 c.word.result c.requires.fitting c.part.ensures (omega arith) (omega (arith, c.len-words.ensures, c.requires.fitting, c.loop-i-test.true)) c.word.ensures c.loop-i.invariant.items
          c.push_small_rows.ensures.rows;
      kept = c.push_small_rows.ensures.kept ∙ c.loop-i.invariant.kept;
    }

pub push_last_small_rows-requires-clause-within : goal.push_last_small_rows-requires-clause-within
push_last_small_rows-requires-clause-within g c =
    rest_within c.args.rows.now _ c.args.chunks.now _ c.remainder_bits.result c.requires.fitting (ap (λ n. 64 * n) c.len-words.ensures) (take_rest c.args.rows.now _) c.remainder_bits.ensures

pub push_last_small_rows-requires-clause-room : goal.push_last_small_rows-requires-clause-room
push_last_small_rows-requires-clause-room g c =
    let m = c.args.chunks.now in
    let rows = c.args.rows.now in
    let n : ℕ = 64 * c.len-words.result in
    let whole : n ≡ 64 * (length m / 64) = ap (λ k. 64 * k) c.len-words.ensures in
    let all : c.loop-i.i ≡ c.len-words.result = omega (arith, c.loop-i.auto.i-end, c.loop-i-test.false) in
    let before = c.loop-i.invariant.items ∙ ap (λ k. chosen (take (64 * k) rows) (take (64 * k) m)) all in
    omega (arith, ap g.R.Room.capacity c.loop-i.invariant.kept, rest_room rows _ m n c.remainder_bits.result _ c.requires.fitting whole c.remainder_bits.ensures before c.requires.room)

pub returns-clause-rows : goal.returns-clause-rows
returns-clause-rows g c =
    let m = c.args.chunks.now in
    let rows = c.args.rows.now in
    let n : ℕ = 64 * c.len-words.result in
    let whole : n ≡ 64 * (length m / 64) = ap (λ k. 64 * k) c.len-words.ensures in
    let all : c.loop-i.i ≡ c.len-words.result = omega (arith, c.loop-i.auto.i-end, c.loop-i-test.false) in
    let before = c.loop-i.invariant.items ∙ ap (λ k. chosen (take (64 * k) rows) (take (64 * k) m)) all in
    rest_pushed rows _ (g.R.Room.items c.loop-i.out) (g.R.Room.items c.push_last_small_rows.new.out) m n c.remainder_bits.result c.requires.fitting whole (take_rest rows n) c.remainder_bits.ensures before c.push_last_small_rows.ensures.rows
