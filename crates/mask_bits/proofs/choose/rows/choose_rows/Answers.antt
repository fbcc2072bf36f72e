use Rattle.mask_bits.proofs.Common.{◌≡◌, ℕ, ◌*◌, ◌/◌, length, ap, ◌∙◌, sym, arith, take_rest}
use Rattle.mask_bits.proofs.Lists.PushRowsLemmas.{chosen_of_none, rest_room, rest_within, rest_pushed}
use Rattle.mask_bits.proofs.choose.rows.choose_rows.Goals as goal

pub push_whole_words-requires-clause-begun : goal.push_whole_words-requires-clause-begun
push_whole_words-requires-clause-begun g c = c.requires.empty ∙ sym chosen_of_none

pub push_rows_one_by_one-requires-clause-within : goal.push_rows_one_by_one-requires-clause-within
push_rows_one_by_one-requires-clause-within g c =
    rest_within c.args.rows.now _ c.args.chunks.now _ c.remainder_bits.result c.requires.fitting (ap (λ n. 64 * n) c.len-whole.ensures) (take_rest c.args.rows.now _) c.remainder_bits.ensures

pub push_rows_one_by_one-requires-clause-room : goal.push_rows_one_by_one-requires-clause-room
push_rows_one_by_one-requires-clause-room g c =
    let m = c.args.chunks.now in
    let n : ℕ = 64 * c.len-whole.result in
    let whole : n ≡ 64 * (length m / 64) = ap (λ k. 64 * k) c.len-whole.ensures in
    let before = c.push_whole_words-2.ensures in
    omega (arith, ap g.R.Room.capacity (before.kept ∙ c.push_whole_words.ensures.kept), rest_room c.args.rows.now _ m n c.remainder_bits.result _ c.requires.fitting whole c.remainder_bits.ensures before.rows c.requires.room)

pub returns-clause-rows : goal.returns-clause-rows
returns-clause-rows g c =
    let rows = c.args.rows.now in
    let n : ℕ = 64 * c.len-whole.result in
    let whole : n ≡ 64 * (length c.args.chunks.now / 64) = ap (λ k. 64 * k) c.len-whole.ensures in
    rest_pushed rows _ (g.R.Room.items c.push_whole_words-2.new.out) (g.R.Room.items c.push_rows_one_by_one.new.out) c.args.chunks.now n c.remainder_bits.result c.requires.fitting whole (take_rest rows n) c.remainder_bits.ensures
    c.push_whole_words-2.ensures.rows c.push_rows_one_by_one.ensures.rows
