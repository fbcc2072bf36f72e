use Rattle.mask_bits.proofs.Common.{ℕ, ◌+◌, ◌*◌, sym, take, count, arith}
use Rattle.mask_bits.proofs.Lists.Places.PlaceLemmas.{place-within}
use Rattle.mask_bits.proofs.Lists.Places.SelectLemmas.{place_in_word, place_none}
use Rattle.mask_bits.proofs.Lists.Words.WordLemmas.{count-word_bits}
use Rattle.mask_bits.proofs.chunks.BitChunks.select_from.Goals as goal

pub returns-then-left-ones-clause-index : goal.returns-then-left-ones-clause-index
returns-then-left-ones-clause-index c =
    let number : ℕ = count (take (64 * c.args.first) c.args.self.now) + c.args.n in
    grind (arith, place_in_word c.args.self.now c.loop-i.i number c.loop-i.left c.index_in_word.result (omega (arith, c.started_words-i-end.ensures.words)) c.loop-i.invariant, count-word_bits c.started_word-word.result c.started_word-word.type_inv, c.started_word-word.ensures, c.index_in_word.ensures.index, c.started_words-i-end.ensures.words, c.loop-i.invariant)

pub returns-then-left-ones-clause-within : goal.returns-then-left-ones-clause-within
returns-then-left-ones-clause-within c = grind (arith, returns-then-left-ones-clause-index c, place-within c.args.self.now (count (take (64 * c.args.first) c.args.self.now) + c.args.n))

pub returns-clause-index : goal.returns-clause-index
returns-clause-index c =
    sym (place_none c.args.self.now c.loop-i.i (count (take (64 * c.args.first) c.args.self.now) + c.args.n) c.loop-i.left (omega (arith, c.started_words-i-end.ensures.words)) c.loop-i.invariant)
