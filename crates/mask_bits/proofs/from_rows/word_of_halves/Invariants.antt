use Rattle.mask_bits.proofs.Common.{◌≡◌, ℕ, ◌≤◌, ◌*◌, take, FnReturnsAt, bit_at, AreAnswers, word_bits}
use Rattle.mask_bits.proofs.from_rows.word_of_halves.Given as goal

-- the word has the answers so far, and no bits past them
abbrev pub invariant-loop-k : goal.invariant-loop-k
invariant-loop-k g l = record {
  answers : AreAnswers (FnReturnsAt g.F.Fn l.test) (take (32 * l.k) l.rows) (take (32 * l.k) (word_bits l.word));
  clear : (j : ℕ) → 32 * l.k ≤ j → bit_at l.word j ≡ 0;
}
