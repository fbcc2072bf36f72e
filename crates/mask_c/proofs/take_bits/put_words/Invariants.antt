use Rattle.mask_c.proofs.Common.{ℕ, ◌≡◌, ◌+◌, ◌*◌, ◌<◌, false, get_or, map, backing_bit}
use Rattle.mask_c.proofs.take_bits.put_words.Given as goal

-- the values of the words so far are written
abbrev pub invariant-loop-i : goal.invariant-loop-i
invariant-loop-i g l = (p : ℕ) → p < 64 * l.i → backing_bit l.out p ≡ get_or (map (λ i. backing_bit l.bytes (l.offset + g.N.RowIndex.row_number i)) l.indices) p false
