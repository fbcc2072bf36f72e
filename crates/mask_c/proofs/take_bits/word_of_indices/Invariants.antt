use Rattle.mask_c.proofs.Common.{ℕ, ◌≡◌, ◌+◌, ◌<◌, false, get_or, length, map, take, backing_bit}
use Rattle.mask_c.proofs.take_bits.word_of_indices.Given as goal

-- the values so far, with false ones behind them
abbrev pub invariant-loop-j : goal.invariant-loop-j
invariant-loop-j g l = record {
  len : length l.bits ≡ 64;
  each : (k : ℕ) → k < 64 → get_or l.bits k false ≡ get_or (map (λ i. backing_bit l.bytes (l.offset + g.N.RowIndex.row_number i)) (take l.j l.indices)) k false;
}
