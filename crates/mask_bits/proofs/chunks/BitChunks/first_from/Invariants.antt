use Rattle.mask_bits.proofs.Common.{◌≡◌, ◌-◌, ◌≤◌, ◌<◌, ℕ, false, not, get_or, length}
use Rattle.mask_bits.proofs.chunks.BitChunks.first_from.Given as goal

-- no index so far holds the value
abbrev pub invariant-loop-index : goal.invariant-loop-index
invariant-loop-index l = record {
  from : l.from ≤ l.index;
  within : l.index ≤ length l.self;
  passed : (i : ℕ) → l.from ≤ i → i < l.index → get_or l.self i false ≡ not l.value;
}

abbrev pub decreases-loop-index : goal.decreases-loop-index
decreases-loop-index l = length l.self - l.index
