use Rattle.std.proofs.Common.{ℕ, ◌≡◌, ◌<◌, ◌/◌, false, count_by, get_or, length, nat_eq, nat_lt, take}
use Rattle.uses.proofs.row_groups.marked.Given as goal

-- the groups of the indices so far are marked, and no others
abbrev pub invariant-loop-index : goal.invariant-loop-index
invariant-loop-index l = (length l.kept.items ≡ l.groups) × ((g : ℕ) → g < l.groups → get_or l.kept.items g false ≡ nat_lt 0 (count_by (λ p. nat_eq (p / l.size) g) (take l.index-index l.indices)))
