-- The walks over a mask: each run of calls gives what is left, and what a walk over a mask of one value has.
use Rattle.vortex_mask.proofs.Common.{Option, zero, sym, Bool, replicate, ◌≡◌, ℕ, suc, ◌+◌, ◌-◌, ◌<◌, List, ◌∷◌, length, ap, arith, Drains, DrainsIf, YieldsFirst, range_with_len, YieldsInOrder, WholeRun, total_runs, from_front, as_is, get_or-range_with_len, length-range_with_len, repeated, values_left, indices_left, ranges_left, length-repeated, nil-repeated, positions-all_true, positions-all_false, positions-ascending, positions-within, all_false_has_no_run, all_true_is_one_run}

in_order : {S A : Type 0} (left : S → List A) → YieldsInOrder (YieldsFirst left) left
in_order left p seen = as_is p (left p.from) (from_front (YieldsFirst left) (λ x. x) left (λ s t h. ap length h.0) (λ s x t h. h) p seen)

pub values_in_order : YieldsInOrder (YieldsFirst values_left) values_left
values_in_order = in_order values_left

pub indices_in_order : YieldsInOrder (YieldsFirst indices_left) indices_left
indices_in_order = in_order indices_left

pub ranges_in_order : YieldsInOrder (YieldsFirst ranges_left) ranges_left
ranges_in_order = in_order ranges_left

pub ruleset index_walks = (indices_in_order, length-repeated, length-range_with_len, get_or-range_with_len, positions-all_true, positions-all_false, positions-ascending, positions-within)

-- ---- a range of indices

-- the first of them, and those past it
pub range-next : (n e : ℕ) → n < e → range_with_len n (e - n) ≡ n ∷ range_with_len (n + 1) (e - (n + 1))
range-next n e h = grind (arith)

pub repeated-next : (n : ℕ) (v : Bool) → 0 < n → repeated n v ≡ v ∷ repeated (n - 1) v
unfolding repeated
repeated-next zero v h = absurd (omega (arith, h))
repeated-next (suc n) v h = let e : suc n - 1 ≡ n = omega arith in ap (λ k. v ∷ replicate k v) (sym e)

pub ruleset next_facts = (length-repeated, nil-repeated, repeated-next, range-next, all_true_is_one_run, all_false_has_no_run)

-- ---- what an iterator gave to its end, told as a list and as a run

pub drained : {S A : Type 0} (steps : S → Option A → S → Type 0) (s : S) (xs : List A) → DrainsIf steps (Unit {0}) s xs → Drains steps s xs
drained steps s xs d = let last = d.2 tt in (last.0, (d.0, d.1, last.1))

pub whole_run : {S A : Type 0} (steps : S → Option A → S → Type 0) (s : S) (P : List A → Type 0) (xs : List A) → Drains steps s xs → P xs → WholeRun steps s (λ p. P p.items)
whole_run steps s P xs came holds = total_runs steps s (Unit {0}) P (xs, λ u. came, holds) tt
