use Rattle.mask_c.proofs.Common.{◌≡◌, ◌<◌, ◌≤◌, ◌+◌, ◌-◌, ◌++◌, ◌∷◌, ℕ, Bool, List, length, map, take, subst, sym, ap, ◌∙◌, arith, All, length-set, All-tail, drop_of_length-le, refl, runs_from, length-bitmap}
use Rattle.mask_c.proofs.ChooseLemmas.{behind-more}
use Rattle.mask_c.proofs.IndexLemmas.{bitmap-rest}
use Rattle.mask_c.proofs.RunLemmas.{first_run, moved, pair, run_of, run_more, moved_runs, length_moved}
use Rattle.mask_c.proofs.runs.row_mask_next_runs.Goals as goal

pub returns-then-from-len-clause-runs : goal.returns-then-from-len-clause-runs
returns-then-from-len-clause-runs c = grind (arith, drop_of_length-le, length-bitmap)

pub returns-then-from-len-clause-count : goal.returns-then-from-len-clause-count
returns-then-from-len-clause-count c = grind (arith, drop_of_length-le, length-bitmap)

pub loop-at-init : goal.loop-at-init
loop-at-init c =
    let from = c.args.from in
    let m : List Bool = c.new.result in
    let rest = c.new.ensures.list ∙ bitmap-rest c.args.bytes.now c.args.offset c.args.len from (omega (arith, c.if-from-len.false)) in
    let all = ap (map (moved from)) c.new-runs.ensures.list ∙ moved_runs from m ∙ ap (runs_from from) rest in
    record {
      all = all;
      counted = omega (arith, ap length c.new-runs.ensures.list, length_moved from m, ap (λ (m : List Bool). length (runs_from from m)) rest);
      nonempty = c.new-runs.ensures.runs.nonempty;
      within = subst (λ (n : ℕ). All (λ (r : ℕ × ℕ). r.1 ≤ n) c.new-runs.result) (ap length c.new.ensures.list ∙ length-bitmap c.args.bytes.now (c.args.offset + from) (c.args.len - from)) c.new-runs.ensures.runs.within;
      room = omega arith;
      behind = refl;
    }

pub overflow_add-out : goal.overflow_add-out
overflow_add-out c =
    omega (arith, first_run c.loop-at.runs c.next.new.self (c.in-Some.start, c.in-Some.end) (c.args.len - c.args.from) c.in-Some.ensures.steps c.loop-at.invariant.nonempty c.loop-at.invariant.within)

pub overflow_add-out-in-loop-at : goal.overflow_add-out-in-loop-at
overflow_add-out-in-loop-at c =
    omega (arith, first_run c.loop-at.runs c.next.new.self (c.in-Some.start, c.in-Some.end) (c.args.len - c.args.from) c.in-Some.ensures.steps c.loop-at.invariant.nonempty c.loop-at.invariant.within)

pub loop-at-preserved : goal.loop-at-preserved
loop-at-preserved c =
    let from = c.args.from in
    let at = c.loop-at.at in
    let out = c.loop-at.out in
    let was = c.loop-at.invariant in
    let r : ℕ × ℕ = (c.in-Some.start, c.in-Some.end) in
    let left : List (ℕ × ℕ) = c.next.new.self in
    let step : c.loop-at.runs ≡ r ∷ left = c.in-Some.ensures.steps in
    let inside : at < length out = omega (arith, c.loop-at-test.true, c.loop-at.auto.out) in
    record {
      all = run_more from at out r left inside
          ∙ ap (λ (rs : List (ℕ × ℕ)). map pair (take at out) ++ map (moved from) rs) (sym step)
          ∙ was.all;
      counted = omega (arith, ap length step, was.counted);
      nonempty = All-tail (λ (r : ℕ × ℕ). r.0 < r.1) r left (subst (All (λ (r : ℕ × ℕ). r.0 < r.1)) step was.nonempty);
      within = All-tail (λ (r : ℕ × ℕ). r.1 ≤ c.args.len - from) r left (subst (All (λ (r : ℕ × ℕ). r.1 ≤ c.args.len - from)) step was.within);
      room = omega (arith, inside, length-set out at (run_of from r));
      behind = behind-more out c.args.out.now at (at + 1) (run_of from r) (omega arith) was.behind;
    }
