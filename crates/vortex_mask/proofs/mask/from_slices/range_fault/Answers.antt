use Rattle.vortex_mask.proofs.Common.{ℕ, ◌≡◌, Bool, not, ◌&&◌, nat_lt, nat_le, rules, tests, position, YieldsList-from_slice, position_from_yields_List}
use Rattle.vortex_mask.proofs.mask.from_slices.range_fault.Goals as goal

pub returns : goal.returns
returns c =
    let bad : ℕ × ℕ → Bool = λ r. not (nat_lt r.0 r.1 && nat_le r.1 c.args.len) in
    let at : c.position.result ≡ position bad c.args.ranges.now
    = position_from_yields_List bad _ _ _ c.position.ensures.ran (YieldsList-from_slice c.args.ranges.now cc) (λ x b q k. search (rules, tests)) in
    rw (← at) (search rules)
