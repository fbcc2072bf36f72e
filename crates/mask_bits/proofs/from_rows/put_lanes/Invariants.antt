use Rattle.mask_bits.proofs.Common.{◌≡◌, ◌++◌, List, length, take, FnReturnsAt, ArePacked}
use Rattle.mask_bits.proofs.from_rows.put_lanes.Given as goal

-- the answers so far have their lanes, behind those that were there
abbrev pub invariant-loop-j : goal.invariant-loop-j
invariant-loop-j g l = (front : List g.row.T.Denot) → length front ≡ l.at → ArePacked g.row.N (FnReturnsAt g.F.Fn l.test) front l.fn.lanes
    → ArePacked g.row.N (FnReturnsAt g.F.Fn l.test) (front ++ take l.j l.rows) l.lanes
