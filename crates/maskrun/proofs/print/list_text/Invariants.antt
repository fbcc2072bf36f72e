use Rattle.std.proofs.Common.{◌≡◌, ◌++◌, codes, take, string_bytes}
use Rattle.std.specs.List.{flat_map}
use Rattle.maskrun.proofs.print.list_text.Given as goal

-- the items so far stand behind what was there
abbrev pub invariant-loop-item : goal.invariant-loop-item
invariant-loop-item g l = string_bytes l.line ≡ string_bytes l.initial.line ++ flat_map (λ item. codes " " ++ g.T.Item.text item) (take l.item-index l.rest)
