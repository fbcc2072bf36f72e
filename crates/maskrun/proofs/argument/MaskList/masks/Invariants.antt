use Rattle.std.proofs.Common.{◌≡◌, map, take, string_bytes}
use Rattle.maskrun.specs.Arguments.{mask_said}
use Rattle.vortex_mask.specs.Mask.{truth}
use Rattle.maskrun.proofs.argument.MaskList.masks.Given as goal

abbrev pub invariant-loop-text : goal.invariant-loop-text
invariant-loop-text l = map truth l.masks.items ≡ map mask_said (map string_bytes (take l.text-index l.text-items))
