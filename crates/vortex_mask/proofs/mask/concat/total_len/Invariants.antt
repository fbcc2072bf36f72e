use Rattle.vortex_mask.proofs.Common.{◌≡◌, ◌+◌, drop, map, total_len}
use Rattle.vortex_mask.proofs.mask.concat.total_len.Given as goal

abbrev pub invariant-loop-mask : goal.invariant-loop-mask
invariant-loop-mask g l = l.total + total_len (map g.M.AsMask.list (drop l.mask-index l.masks)) ≡ total_len (map g.M.AsMask.list l.masks)
