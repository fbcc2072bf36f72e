use Rattle.vortex_mask.proofs.Common.{◌≡◌, ◌++◌, drop, map, concat, count}
use Rattle.vortex_mask.proofs.mask.concat.buffer_of.Given as goal

abbrev pub invariant-loop-mask : goal.invariant-loop-mask
invariant-loop-mask g l = record {
  list : l.buffer ++ concat (map g.M.AsMask.list (drop l.mask-index l.masks)) ≡ concat (map g.M.AsMask.list l.masks);
  counted : l.true_count ≡ count l.buffer;
}
