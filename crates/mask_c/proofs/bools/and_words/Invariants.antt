use Rattle.mask_c.proofs.Common.{◌*◌, IsNarrowed}
use Rattle.mask_c.proofs.bools.and_words.Given as goal

-- the words so far are narrowed
abbrev pub invariant-loop-i : goal.invariant-loop-i
invariant-loop-i l = IsNarrowed l.initial.bytes l.bytes l.values (64 * l.i)
