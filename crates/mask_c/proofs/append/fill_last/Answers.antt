use Rattle.mask_c.proofs.Common.{◌/◌, append-nil, arith, div_ceil, drop-set-lt, no_values}
use Rattle.mask_c.proofs.AppendLemmas.{filled-values}
use Rattle.mask_c.proofs.append.fill_last.Goals as goal

pub returns-then-low-eq0-clause-values : goal.returns-then-low-eq0-clause-values
returns-then-low-eq0-clause-values c = grind (arith, append-nil, no_values)

pub returns-clause-values : goal.returns-clause-values
returns-clause-values c =
    filled-values c.args.bytes.now c.args.more.now c.args.len c.args.more_offset c.min.result _ _
    (omega (arith, c.if-low-eq0.false)) (omega (arith, c.if-low-eq0.false, c.min.ensures)) (omega (arith, c.if-low-eq0.false, c.requires.room)) c.word_at.ensures c.begun_byte.ensures.kept c.begun_byte.ensures.put

pub returns-clause-behind : goal.returns-clause-behind
returns-clause-behind c = drop-set-lt (div_ceil c.args.len 8) c.args.bytes.now (c.args.len / 8) c.begun_byte.result (omega (arith, c.if-low-eq0.false))
