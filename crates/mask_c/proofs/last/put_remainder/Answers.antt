use Rattle.mask_c.proofs.Common.{◌∙◌, arith, behind-later, drop-put_mid}
use Rattle.mask_c.proofs.LastLemmas.{put-behind, put-clear, put-cut}
use Rattle.mask_c.proofs.last.put_remainder.Goals as goal

pub returns-clause-list : goal.returns-clause-list
returns-clause-list c =
    put-cut c.args.out.now c.put_lowest.new.out c.args.word c.low_bits.result c.args.len c.div_ceil-end.result
    (put-behind c.args.out.now c.put_lowest.new.out c.low_bits.result c.args.len c.div_ceil-end.result c.requires.room c.div_ceil-end.ensures c.put_lowest.auto.out c.put_lowest.ensures) c.low_bits.ensures

pub returns-clause-clear : goal.returns-clause-clear
returns-clause-clear c =
    put-clear c.args.out.now c.put_lowest.new.out c.args.word c.low_bits.result c.args.len c.div_ceil-end.result
    (put-behind c.args.out.now c.put_lowest.new.out c.low_bits.result c.args.len c.div_ceil-end.result c.requires.room c.div_ceil-end.ensures c.put_lowest.auto.out c.put_lowest.ensures) c.low_bits.ensures

pub returns-clause-behind : goal.returns-clause-behind
returns-clause-behind c = λ old same.
    drop-put_mid _ _ c.args.out.now c.put_lowest.new.out _ (omega (arith, c.div_ceil-end.ensures)) (omega (arith, c.requires.room)) (omega (arith, c.put_lowest.auto.out, c.requires.room, c.div_ceil-end.ensures))
    ∙ behind-later c.args.out.now old _ _ (omega arith) same
