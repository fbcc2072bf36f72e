use Rattle.mask_c.proofs.LastLemmas.{cleared-list, cleared-clear}
use Rattle.mask_c.proofs.last.clear_behind.Goals as goal

pub returns-then-len-ne0-clause-list : goal.returns-then-len-ne0-clause-list
returns-then-len-ne0-clause-list c = cleared-list c.args.bytes.now c.args.len c.if-len-ne0.true c.requires.room

pub returns-then-len-ne0-clause-clear : goal.returns-then-len-ne0-clause-clear
returns-then-len-ne0-clause-clear c = cleared-clear c.args.bytes.now c.args.len c.if-len-ne0.true c.requires.room
