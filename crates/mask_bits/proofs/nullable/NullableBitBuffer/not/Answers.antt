use Rattle.mask_bits.proofs.Common.{sym}
use Rattle.mask_bits.proofs.Lists.NullableLemmas.{not-both, cleared-both, plain_not, plain_is_true, length-not_kleene_of}
use Rattle.mask_bits.proofs.nullable.NullableBitBuffer.not.Goals as goal

pub returns-in_ok-clone-in-Some-clause-list : goal.returns-in_ok-clone-in-Some-clause-list
returns-in_ok-clone-in-Some-clause-list c =
    rw (← c.self.view_is, c.in-Some.is, c.in_ok-clone-in-Some.ensures, c.in_ok-bitand_not-in-Some.ensures.list) (not-both _ _)

pub returns-in_ok-clone-in-Some-clause-len : goal.returns-in_ok-clone-in-Some-clause-len
returns-in_ok-clone-in-Some-clause-len c =
    rw (← c.self.view_is, c.in-Some.is, c.in_ok-clone-in-Some.ensures, c.in_ok-bitand_not-in-Some.ensures.list, not-both) (length-not_kleene_of _)

pub returns-in_ok-clone-in-Some-clause-cleared : goal.returns-in_ok-clone-in-Some-clause-cleared
returns-in_ok-clone-in-Some-clause-cleared c =
    rw (c.in_ok-clone-in-Some.ensures, c.in_ok-bitand_not-in-Some.ensures.list) (sym (cleared-both _ _))

pub returns-in_ok-not-in-None-clause-list : goal.returns-in_ok-not-in-None-clause-list
returns-in_ok-not-in-None-clause-list c =
    rw (c.all_valid.ensures, ← c.self.view_is, c.in-None.is, c.in_ok-not-in-None.ensures.list) (sym (plain_not _))

pub returns-in_ok-not-in-None-clause-cleared : goal.returns-in_ok-not-in-None-clause-cleared
returns-in_ok-not-in-None-clause-cleared c = rw c.all_valid.ensures (sym (plain_is_true _))
