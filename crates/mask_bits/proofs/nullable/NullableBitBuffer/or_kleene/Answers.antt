use Rattle.mask_bits.proofs.Common.{◌||◌, sym}
use Rattle.mask_bits.specs.Nullable.{or_kleene}
use Rattle.mask_bits.proofs.Lists.NullableLemmas.{plain_by, plain_or, plain_is_true}
use Rattle.mask_bits.proofs.nullable.NullableBitBuffer.or_kleene.Goals as goal

pub returns-in_ok-bitor-in-None-None-clause-list : goal.returns-in_ok-bitor-in-None-None-clause-list
returns-in_ok-bitor-in-None-None-clause-list c =
    rw (c.all_valid.ensures, ← c.self.view_is, ← c.other.view_is, c.in-None-None.is-0, c.in-None-None.is-1, c.in_ok-bitor-in-None-None.ensures.list) (sym (plain_by or_kleene (λ x y. x || y) plain_or _ _))

pub returns-in_ok-bitor-in-None-None-clause-cleared : goal.returns-in_ok-bitor-in-None-None-clause-cleared
returns-in_ok-bitor-in-None-None-clause-cleared c = rw c.all_valid.ensures (sym (plain_is_true _))
