use Rattle.mask_c.proofs.nullable.row_mask_and_kleene.Goals as goal

pub write-requires-clause-a : goal.write-requires-clause-a
write-requires-clause-a c = c.with_validity-a.ensures.within c.args.len c.requires.a c.requires.a_validity

pub write-requires-clause-b : goal.write-requires-clause-b
write-requires-clause-b c = c.with_validity-b.ensures.within c.args.len c.requires.b c.requires.b_validity
