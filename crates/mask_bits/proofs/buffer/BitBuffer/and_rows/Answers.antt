use Rattle.mask_bits.proofs.Common.{◌≡◌, length, sym, subst, ap, ◌∙◌, arith, FnReturnsAt, IfOk-weaker, bitmap, values, AreLeft}
use Rattle.mask_bits.proofs.CombineLemmas.{take_back}
use Rattle.mask_bits.proofs.LeftLemmas.{computed_of_left}
use Rattle.mask_bits.proofs.buffer.BitBuffer.and_rows.Goals as goal

pub returns-clause-left : goal.returns-clause-left
returns-clause-left g c =
    let rows = c.args.rows.now in
    let gives = FnReturnsAt g.F.Fn c.args.test in
    let bytes = c.in_ok-bytes.bytes in
    let new = c.and_rows_in_place.new.bytes in
    let before = values c.args.self.now in
    let was : bitmap c.deref_mut.result.now 0 (length rows) ≡ before
    = ap (λ xs. bitmap xs 0 (length rows)) c.deref_mut.ensures.value ∙ ap (bitmap bytes.items 0) c.requires.same_len ∙ c.in_ok-bytes.ensures.list in
    let are = subst (λ m. AreLeft gives rows m (bitmap new 0 (length rows))) was c.and_rows_in_place.ensures in
    let back = take_back bytes.len new bytes.items (omega arith) in
    IfOk-weaker c.from_list.result _ _ (λ b same. subst (λ p. AreLeft gives rows before (values p)) (sym same) (subst (λ xs. AreLeft gives rows before (bitmap xs 0 (length rows))) (sym back) are)) c.from_list.ensures.buffer

pub returns-clause-list : goal.returns-clause-list
returns-clause-list g c =
    IfOk-weaker c.from_list.result _ _ (λ b are. computed_of_left g.F.Fn c.args.test c.args.rows.now (values c.args.self.now) (values b) (sym c.requires.same_len) are) (returns-clause-left g c)
