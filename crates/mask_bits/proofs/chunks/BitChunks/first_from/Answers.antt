use Rattle.mask_bits.proofs.Common.{not, inl, inr, arith, cases_lt, Packed}
use Rattle.mask_bits.proofs.BufferLemmas.{len-of_list}
use Rattle.mask_bits.proofs.FirstLemmas.{passed_more, first_index}
use Rattle.mask_bits.proofs.chunks.BitChunks.first_from.Goals as goal

pub returns-then-run-lt64 : goal.returns-then-run-lt64
returns-then-run-lt64 c =
    let b : Packed = record { bytes = c.self.inside.bytes.now; offset = c.self.inside.offset; len = c.self.inside.len } in
    let run = c.run_of_others-run in
    let so_far = c.loop-index.invariant in
    first_index b c.args.from c.loop-index.index run.result run.result c.args.value c.self.view_is so_far.from
    (omega (arith, c.loop-index-test.true)) (omega (arith, c.loop-index-test.true)) so_far.passed run.ensures.passed run.ensures.holds (inl c.if-run-lt64.true)

pub loop-index-preserved : goal.loop-index-preserved
loop-index-preserved c =
    let b : Packed = record { bytes = c.self.inside.bytes.now; offset = c.self.inside.offset; len = c.self.inside.len } in
    let run = c.run_of_others-run in
    let so_far = c.loop-index.invariant in
    record {
      from = omega (arith, so_far.from);
      within = omega (arith, len-of_list b c.self.view_is, c.loop-index-test.true);
      passed = passed_more b c.args.from c.loop-index.index 64 (not c.args.value) c.self.view_is (omega (arith, c.loop-index-test.true))
          so_far.passed (λ j h. run.ensures.passed j (omega (arith, c.if-run-lt64.false)));
    }

pub returns : goal.returns
returns c =
    let b : Packed = record { bytes = c.self.inside.bytes.now; offset = c.self.inside.offset; len = c.self.inside.len } in
    let run = c.run_of_others in
    let so_far = c.loop-index.invariant in
    first_index b c.args.from c.loop-index.index run.result c.min.result c.args.value c.self.view_is so_far.from
    c.min.ensures (omega (arith, len-of_list b c.self.view_is, so_far.within)) so_far.passed run.ensures.passed run.ensures.holds
    (elim (cases_lt run.result 64) [ inl h ↦ inl h | inr h ↦ inr (omega (arith, c.loop-index-test.false)) ])
