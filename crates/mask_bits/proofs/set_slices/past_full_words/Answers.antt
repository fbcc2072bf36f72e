use Rattle.mask_bits.proofs.Common.{◌+◌, ◌*◌, ◌/◌, ◌≤◌, length, ◌∙◌, arith}
use Rattle.mask_bits.proofs.Lists.Words.PaddedLemmas.{padded_part-whole, padded_part-remainder}
use Rattle.mask_bits.proofs.Lists.Words.WalkLemmas.{IsLeft-read}
use Rattle.mask_bits.proofs.RunWalkLemmas.{full-within, PassesTrue-none, PassesTrue-more}
use Rattle.mask_bits.proofs.set_slices.past_full_words.Goals as goal

pub returns-then-word-ne18446744073709551615-clause-full : goal.returns-then-word-ne18446744073709551615-clause-full
returns-then-word-ne18446744073709551615-clause-full c = PassesTrue-none c.args.chunks.now c.args.at c.args.word c.requires

pub overflow_step-i : goal.overflow_step-i
overflow_step-i c = omega (arith, full-within c.args.chunks.now c.args.at c.args.word c.if-word-ne18446744073709551615.false c.requires)

pub loop-i-init : goal.loop-i-init
loop-i-init c =
    let a = c.args in
    let m = a.chunks.now in
    let full = c.if-word-ne18446744073709551615.false in
    record {
      within = full-within m a.at a.word full c.requires;
      passes = λ next fits read. PassesTrue-more m a.at a.word a.at a.word next fits full read (PassesTrue-none m a.at a.word c.requires);
    }

pub returns-then-next-clause-full : goal.returns-then-next-clause-full
returns-then-next-clause-full c = grind (arith, padded_part-whole, c.loop-i.invariant.passes c.word-next.result)

pub loop-i-preserved : goal.loop-i-preserved
loop-i-preserved c =
    let a = c.args in
    let m = a.chunks.now in
    let i = c.loop-i.i in
    let whole : 64 * (i + 1) ≤ length m = omega (arith, c.loop-i-test.true, c.len-whole.ensures) in
    let here = c.loop-i.invariant.passes c.word-next.result c.word-next.type_inv (c.word-next.ensures ∙ padded_part-whole m i (omega (arith, whole))) in
    record { within = whole; passes = λ next fits read. PassesTrue-more m a.at a.word i c.word-next.result next fits c.if-next.false read here }

pub returns-clause-full : goal.returns-clause-full
returns-clause-full c = grind (arith, padded_part-remainder, c.loop-i.invariant.passes c.remainder_bits.result)

pub returns-clause-found : goal.returns-clause-found
returns-clause-found c full =
    let m = c.args.chunks.now in
    let r = c.remainder_bits.result in
    omega (arith, full-within m (length m / 64) r full (IsLeft-read m (length m / 64) r c.remainder_bits.type_inv (c.remainder_bits.ensures ∙ padded_part-remainder m) (omega arith)))
