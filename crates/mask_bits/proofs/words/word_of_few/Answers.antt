use Rattle.mask_bits.proofs.Common.{◌≡◌, ◌+◌, ◌-◌, ◌*◌, ◌<◌, ◌^◌, ℕ, List, length, drop, number, ap, ◌∙◌, arith, suc, length-drop, drop_all, word_bits, slice_index_or}
use Rattle.mask_bits.proofs.NumberLemmas.{AreBytes, bytes-drop, number-fits, number-from}
use Rattle.mask_bits.proofs.WindowLemmas.{word_bits-number}
use Rattle.mask_bits.proofs.words.word_of_few.Goals as goal

-- the next byte, with those behind it, is a word still
step : (bytes : List ℕ) (left : ℕ) → AreBytes bytes → length bytes < 8 → 0 < left → record {
  fits : number (drop left bytes) < 2 ^ 48;
  next : number (drop (left - 1) bytes) ≡ slice_index_or bytes (left - 1) 0 + 256 * number (drop left bytes);
}
step bytes left are few some =
    let one : suc (left - 1) ≡ left = omega (arith, some) in
    record {
      fits = number-fits 6 (drop left bytes) (bytes-drop left bytes are) (omega (arith, length-drop left bytes, few, some));
      next = number-from (left - 1) bytes ∙ ap (λ k. slice_index_or bytes (left - 1) 0 + 256 * number (drop k bytes)) one;
    }

pub loop-left-init : goal.loop-left-init
loop-left-init c = grind (arith, ap number (drop_all (length c.args.bytes.now) c.args.bytes.now (omega arith)))

pub overflow_mul-word : goal.overflow_mul-word
overflow_mul-word c =
    let is = step c.args.bytes.now c.loop-left.left (λ j. (c.type_inv.bytes j).fits) c.requires c.loop-left-test.true in
    grind (arith, is.fits, c.loop-left.invariant.read)

pub bounds-bytes-left : goal.bounds-bytes-left
bounds-bytes-left c = omega (arith, c.loop-left.invariant.within, c.loop-left-test.true)

pub overflow_add-word : goal.overflow_add-word
overflow_add-word c =
    let is = step c.args.bytes.now c.loop-left.left (λ j. (c.type_inv.bytes j).fits) c.requires c.loop-left-test.true in
    grind (arith, is.fits, c.loop-left.invariant.read, (c.type_inv.bytes (c.loop-left.left - 1)).fits)

pub loop-left-preserved : goal.loop-left-preserved
loop-left-preserved c =
    let is = step c.args.bytes.now c.loop-left.left (λ j. (c.type_inv.bytes j).fits) c.requires c.loop-left-test.true in
    grind (arith, is.next, c.loop-left.invariant)

pub returns : goal.returns
returns c =
    let bytes = c.args.bytes.now in
    let none : c.loop-left.left ≡ 0 = omega (arith, c.loop-left-test.false) in
    ap word_bits (c.loop-left.invariant.read ∙ ap (λ k. number (drop k bytes)) none)
    ∙ word_bits-number bytes (λ j. (c.type_inv.bytes j).fits)
