use Rattle.mask_bits.proofs.Common.{ℕ, ◌≡◌, ◌+◌, ◌-◌, ◌*◌, ◌/◌, ◌%◌, take, drop, length, ap, arith, take_rest, bitmap, count}
use Rattle.mask_bits.proofs.Lists.Words.BackingBitLemmas.{count-split}
use Rattle.mask_bits.proofs.counts.count_bits.Goals as goal

pub returns : goal.returns
returns c =
    let bytes = c.args.bytes.now in
    let p = c.args.position in
    let n = c.args.len in
    let head : ℕ = (8 - p % 8) % 8 in
    let tail : ℕ = (n - head) % 64 in
    let words : ℕ = (n - head) / 64 in
    let byte : ℕ = (p + head) / 8 in
    let from : n - tail ≡ head + 64 * words = omega (arith, c.if-len-lt64.false) in
    omega (
      arith,
      c.count_few-2.ensures,
      c.count_words.ensures,
      c.count_few-3.ensures,
      ap (λ k. count (bitmap bytes (p + k) tail)) from,
      count-split bytes (take (length bytes - byte) (drop byte bytes)) p byte head (64 * words) tail n (omega arith) (take_rest bytes byte) (omega (arith, c.if-len-lt64.false)),
    )
