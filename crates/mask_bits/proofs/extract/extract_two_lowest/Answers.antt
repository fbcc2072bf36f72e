use Rattle.mask_bits.proofs.Common.{ℕ, ◌≡◌, ◌+◌, ◌-◌, ◌%◌, ◌^◌, ap, ◌∙◌, bit_and, bit_xor, arith, cases_lt}
use Rattle.mask_bits.proofs.Lists.Words.LowestLemmas.{low}
use Rattle.mask_bits.proofs.Lists.Words.ExtractLemmas.{Extracts-two, lowest_alone, second_alone}
use Rattle.mask_bits.proofs.extract.extract_two_lowest.Goals as goal

pub returns : goal.returns
returns c =
    let m = c.args.mask in
    let t : ℕ = bit_and m (m - 1) in
    let fits = c.ranges.mask.fits in
    let later : bit_and m ((m + (2 ^ 64 - 1)) % 2 ^ 64) ≡ t = grind (arith, cases_lt) in
    Extracts-two c.args.source m c.masked_bit.result c.masked_bit-2.result fits c.requires
    (λ some. c.masked_bit.ensures.bit (low m) (ap (bit_xor m) later ∙ lowest_alone m some fits))
    (λ none. c.masked_bit.ensures.none (ap (bit_xor m) later ∙ ap (λ n. bit_xor n (bit_and n (n - 1))) none))
    (λ some. c.masked_bit-2.ensures.bit (low t) (later ∙ second_alone m t fits c.requires (omega arith) some))
    (λ none. c.masked_bit-2.ensures.none (later ∙ none))
