-- The laws of a rank intersection word by word.
use Rattle.vortex_mask.proofs.Common.{◌≡◌, ℕ, ◌+◌, ◌*◌, ◌/◌, ◌%◌, ◌<◌, Bool, false, List, get_or, refl, sym, ap, ◌∙◌, arith, length, backing_bit, values, Packed, count, count_below, rank_intersection, word_bits, padded_part, window, started_words, Deposits, bitmap, length-bitmap, get_or-bitmap, get_or-window, get_or-padded_part, count-le-length, length-word_bits}
use Rattle.vortex_mask.proofs.Kernels.WordKernelLemmas.{deposited-word}
use Rattle.vortex_mask.proofs.Lists.StartedWordLemmas.{IsAt, list-from_bits, place-after_within}

-- at a started word of a list, a deposit of the rank bits from the number of true values before that word on is that word of the rank intersection
pub deposit_is_word_of_rank_intersection : (m : List Bool) (ranks : Packed) (i source mask result : ℕ) → length (values ranks) ≡ count m
    → word_bits mask ≡ padded_part m i → word_bits source ≡ window ranks.bytes (ranks.offset + count_below m (64 * i)) → Deposits source mask result
    → word_bits result ≡ padded_part (rank_intersection m (values ranks)) i
deposit_is_word_of_rank_intersection m ranks i source mask result fits shows reads is =
    let at = count_below m (64 * i) in
    let here : IsAt m i at mask (count (word_bits mask)) = record { place = refl; shows = shows; counted = refl } in
    deposited-word m (values ranks) i at source mask result fits refl shows (λ k h.
    let inside : at + k < ranks.len = omega (arith, place-after_within here, length-bitmap ranks.bytes ranks.offset ranks.len) in
    let few : k < 64 = omega (arith, count-le-length (word_bits mask), length-word_bits mask) in
    grind (arith, reads, get_or-window ranks.bytes (ranks.offset + at) k false few, get_or-bitmap ranks.bytes ranks.offset ranks.len (at + k) false inside)) is

-- bytes whose words are the started words of a list have that list from bit 0 on
pub started_words_are_the_list : (m : List Bool) (bytes : List ℕ) → ((i : ℕ) → i < started_words (length m) → window bytes (64 * i) ≡ padded_part m i)
    → bitmap bytes 0 (length m) ≡ m
started_words_are_the_list m bytes words =
    list-from_bits m bytes (λ p inside.
    let i : ℕ = p / 64 in
    let j : ℕ = p % 64 in
    let few : j < 64 = omega arith in
    let at : 64 * i + j ≡ p = omega arith in
    ap (backing_bit bytes) (sym at) ∙ sym (get_or-window bytes (64 * i) j false few)
    ∙ ap (λ (xs : List Bool). get_or xs j false) (words i (omega arith))
    ∙ get_or-padded_part m i j few ∙ ap (λ n. get_or m n false) at)
