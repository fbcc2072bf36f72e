use Rattle.vortex_mask.proofs.Common.{suc, ◌≡◌, ◌/◌, ◌%◌, ◌*◌, ◌+◌, ◌^◌, ◌≤◌, ◌<◌, ℕ, ap, ap₂, sym, ◌∙◌, count_ones, arith, get_or, ones-le, ones_cat, byte_of_two, nibble_moved_up, count_below-word_bits}
use Rattle.vortex_mask.proofs.Deposits.ByteCountLemmas.{ones_below-byte}
use Rattle.vortex_mask.proofs.Deposits.DepositLemmas.{deposit}
use Rattle.vortex_mask.proofs.Deposits.LaneLemmas.{bytes_fit, eight_from, Deposits-from_lanes}
use Rattle.vortex_mask.proofs.Deposits.NibbleLemmas.{lower_from, nibble_deposit, nibbles_alike, upper_from}
use Rattle.vortex_mask.proofs.Deposits.SetPlaceLemmas.{ones_below, ones_below-le}
use Rattle.vortex_mask.proofs.intersect_by_rank.deposit.nibbles.deposit_two_by_nibbles.Goals as goal

pub neighbors-bytes-requires : goal.neighbors-bytes-requires
neighbors-bytes-requires c = λ j h.
    let w = get_or c.args.masks (j / 8) 0 in
    omega (arith, c.counts_below-below.ensures.each j h, count_below-word_bits w (8 * (j % 8)) (omega arith), ones_below-le w (8 * (j % 8)))

pub returns : goal.returns
returns c =
    let masks = c.args.masks in
    let sources = c.args.sources in
    let nibbles = c.nibbles_of-nibbles.ensures in
    let each = λ (j : ℕ) (h : j < 16).
    let m = get_or c.bytes_of.result j 0 in
    let t = get_or c.four_and_four-bits.result j 0 in
    let w = get_or masks (j / 8) 0 in
    let s = get_or sources (j / 8) 0 in
    let lo = m % 2 ^ 4 in
    let hi = m / 2 ^ 4 in
    let b = ones_below w (8 * (j % 8)) in
    let fits : m < 256 = bytes_fit masks c.bytes_of.ensures j h in
    let own : m ≡ byte_of_two masks j = c.bytes_of.ensures.each j h in
    let below : get_or c.counts_below-below.result j 0 ≡ b = c.counts_below-below.ensures.each j h ∙ count_below-word_bits w (8 * (j % 8)) (omega arith) in
    let nl = count_ones lo in
    let nh = count_ones hi in
    let few_l : nl ≤ 4 = ones-le 4 lo (omega arith) in
    let few_h : nh ≤ 4 = ones-le 4 hi (omega arith) in
    let whole : hi * 2 ^ 4 + lo ≡ m = omega arith in
    let all : nh + nl ≡ count_ones (byte_of_two masks j) = sym (ones_cat 4 hi lo (omega arith)) ∙ ap count_ones (whole ∙ own) in
    let room : b + (nl + nh) ≤ 64 = omega (arith, all, ones_below-byte w (j % 8), ones_below-le w (8 * suc (j % 8))) in
    let lower_is : get_or c.nibbles_of-nibbles.result.lower j 0 ≡ lo = nibbles.lower.each j h in
    let upper_is : get_or c.nibbles_of-nibbles.result.upper j 0 ≡ hi = nibbles.upper.each j h in
    let x = (get_or c.neighbors-bytes.result.low j 0 + get_or c.neighbors-bytes.result.high j 0 * 2 ^ 8) / 2 ^ (get_or c.counts_below-below.result j 0 % 8) in
    let gathered : t ≡ x % 2 ^ 4 + x / 2 ^ nl % 2 ^ 4 * 2 ^ 4 = c.four_and_four-bits.ensures.each j h ∙ ap (λ i. x % 2 ^ 4 + x / 2 ^ count_ones i % 2 ^ 4 * 2 ^ 4) lower_is in
    let from : (n : ℕ) → n ≤ 8 → b + n ≤ 64 → x % 2 ^ 8 % 2 ^ n ≡ s / 2 ^ b % 2 ^ n
    = λ n few in_word. eight_from s (get_or c.counts_below-below.result j 0) n _ _ (c.neighbors-bytes.ensures.low j h) (λ l. c.neighbors-bytes.ensures.high j h l) few (omega (arith, below, in_word)) ∙ ap (λ k. s / 2 ^ k % 2 ^ n) below in
    let lower : t % 2 ^ 4 % 2 ^ nl ≡ s / 2 ^ b % 2 ^ nl = ap (λ x. x % 2 ^ 4 % 2 ^ nl) gathered ∙ lower_from _ _ (s / 2 ^ b) nl few_l (from nl (omega arith) (omega arith)) in
    let upper : t / 2 ^ 4 % 2 ^ nh ≡ s / 2 ^ b / 2 ^ nl % 2 ^ nh = ap (λ x. x / 2 ^ 4 % 2 ^ nh) gathered ∙ upper_from _ nl (s / 2 ^ b) nh few_l few_h (from (nl + nh) (omega arith) room) in
    c.words_of.ensures.bytes j h ∙ c.move_up_in_nibbles.ensures.each j h
    ∙ ap₂ (λ x y. nibble_moved_up x (t % 2 ^ 4) + nibble_moved_up y (t / 2 ^ 4) * 2 ^ 4) lower_is upper_is
    ∙ ap₂ (λ x y. x + y * 2 ^ 4) (nibble_deposit lo (t % 2 ^ 4) (omega arith) (omega arith)) (nibble_deposit hi (t / 2 ^ 4) (omega arith) (omega (arith, gathered)))
    ∙ nibbles_alike m (s / 2 ^ b) t fits lower upper ∙ ap (deposit 8 (s / 2 ^ b % 2 ^ 8)) own in
    record {
      first = Deposits-from_lanes sources masks c.words_of.result each 0 (omega arith);
      second = Deposits-from_lanes sources masks c.words_of.result each 1 (omega arith);
    }
