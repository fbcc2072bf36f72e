use Rattle.vortex_mask.proofs.Common.{◌≡◌, ◌/◌, ◌%◌, ◌*◌, ◌+◌, ◌^◌, ◌≤◌, ◌<◌, ℕ, ap, ap₂, ◌∙◌, subst, bit_and, arith, get_or, byte_of_two, moved_up, count_below-word_bits, AreLanes-itself, AreLanes-zip2}
use Rattle.vortex_mask.proofs.Deposits.DepositLemmas.{deposit}
use Rattle.vortex_mask.proofs.Deposits.LaneLemmas.{bytes_fit, eight_from, landed_fit, Deposits-from_lanes, gathered_alike}
use Rattle.vortex_mask.proofs.Deposits.NetworkLemmas.{moved_back}
use Rattle.vortex_mask.proofs.Deposits.SetPlaceLemmas.{ones_below, ones_below-le}
use Rattle.vortex_mask.proofs.intersect_by_rank.deposit.bytewise.deposit_two_bytewise.Goals as goal

pub neighbors-bytes-requires : goal.neighbors-bytes-requires
neighbors-bytes-requires c = λ j h.
    let w = get_or c.args.masks (j / 8) 0 in
    omega (arith, c.counts_below-below.ensures.each j h, count_below-word_bits w (8 * (j % 8)) (omega arith), ones_below-le w (8 * (j % 8)))

pub move_up-lanes-requires-clause-room : goal.move_up-lanes-requires-clause-room
move_up-lanes-requires-clause-room c = landed_fit 2 c.bytes_of.result (omega arith) (bytes_fit c.args.masks c.bytes_of.ensures) c.compress-packing.ensures.landed_2

pub move_up-lanes-requires-2-clause-room : goal.move_up-lanes-requires-2-clause-room
move_up-lanes-requires-2-clause-room c = landed_fit 1 c.bytes_of.result (omega arith) (bytes_fit c.args.masks c.bytes_of.ensures) c.compress-packing.ensures.landed_1

pub move_up-requires-clause-room : goal.move_up-requires-clause-room
move_up-requires-clause-room c = landed_fit 0 c.bytes_of.result (omega arith) (bytes_fit c.args.masks c.bytes_of.ensures) c.compress-packing.ensures.landed_0

pub returns : goal.returns
returns c =
    let masks = c.args.masks in
    let sources = c.args.sources in
    let packing = c.compress-packing.ensures in
    let taken = AreLanes-zip2 bit_and (AreLanes-itself 16 c.eight_bits-bits.result c.eight_bits-bits.ensures.lanes) packing.places in
    let each = λ (j : ℕ) (h : j < 16).
    let m = get_or c.bytes_of.result j 0 in
    let g = get_or c.eight_bits-bits.result j 0 in
    let w = get_or masks (j / 8) 0 in
    let s = get_or sources (j / 8) 0 in
    let own : m ≡ byte_of_two masks j = c.bytes_of.ensures.each j h in
    let below : get_or c.counts_below-below.result j 0 ≡ ones_below w (8 * (j % 8)) = c.counts_below-below.ensures.each j h ∙ count_below-word_bits w (8 * (j % 8)) (omega arith) in
    let bits : (n : ℕ) → n ≤ 8 → get_or c.counts_below-below.result j 0 + n ≤ 64 → g % 2 ^ n ≡ s / 2 ^ get_or c.counts_below-below.result j 0 % 2 ^ n
    = λ n few room. ap (λ x. x % 2 ^ n) (c.eight_bits-bits.ensures.each j h)
    ∙ eight_from s (get_or c.counts_below-below.result j 0) n _ _ (c.neighbors-bytes.ensures.low j h) (λ l. c.neighbors-bytes.ensures.high j h l) few room in
    c.words_of.ensures.bytes j h ∙ c.move_up.ensures.each j h
    ∙ ap₂ (moved_up 1) (packing.landed_0.each j h) (c.move_up-lanes-2.ensures.each j h
    ∙ ap₂ (moved_up 2) (packing.landed_1.each j h) (c.move_up-lanes.ensures.each j h ∙ ap₂ (moved_up 4) (packing.landed_2.each j h) (taken.each j h)))
    ∙ moved_back m g (bytes_fit masks c.bytes_of.ensures j h) ∙ ap (deposit 8 g) own
    ∙ gathered_alike s w (j % 8) g (omega arith) (subst (λ b. (n : ℕ) → n ≤ 8 → b + n ≤ 64 → g % 2 ^ n ≡ s / 2 ^ b % 2 ^ n) below bits) in
    record {
      first = Deposits-from_lanes sources masks c.words_of.result each 0 (omega arith);
      second = Deposits-from_lanes sources masks c.words_of.result each 1 (omega arith);
    }
