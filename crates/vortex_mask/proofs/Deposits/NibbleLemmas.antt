-- The two nibbles of a byte: operations on each, tables computed at each of the sixteen, and a byte's deposit by theirs.
use Rattle.vortex_mask.proofs.Common.{common_steps, ◌≡◌, ℕ, zero, suc, ◌+◌, ◌-◌, ◌*◌, ◌/◌, ◌%◌, ◌^◌, ◌<◌, ◌≤◌, ◌⊎◌, inl, inr, T, ltb, ap, ap₂, ◌∙◌, sym, arith, bit_and, bit_or, count_ones, add_comm, min, max, mod-lt, lt_of_le_of_lt, pow-suc, List, [], ◌∷◌, get_or, bit_at, pow_pos, shr-shr, shl-shr, and_mask, and_le_l, ones-le, bit_at_and, bit_at_or, bit_at_cat_low, bit_at_cat_high, same_from_bits, cases_lt, field, mod-mod-pow, split, clear_below, place_after, packed_after, landed_in, stays_in, nibble_moved_up, and_zero_r, all_below, same_below, agree, less_below}
use Rattle.vortex_mask.proofs.Deposits.DepositLemmas.{deposit, deposit-odd, deposit-even}
use Rattle.vortex_mask.proofs.Deposits.NetworkLemmas.{ones_among, ones_among-is, deposit_alike}
use Rattle.vortex_mask.proofs.Deposits.SetPlaceLemmas.{parity}

-- ---- bits of two numbers put one above the other

low_bit : (k x y i : ℕ) → i < k → bit_at (x + y * 2 ^ k) i ≡ bit_at x i
low_bit k x y i l = ap (λ n. bit_at n i) (add_comm x (y * 2 ^ k)) ∙ bit_at_cat_low y k x i l

high_bit : (k x y i : ℕ) → x < 2 ^ k → k ≤ i → bit_at (x + y * 2 ^ k) i ≡ bit_at y (i - k)
high_bit k x y i h l = ap (λ n. bit_at n i) (add_comm x (y * 2 ^ k)) ∙ bit_at_cat_high y k x i h l

-- an operation that goes by each bit alone
module _ (op law : ℕ → ℕ → ℕ) (bits : (x y i : ℕ) → bit_at (op x y) i ≡ law (bit_at x i) (bit_at y i)) where
  op_apart : (k a b c d : ℕ) → a < 2 ^ k → c < 2 ^ k → op a c < 2 ^ k → op (a + b * 2 ^ k) (c + d * 2 ^ k) ≡ op a c + op b d * 2 ^ k
  op_apart k a b c d fa fc f = same_from_bits _ _ (λ i. bits (a + b * 2 ^ k) (c + d * 2 ^ k) i ∙ by i (cases_lt i k))
    where
      by : (i : ℕ) → (i < k) ⊎ (k ≤ i) → law (bit_at (a + b * 2 ^ k) i) (bit_at (c + d * 2 ^ k) i) ≡ bit_at (op a c + op b d * 2 ^ k) i
      by i (inl l) = ap₂ law (low_bit k a b i l) (low_bit k c d i l) ∙ sym (low_bit k (op a c) (op b d) i l ∙ bits a c i)
      by i (inr l) = ap₂ law (high_bit k a b i fa l) (high_bit k c d i fc l) ∙ sym (high_bit k (op a c) (op b d) i f l ∙ bits b d (i - k))

pub and_apart : (k a b c d : ℕ) → a < 2 ^ k → c < 2 ^ k → bit_and (a + b * 2 ^ k) (c + d * 2 ^ k) ≡ bit_and a c + bit_and b d * 2 ^ k
and_apart k a b c d fa fc = op_apart bit_and min bit_at_and k a b c d fa fc (lt_of_le_of_lt (and_le_l a c) fa)

-- four bits from bit k on, left where they are
four_at : (n k : ℕ) → bit_and n (15 * 2 ^ k) ≡ n / 2 ^ k % 2 ^ 4 * 2 ^ k
four_at n k = grind (arith, common_steps, mod-lt n (pow_pos k), pow_pos k, split n k, and_apart k (n % 2 ^ k) (n / 2 ^ k) 0 15 (mod-lt n (pow_pos k)) (pow_pos k), and_mask (n / 2 ^ k) 4, and_zero_r (n % 2 ^ k))

-- ---- four bits of a number, and four from c further on, as products move them

-- the bits from place r on, moved up to bit 7
up_is : (x r : ℕ) → r < 8 → x * 2 ^ (7 - r) / 2 ^ 7 ≡ x / 2 ^ r
up_is x r h = grind (arith, common_steps, shr-shr (x * 2 ^ (7 - r)) (7 - r) r, shl-shr x (7 - r))

module _ (x r c : ℕ) (hr : r < 8) (hc : c ≤ 4) where
  -- moved up, within sixteen bits
  abbrev up : ℕ
  up = x * 2 ^ (7 - r)

  near_is : up % 2 ^ 16 / 2 ^ 7 % 2 ^ 4 ≡ x / 2 ^ r % 2 ^ 4
  near_is = ap (λ y. y % 2 ^ 4) (field up 9 7) ∙ mod-mod-pow (up / 2 ^ 7) 5 4 ∙ ap (λ y. y % 2 ^ 4) (up_is x r hr)

  far_is : up % 2 ^ 16 * 2 ^ (4 - c) % 2 ^ 16 / 2 ^ 11 % 2 ^ 4 ≡ x / 2 ^ r / 2 ^ c % 2 ^ 4
  far_is =
      let v = up % 2 ^ 16 in
      let e : 4 - c + (7 + c) ≡ 11 = omega arith in
      let w : 9 - c + (7 + c) ≡ 16 = omega arith in
      let five : 5 - c + 4 ≡ 9 - c = omega arith in
      let back : v * 2 ^ (4 - c) / 2 ^ 11 ≡ v / 2 ^ (7 + c) =
      ap (λ k. v * 2 ^ (4 - c) / 2 ^ k) (sym e) ∙ sym (shr-shr (v * 2 ^ (4 - c)) (4 - c) (7 + c)) ∙ ap (λ y. y / 2 ^ (7 + c)) (shl-shr v (4 - c)) in
      let cut : v / 2 ^ (7 + c) ≡ up / 2 ^ (7 + c) % 2 ^ (9 - c) = ap (λ k. up % 2 ^ k / 2 ^ (7 + c)) (sym w) ∙ field up (9 - c) (7 + c) in
      ap (λ y. y % 2 ^ 4) (field (v * 2 ^ (4 - c)) 5 11) ∙ mod-mod-pow (v * 2 ^ (4 - c) / 2 ^ 11) 1 4
      ∙ ap (λ y. y % 2 ^ 4) (back ∙ cut ∙ ap (λ k. up / 2 ^ (7 + c) % 2 ^ k) (sym five)) ∙ mod-mod-pow (up / 2 ^ (7 + c)) (5 - c) 4
      ∙ ap (λ y. y % 2 ^ 4) (sym (shr-shr up 7 c) ∙ ap (λ y. y / 2 ^ c) (up_is x r hr))

  pub cut_apart : (bit_and (up % 2 ^ 16) 0x0780 + bit_and (up % 2 ^ 16 * 2 ^ (4 - c) % 2 ^ 16) 0x7800) % 2 ^ 16 / 2 ^ 7 ≡ x / 2 ^ r % 2 ^ 4 + x / 2 ^ r / 2 ^ c % 2 ^ 4 * 2 ^ 4
  cut_apart = omega (arith, four_at (up % 2 ^ 16) 7, four_at (up % 2 ^ 16 * 2 ^ (4 - c) % 2 ^ 16) 11, near_is, far_is)

-- what the joined bits are of the word from which the two bytes come
pub lower_from : (x u y n : ℕ) → n ≤ 4 → x % 2 ^ 8 % 2 ^ n ≡ y % 2 ^ n → (x % 2 ^ 4 + u % 2 ^ 4 * 2 ^ 4) % 2 ^ 4 % 2 ^ n ≡ y % 2 ^ n
lower_from x u y n few same = grind (arith, common_steps, mod-mod-pow x (4 - n) n, mod-mod-pow x (8 - n) n)

pub upper_from : (x c y n : ℕ) → c ≤ 4 → n ≤ 4 → x % 2 ^ 8 % 2 ^ (c + n) ≡ y % 2 ^ (c + n) → (x % 2 ^ 4 + x / 2 ^ c % 2 ^ 4 * 2 ^ 4) / 2 ^ 4 % 2 ^ n ≡ y / 2 ^ c % 2 ^ n
upper_from x c y n hc few same = grind (arith, common_steps, mod-mod-pow x (8 - (c + n)) (c + n), mod-mod-pow (x / 2 ^ c) (4 - n) n, field x n c, field y n c)

-- ---- what is computed at each of the sixteen masks, and at each four bits

pub nibble_deposit : (m b : ℕ) → m < 16 → b < 16 → nibble_moved_up m b ≡ deposit 4 b m
unfolding nibble_moved_up stays_in landed_in packed_after place_after clear_below deposit
nibble_deposit = agree 16 16 nibble_moved_up (λ m b. deposit 4 b m) tt

-- the bits that stay, those that move by two places, and both
abbrev moved_by_two : ℕ → ℕ → ℕ
moved_by_two m b = bit_or (bit_and b (stays_in m)) (bit_and b (landed_in 1 m) * 2 ^ 2)

below_16 : (f : ℕ → ℕ → ℕ) → T (all_below (λ t. all_below (λ x. ltb (f t x) 16) 16) 16) → (m b : ℕ) → m < 16 → b < 16 → f m b < 16
below_16 f = less_below 16 16 f (λ m b. 16)

nibble_fits : (m b : ℕ) → m < 16 → b < 16 → (bit_and b (landed_in 1 m) * 2 ^ 2 < 16) × (moved_by_two m b < 16) × (nibble_moved_up m b < 16)
unfolding nibble_moved_up stays_in landed_in packed_after place_after clear_below
nibble_fits m b hm hb = (below_16 (λ x y. bit_and y (landed_in 1 x) * 2 ^ 2) tt m b hm hb, below_16 moved_by_two tt m b hm hb, below_16 nibble_moved_up tt m b hm hb)

mask_fits : (m : ℕ) → m < 16 → (stays_in m < 16) × (landed_in 1 m < 16) × (landed_in 0 m < 16)
unfolding stays_in landed_in packed_after place_after clear_below
mask_fits m hm = (below_16 (λ x _. stays_in x) tt m 0 hm (omega arith), below_16 (λ x _. landed_in 1 x) tt m 0 hm (omega arith), below_16 (λ x _. landed_in 0 x) tt m 0 hm (omega arith))

-- ---- the code's tables

abbrev pub stay : List ℕ
stay = 0 ∷ 1 ∷ 1 ∷ 3 ∷ 0 ∷ 3 ∷ 3 ∷ 7 ∷ 0 ∷ 1 ∷ 1 ∷ 7 ∷ 0 ∷ 7 ∷ 7 ∷ 15 ∷ []

abbrev pub by_two : List ℕ
by_two = 0 ∷ 0 ∷ 0 ∷ 0 ∷ 1 ∷ 0 ∷ 0 ∷ 0 ∷ 1 ∷ 2 ∷ 2 ∷ 0 ∷ 3 ∷ 0 ∷ 0 ∷ 0 ∷ []

abbrev pub by_one : List ℕ
by_one = 0 ∷ 0 ∷ 1 ∷ 0 ∷ 0 ∷ 2 ∷ 3 ∷ 0 ∷ 4 ∷ 0 ∷ 1 ∷ 4 ∷ 0 ∷ 6 ∷ 7 ∷ 0 ∷ []

abbrev pub gaps : List ℕ
gaps = 16 ∷ 8 ∷ 8 ∷ 4 ∷ 8 ∷ 4 ∷ 4 ∷ 2 ∷ 8 ∷ 4 ∷ 4 ∷ 2 ∷ 4 ∷ 2 ∷ 2 ∷ 1 ∷ []

pub stay_at : (m : ℕ) → m < 16 → get_or stay m 0 ≡ stays_in m
unfolding stays_in landed_in packed_after place_after clear_below
stay_at = same_below 16 (λ m. get_or stay m 0) stays_in tt

pub by_two_at : (m : ℕ) → m < 16 → get_or by_two m 0 ≡ landed_in 1 m
unfolding landed_in place_after clear_below
by_two_at = same_below 16 (λ m. get_or by_two m 0) (landed_in 1) tt

pub by_one_at : (m : ℕ) → m < 16 → get_or by_one m 0 ≡ landed_in 0 m
unfolding landed_in place_after clear_below
by_one_at = same_below 16 (λ m. get_or by_one m 0) (landed_in 0) tt

pub gaps_at : (m : ℕ) → m < 16 → get_or gaps m 0 ≡ 2 ^ (4 - count_ones m)
unfolding ones_among
gaps_at m h = same_below 16 (λ x. get_or gaps x 0) (λ x. 2 ^ (4 - ones_among 4 x)) tt m h ∙ ap (λ n. 2 ^ (4 - n)) (ones_among-is 4 m h)

-- ---- both nibbles of a byte at once

module _ (lo hi t : ℕ) (hl : lo < 16) (hh : hi < 16) (ht : t < 256) where
  abbrev stays : ℕ
  stays = stays_in lo + stays_in hi * 2 ^ 4

  abbrev twos : ℕ
  twos = landed_in 1 lo + landed_in 1 hi * 2 ^ 4

  abbrev ones : ℕ
  ones = landed_in 0 lo + landed_in 0 hi * 2 ^ 4

  abbrev moved : ℕ
  moved = bit_or (bit_and t stays) (bit_and t twos * 2 ^ 2 % 2 ^ 8)

  abbrev tl : ℕ
  tl = t % 2 ^ 4

  abbrev th : ℕ
  th = t / 2 ^ 4

  byte : t ≡ tl + th * 2 ^ 4
  byte = omega arith

  moved_is : moved ≡ moved_by_two lo tl + moved_by_two hi th * 2 ^ 4
  moved_is =
      let fl = nibble_fits lo tl hl (omega arith) in
      let fh = nibble_fits hi th hh (omega arith) in
      let a : bit_and t stays ≡ bit_and tl (stays_in lo) + bit_and th (stays_in hi) * 2 ^ 4 = ap (λ x. bit_and x stays) byte ∙ and_apart 4 tl th (stays_in lo) (stays_in hi) (omega arith) (mask_fits lo hl).0 in
      let b : bit_and t twos ≡ bit_and tl (landed_in 1 lo) + bit_and th (landed_in 1 hi) * 2 ^ 4 = ap (λ x. bit_and x twos) byte ∙ and_apart 4 tl th (landed_in 1 lo) (landed_in 1 hi) (omega arith) (mask_fits lo hl).1 in
      let up : bit_and t twos * 2 ^ 2 % 2 ^ 8 ≡ bit_and tl (landed_in 1 lo) * 2 ^ 2 + bit_and th (landed_in 1 hi) * 2 ^ 2 * 2 ^ 4 = omega (arith, b, fl.0, fh.0) in
      ap₂ bit_or a up
      ∙ op_apart bit_or max bit_at_or 4 (bit_and tl (stays_in lo)) (bit_and th (stays_in hi)) (bit_and tl (landed_in 1 lo) * 2 ^ 2) (bit_and th (landed_in 1 hi) * 2 ^ 2) (lt_of_le_of_lt (and_le_l tl (stays_in lo)) (omega arith)) fl.0 fl.1

  pub moved_in_nibbles : (moved + bit_and moved ones) % 2 ^ 8 ≡ nibble_moved_up lo tl + nibble_moved_up hi th * 2 ^ 4
  unfolding nibble_moved_up
  moved_in_nibbles =
      let fl = nibble_fits lo tl hl (omega arith) in
      let fh = nibble_fits hi th hh (omega arith) in
      let ml = moved_by_two lo tl in
      let mh = moved_by_two hi th in
      let o : bit_and moved ones ≡ bit_and ml (landed_in 0 lo) + bit_and mh (landed_in 0 hi) * 2 ^ 4 = ap (λ x. bit_and x ones) moved_is ∙ and_apart 4 ml mh (landed_in 0 lo) (landed_in 0 hi) fl.1 (mask_fits lo hl).2 in
      omega (arith, moved_is, o, fl.2, fh.2)

-- ---- a byte's deposit is that of its lower nibble, and above it that of the upper one

twice : (x j : ℕ) → x * 2 ^ suc j ≡ x * 2 ^ j * 2
twice x j = grind (arith, pow-suc)

deposit-apart : (j k s a b : ℕ) → a < 2 ^ j → deposit (j + k) s (a + b * 2 ^ j) ≡ deposit j s a + deposit k (s / 2 ^ ones_among j a) b * 2 ^ j
unfolding deposit ones_among
deposit-apart zero k s a b h =
    let z : a + b * 2 ^ 0 ≡ b = omega arith in
    let n : zero + k ≡ k = omega arith in
    let o : s / 2 ^ 0 ≡ s = omega arith in
    ap₂ (λ i m. deposit i s m) n z ∙ omega (arith, ap (λ x. deposit k x b) o)
deposit-apart (suc j) k s a b h =
    let m : ℕ = a + b * 2 ^ suc j in
    let halves : m / 2 ≡ a / 2 + b * 2 ^ j = omega (arith, twice b j) in
    let low : m % 2 ≡ a % 2 = omega (arith, twice b j) in
    let size : suc j + k ≡ suc (j + k) = omega arith in
    let small : a / 2 < 2 ^ j = omega (arith, pow-suc 2 j) in
    elim (parity a) [
      | inl even ↦
          let n : ones_among (suc j) a ≡ ones_among j (a / 2) = omega arith in
          ap (λ i. deposit i s m) size ∙ deposit-even (j + k) s m (low ∙ even) ∙ ap (λ x. deposit (j + k) s x * 2) halves ∙ ap (λ x. x * 2) (deposit-apart j k s (a / 2) b small)
          ∙ omega (arith, deposit-even j s a even, ap (λ i. deposit k (s / 2 ^ i) b * 2 ^ j) n, twice (deposit k (s / 2 ^ ones_among (suc j) a) b) j)
      | inr odd ↦
          let n : ones_among (suc j) a ≡ 1 + ones_among j (a / 2) = omega arith in
          let rest : s / 2 / 2 ^ ones_among j (a / 2) ≡ s / 2 ^ ones_among (suc j) a = shr-shr s 1 (ones_among j (a / 2)) ∙ ap (λ i. s / 2 ^ i) (sym n) in
          ap (λ i. deposit i s m) size ∙ deposit-odd (j + k) s m (low ∙ odd) ∙ ap (λ x. deposit (j + k) (s / 2) x * 2 + s % 2) halves
          ∙ ap (λ x. x * 2 + s % 2) (deposit-apart j k (s / 2) (a / 2) b small)
          ∙ omega (arith, deposit-odd j s a odd, ap (λ x. deposit k x b * 2 ^ j) rest, twice (deposit k (s / 2 ^ ones_among (suc j) a) b) j)
    ]

-- what was gathered for the nibbles of a byte's mask deposits as the byte's source does
pub nibbles_alike : (m x t : ℕ) → m < 256 → t % 2 ^ 4 % 2 ^ count_ones (m % 2 ^ 4) ≡ x % 2 ^ count_ones (m % 2 ^ 4)
    → t / 2 ^ 4 % 2 ^ count_ones (m / 2 ^ 4) ≡ x / 2 ^ count_ones (m % 2 ^ 4) % 2 ^ count_ones (m / 2 ^ 4)
    → deposit 4 (t % 2 ^ 4) (m % 2 ^ 4) + deposit 4 (t / 2 ^ 4) (m / 2 ^ 4) * 2 ^ 4 ≡ deposit 8 (x % 2 ^ 8) m
nibbles_alike m x t h lower upper =
    let lo = m % 2 ^ 4 in
    let hi = m / 2 ^ 4 in
    let nl = count_ones lo in
    let nh = count_ones hi in
    let y = x % 2 ^ 8 in
    let few_l : nl ≤ 4 = ones-le 4 lo (omega arith) in
    let few_h : nh ≤ 4 = ones-le 4 hi (omega arith) in
    let e : 8 - nl + nl ≡ 8 = omega arith in
    let f : 8 - nl - nh + nh ≡ 8 - nl = omega arith in
    let own : m ≡ lo + hi * 2 ^ 4 = omega arith in
    let cut_l : y % 2 ^ nl ≡ x % 2 ^ nl = ap (λ k. x % 2 ^ k % 2 ^ nl) (sym e) ∙ mod-mod-pow x (8 - nl) nl in
    let cut_h : y / 2 ^ nl % 2 ^ nh ≡ x / 2 ^ nl % 2 ^ nh =
    ap (λ k. x % 2 ^ k / 2 ^ nl % 2 ^ nh) (sym e) ∙ ap (λ v. v % 2 ^ nh) (field x (8 - nl) nl) ∙ ap (λ k. x / 2 ^ nl % 2 ^ k % 2 ^ nh) (sym f) ∙ mod-mod-pow (x / 2 ^ nl) (8 - nl - nh) nh in
    ap₂ (λ p q. p + q * 2 ^ 4) (deposit_alike 4 (t % 2 ^ 4) y lo (omega arith) (lower ∙ sym cut_l)) (deposit_alike 4 (t / 2 ^ 4) (y / 2 ^ nl) hi (omega arith) (upper ∙ sym cut_h))
    ∙ sym (ap (deposit 8 y) own ∙ deposit-apart 4 4 y lo hi (omega arith) ∙ ap (λ n. deposit 4 y lo + deposit 4 (y / 2 ^ n) hi * 2 ^ 4) (ones_among-is 4 lo (omega arith)))
