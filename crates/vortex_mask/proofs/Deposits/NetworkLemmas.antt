-- The network on one byte, computed at each of the 256 mask bytes and, for the way back, at each source byte too.
use Rattle.vortex_mask.proofs.Common.{◌≡◌, ℕ, zero, suc, ◌+◌, ◌-◌, ◌*◌, ◌/◌, ◌%◌, ◌^◌, ◌<◌, ◌≤◌, Bool, T, eqb, refl, ap, ◌∙◌, arith, bit_and, bit_xor, inl, inr, count_ones, pow-suc, sym, ap₂, mod-lt, ones-le, one_shl, pow_below, pow_pos, and_mask, clear_below, place_after, packed_after, landed_in, odd_places, moved_down, with_moved, halved, moved_up, ones_step, all_below, every_below, same_below, agree, less_below, field, mod-mod-pow}
use Rattle.vortex_mask.proofs.Deposits.DepositLemmas.{deposit, deposit-odd, deposit-even}
use Rattle.vortex_mask.proofs.Deposits.SetPlaceLemmas.{parity}

-- ---- the count of a byte's set bits

-- the set bits among the k lowest
unfoldable pub ones_among : ℕ → ℕ → ℕ
ones_among zero n = 0
ones_among (suc k) n = n % 2 + ones_among k (n / 2)

pub ones_among-is : (k n : ℕ) → n < 2 ^ k → ones_among k n ≡ count_ones n
unfolding ones_among
ones_among-is zero n h = omega (arith, ones-le 0 n h)
ones_among-is (suc k) n h = omega (arith, ones_step n, ones_among-is k (n / 2) (omega (arith, pow-suc 2 k)))

-- ---- the parity of the zeros, by doublings

-- `b ^ (b << step)` within the byte
abbrev pub xored_up : ℕ → ℕ → ℕ
xored_up step b = bit_xor b (b * 2 ^ step % 2 ^ 8)

-- n doublings, the first by 2 ^ from
unfoldable pub doubled : ℕ → ℕ → ℕ → ℕ
doubled zero from b = b
doubled (suc n) from b = doubled n (from + 1) (xored_up (2 ^ from) b)

pub doubled-more : (s b : ℕ) → s < 3 → doubled (3 - s) s b ≡ doubled (3 - (s + 1)) (s + 1) (xored_up (2 ^ s) b)
unfolding doubled
doubled-more s b h = let e : 3 - s ≡ suc (3 - (s + 1)) = omega arith in ap (λ n. doubled n s b) e

pub doubled-all : (s b : ℕ) → 3 ≤ s → doubled (3 - s) s b ≡ b
unfolding doubled
doubled-all s b h = let e : 3 - s ≡ 0 = omega arith in ap (λ n. doubled n s b) e

pub doubled-is : (s b : ℕ) → s < 3 → b < 256 → doubled (3 - s) s b ≡ odd_places (2 ^ s) b
unfolding doubled odd_places
doubled-is = agree 3 256 (λ t x. doubled (3 - t) t x) (λ t x. odd_places (2 ^ t) x) tt

-- the code's `1 << s`
pub shift_is : (s : ℕ) → s < 3 → 1 * 2 ^ s % 2 ^ 8 ≡ 2 ^ s
shift_is s h = one_shl s 8 (omega arith)

pub shift_small : (s : ℕ) → s < 3 → 2 ^ s < 8
shift_small s h = pow_below s 3 h

-- ---- what each stage leaves

-- the zeros that stage s begins with
unfoldable pub zeros_before : ℕ → ℕ → ℕ
zeros_before zero mask = 255 - mask
zeros_before (suc s) mask = halved (2 ^ s) (zeros_before s mask) (odd_places (2 ^ s) (zeros_before s mask))

pub zeros_before-zero : (m : ℕ) → zeros_before 0 m ≡ 255 - m
unfolding zeros_before
zeros_before-zero m = refl

pub zeros_before-more : (s m : ℕ) → zeros_before (s + 1) m ≡ halved (2 ^ s) (zeros_before s m) (odd_places (2 ^ s) (zeros_before s m))
unfolding zeros_before
zeros_before-more s m = let e : s + 1 ≡ suc s = omega arith in ap (λ n. zeros_before n m) e

pub packed_after-zero : (m : ℕ) → m < 256 → packed_after 0 m ≡ m
unfolding packed_after place_after clear_below
packed_after-zero = same_below 256 (packed_after 0) (λ x. x) tt

pub packed_after-more : (s m : ℕ) → s < 3 → m < 256 → with_moved (2 ^ s) (packed_after s m) (odd_places (2 ^ s) (zeros_before s m)) ≡ packed_after (s + 1) m
unfolding with_moved moved_down packed_after place_after clear_below odd_places zeros_before halved
packed_after-more = agree 3 256 (λ t x. with_moved (2 ^ t) (packed_after t x) (odd_places (2 ^ t) (zeros_before t x))) (λ t x. packed_after (t + 1) x) tt

pub landed_in-is : (s m : ℕ) → s < 3 → m < 256 → moved_down (2 ^ s) (packed_after s m) (odd_places (2 ^ s) (zeros_before s m)) ≡ landed_in s m
unfolding moved_down landed_in packed_after place_after clear_below odd_places zeros_before halved
landed_in-is = agree 3 256 (λ t x. moved_down (2 ^ t) (packed_after t x) (odd_places (2 ^ t) (zeros_before t x))) landed_in tt

-- a stage takes what the ones before it left
pub stage : (s m packed zeros : ℕ) → s < 3 → m < 256 → packed ≡ packed_after s m → zeros ≡ zeros_before s m
    → (with_moved (2 ^ s) packed (odd_places (2 ^ s) zeros) ≡ packed_after (s + 1) m) × (halved (2 ^ s) zeros (odd_places (2 ^ s) zeros) ≡ zeros_before (s + 1) m) × (moved_down (2 ^ s) packed (odd_places (2 ^ s) zeros) ≡ landed_in s m)
stage s m packed zeros h fits p z = rw (p, z) (packed_after-more s m h fits, sym (zeros_before-more s m), landed_in-is s m h fits)

-- a byte's bits end as its lowest ones
packed_after-among : (m : ℕ) → m < 256 → packed_after 3 m ≡ 2 ^ ones_among 8 m - 1
unfolding ones_among packed_after place_after clear_below
packed_after-among = same_below 256 (packed_after 3) (λ x. 2 ^ ones_among 8 x - 1) tt

pub packed_after-full : (m : ℕ) → m < 256 → packed_after 3 m ≡ 2 ^ count_ones m - 1
packed_after-full m h = packed_after-among m h ∙ ap (λ n. 2 ^ n - 1) (ones_among-is 8 m h)

-- where the moved bits land, they leave room for their way back
pub landed_in-lt : (s m : ℕ) → s < 3 → m < 256 → landed_in s m < 2 ^ (8 - 2 ^ s)
unfolding landed_in place_after clear_below
landed_in-lt = less_below 3 256 landed_in (λ s m. 2 ^ (8 - 2 ^ s)) tt

-- ---- the way back

-- of its source a mask takes as many low bits as it has set
deposit-taken : (k s m : ℕ) → deposit k (s % 2 ^ ones_among k m) m ≡ deposit k s m
unfolding deposit ones_among
deposit-taken zero s m = refl
deposit-taken (suc k) s m =
    let c : ℕ = ones_among k (m / 2) in
    elim (parity m) [
      | inl even ↦
          let e : ones_among (suc k) m ≡ c = omega arith in
          ap (λ n. deposit (suc k) (s % 2 ^ n) m) e ∙ deposit-even k _ m even ∙ ap (λ d. d * 2) (deposit-taken k s (m / 2)) ∙ sym (deposit-even k s m even)
      | inr odd ↦
          let e : ones_among (suc k) m ≡ c + 1 = omega arith in
          let rest : deposit k (s % 2 ^ (c + 1) / 2) (m / 2) ≡ deposit k (s / 2) (m / 2) = ap (λ x. deposit k x (m / 2)) (field s c 1) ∙ deposit-taken k (s / 2) (m / 2) in
          ap (λ n. deposit (suc k) (s % 2 ^ n) m) e ∙ deposit-odd k _ m odd ∙ ap₂ (λ d b. d * 2 + b) rest (mod-mod-pow s c 1) ∙ sym (deposit-odd k s m odd)
    ]

back_by : ℕ → ℕ → ℕ → ℕ → ℕ
unfolding moved_up
back_by l0 l1 l2 b = moved_up 1 l0 (moved_up 2 l1 (moved_up 4 l2 b))

-- the mask's part of the work is done once, for all that its set bits may take
row : ℕ → ℕ → ℕ → ℕ → ℕ → Bool
row l0 l1 l2 p m = all_below (λ b. eqb (back_by l0 l1 l2 b) (deposit 8 b m)) (p + 1)

table : ℕ → Bool
table m = row (landed_in 0 m) (landed_in 1 m) (landed_in 2 m) (packed_after 3 m) m

computed : T (all_below table 256)
unfolding table row back_by moved_up deposit landed_in packed_after place_after clear_below
computed = tt

-- the source, of which the lowest bits are taken, through the stages back to its places
pub moved_back : (m b : ℕ) → m < 256 → moved_up 1 (landed_in 0 m) (moved_up 2 (landed_in 1 m) (moved_up 4 (landed_in 2 m) (bit_and b (packed_after 3 m)))) ≡ deposit 8 b m
unfolding table row back_by
moved_back m b hm =
    let n = ones_among 8 m in
    let p : packed_after 3 m ≡ 2 ^ n - 1 = packed_after-among m hm in
    let taken : bit_and b (packed_after 3 m) ≡ b % 2 ^ n = ap (bit_and b) p ∙ and_mask b n in
    let fits : b % 2 ^ n < packed_after 3 m + 1 = omega (arith, p, mod-lt b (pow_pos n)) in
    ap (λ x. moved_up 1 (landed_in 0 m) (moved_up 2 (landed_in 1 m) (moved_up 4 (landed_in 2 m) x))) taken
    ∙ same_below (packed_after 3 m + 1) (back_by (landed_in 0 m) (landed_in 1 m) (landed_in 2 m)) (λ x. deposit 8 x m) (every_below table 256 computed m hm) (b % 2 ^ n) fits
    ∙ deposit-taken 8 b m

-- a mask's deposit is decided by as many low bits as it has set
pub deposit_alike : (k a b m : ℕ) → m < 2 ^ k → a % 2 ^ count_ones m ≡ b % 2 ^ count_ones m → deposit k a m ≡ deposit k b m
deposit_alike k a b m h e =
    let n = ones_among-is k m h in
    let taken : (x : ℕ) → deposit k (x % 2 ^ count_ones m) m ≡ deposit k x m = λ x. ap (λ i. deposit k (x % 2 ^ i) m) (sym n) ∙ deposit-taken k x m in
    sym (taken a) ∙ ap (λ x. deposit k x m) e ∙ taken b
