-- Vectors of the bytes of two words, lane by lane.
use Rattle.vortex_mask.proofs.Common.{common_steps, ◌≡◌, ℕ, zero, suc, ◌+◌, ◌-◌, ◌*◌, ◌/◌, ◌%◌, ◌^◌, ◌<◌, ◌≤◌, ◌⊎◌, inl, inr, List, [], ◌∷◌, length, get_or, refl, sym, ap, ap₂, subst, ◌∙◌, arith, w8, bit_and, Fits, count_ones, pow-add, pow-suc, map, replicate, zip2, Each1, number_l, digits_l, chunk, swz_l, Each1-from_get_or, Each1-get_or, Each1-chunk, get_or-chunk, get_or_wider, get_or_narrower, shr-shr, shl-shr, and_mask, ones-le, cases_lt, zero-div, AreLanes, byte_at, EachLane, byte_of_two, landed_in, Deposits, same_below, AreLanes-itself, AreLanes-map, AreLanes-swz_l, AreLanes-zip2, AreLanes-splat, AreLanes-same, field, mod-mod-pow}
use Rattle.vortex_mask.proofs.Deposits.ByteCountLemmas.{ones_below-byte, Deposits-from_bytes}
use Rattle.vortex_mask.proofs.Deposits.ByteLemmas.{byte_at-lt, byte_at-zero, byte_at-suc}
use Rattle.vortex_mask.proofs.Deposits.NetworkLemmas.{deposit_alike, landed_in-lt}
use Rattle.vortex_mask.proofs.Deposits.DepositLemmas.{deposit}
use Rattle.vortex_mask.proofs.Deposits.SetPlaceLemmas.{ones_below, ones_below-le}

pub EachLane-fits : (v : List ℕ) → length v ≡ 16 → Each1 (Fits w8) v → EachLane (λ j. get_or v j 0 < 256)
EachLane-fits v long fits = λ j l. (Each1-get_or (Fits w8) v j 0 (omega arith) fits).fits

-- ---- the bytes of two words

pow_256 : (i : ℕ) → 2 ^ (8 * i) ≡ 256 ^ i
pow_256 zero = refl
pow_256 (suc i) = grind (arith, common_steps, pow-add 2 (8 * i) 8, pow-suc 256 i, pow_256 i)

byte_at-is : (w i : ℕ) → byte_at w i ≡ w / 256 ^ i % 256
unfolding byte_at
byte_at-is w i = ap (λ x. w / x % 256) (pow_256 i)

-- the place of a lane in its word
pub lane_is : (j : ℕ) → 8 * (j / 8) + j % 8 ≡ j
lane_is j = omega arith

pub AreLanes-words : (words : List ℕ) → Each1 (λ w. w < 2 ^ 64) words → AreLanes 16 (digits_l 256 16 (number_l (2 ^ 64) words)) (byte_of_two words)
AreLanes-words words fit = record {
  lanes = refl;
  each = λ j l.
      ap (λ k. get_or (digits_l 256 16 (number_l (2 ^ 64) words)) k 0) (sym (lane_is j))
      ∙ get_or_narrower (2 ^ 64) 8 256 16 words (j / 8) (j % 8) refl fit (omega arith) (omega arith) ∙ sym (byte_at-is (get_or words (j / 8) 0) (j % 8));
}

byte_at_none : (i : ℕ) → byte_at 0 i ≡ 0
unfolding byte_at
byte_at_none i = ap (λ x. x % 256) (zero-div (2 ^ (8 * i)))

pub bytes_fit : {v : List ℕ} (words : List ℕ) → AreLanes 16 v (byte_of_two words) → EachLane (λ j. get_or v j 0 < 256)
bytes_fit {v} words h = λ j l. subst (λ x. x < 256) (sym (h.each j l)) (byte_at-lt (get_or words (j / 8) 0) (j % 8))

-- what a stage has moved leaves room for its way back
pub landed_fit : (s : ℕ) (v : List ℕ) {l : List ℕ} → s < 3 → EachLane (λ j. get_or v j 0 < 256) → AreLanes 16 l (λ j. landed_in s (get_or v j 0)) → EachLane (λ j. get_or l j 0 < 2 ^ (8 - 2 ^ s))
landed_fit s v {l} few fit h = λ j i. subst (λ x. x < 2 ^ (8 - 2 ^ s)) (sym (h.each j i)) (landed_in-lt s (get_or v j 0) few (fit j i))

-- byte i of a number by its bytes
byte_at-number : (xs : List ℕ) (i : ℕ) → Each1 (λ x. x < 256) xs → byte_at (number_l 256 xs) i ≡ get_or xs i 0
byte_at-number [] i fit = byte_at_none i
byte_at-number (x ∷ xs) zero fit = byte_at-zero (x + 256 * number_l 256 xs) ∙ omega (arith, fit.0)
byte_at-number (x ∷ xs) (suc i) fit = grind (arith, common_steps, byte_at-suc, byte_at-number xs i fit.1)

-- word k of a vector's bytes
pub byte_at-word : (v : List ℕ) (k i : ℕ) → Each1 (λ x. x < 256) v → k < 2 → i < 8 → byte_at (get_or (digits_l (2 ^ 64) 2 (number_l 256 v)) k 0) i ≡ get_or v (8 * k + i) 0
byte_at-word v k i fit h l = grind (arith, common_steps, get_or_wider 256 8 (2 ^ 64) 2 v k refl fit h, byte_at-number (chunk (8 * k) 8 v) i (Each1-chunk (λ x. x < 256) (8 * k) 8 v fit), Each1-chunk (λ x. x < 256) (8 * k) 8 v fit, get_or-chunk (8 * k) 8 v i 0 l)

-- ---- eight bits of a word, from the two bytes in which they lie

-- two bytes as one number, moved up to bit 7 and cut there
pub cut_out : (x r : ℕ) → r < 8 → bit_and (x * 2 ^ (7 - r) % 2 ^ 16 / 2 ^ 7) 255 ≡ x / 2 ^ r % 2 ^ 8
cut_out x r h = grind (arith, common_steps, and_mask (x * 2 ^ (7 - r) % 2 ^ 16 / 2 ^ 7) 8, field (x * 2 ^ (7 - r)) 9 7, mod-mod-pow (x * 2 ^ (7 - r) / 2 ^ 7) 1 8, shr-shr (x * 2 ^ (7 - r)) (7 - r) r, shl-shr x (7 - r))

module _ (s b n low high : ℕ) (first : low ≡ byte_at s (b / 8)) (next : b / 8 < 7 → high ≡ byte_at s (b / 8 + 1)) where
  -- the lowest bits of the two bytes are those of the word
  same_low : n ≤ 8 → b + n ≤ 64 → (8 < n + b % 8) ⊎ (n + b % 8 ≤ 8) → (low + high * 2 ^ 8) % 2 ^ (n + b % 8) ≡ s / 2 ^ (8 * (b / 8)) % 2 ^ (n + b % 8)
  unfolding byte_at
  same_low few inside (inr le) =
      let k = n + b % 8 in
      let x = low + high * 2 ^ 8 in
      let y = s / 2 ^ (8 * (b / 8)) in
      let e : 8 - k + k ≡ 8 = omega arith in
      let cut : (v : ℕ) → v % 2 ^ 8 % 2 ^ k ≡ v % 2 ^ k = λ v. ap (λ i. v % 2 ^ i % 2 ^ k) (sym e) ∙ mod-mod-pow v (8 - k) k in
      let byte : x % 2 ^ 8 ≡ y % 2 ^ 8 = omega (arith, first) in
      sym (cut x) ∙ ap (λ v. v % 2 ^ k) byte ∙ cut y
  same_low few inside (inl gt) =
      let k = n + b % 8 in
      let x = low + high * 2 ^ 8 in
      let y = s / 2 ^ (8 * (b / 8)) in
      let e : 16 - k + k ≡ 16 = omega arith in
      let f : 8 * (b / 8 + 1) ≡ 8 * (b / 8) + 8 = omega arith in
      let cut : (v : ℕ) → v % 2 ^ 16 % 2 ^ k ≡ v % 2 ^ k = λ v. ap (λ i. v % 2 ^ i % 2 ^ k) (sym e) ∙ mod-mod-pow v (16 - k) k in
      let upper : high ≡ y / 2 ^ 8 % 2 ^ 8 = next (omega arith) ∙ ap (λ i. s / 2 ^ i % 2 ^ 8) f ∙ ap (λ v. v % 2 ^ 8) (sym (shr-shr s (8 * (b / 8)) 8)) in
      let bytes : x % 2 ^ 16 ≡ y % 2 ^ 16 = omega (arith, first, upper) in
      sym (cut x) ∙ ap (λ v. v % 2 ^ k) bytes ∙ cut y

  pub eight_from : n ≤ 8 → b + n ≤ 64 → (low + high * 2 ^ 8) / 2 ^ (b % 8) % 2 ^ 8 % 2 ^ n ≡ s / 2 ^ b % 2 ^ n
  eight_from few inside =
      let r = b % 8 in
      let x = low + high * 2 ^ 8 in
      let y = s / 2 ^ (8 * (b / 8)) in
      let e : 8 - n + n ≡ 8 = omega arith in
      let f : 8 * (b / 8) + r ≡ b = omega arith in
      ap (λ k. x / 2 ^ r % 2 ^ k % 2 ^ n) (sym e) ∙ mod-mod-pow (x / 2 ^ r) (8 - n) n ∙ sym (field x n r)
      ∙ ap (λ v. v / 2 ^ r) (same_low few inside (cases_lt 8 (n + r))) ∙ field y n r
      ∙ ap (λ v. v % 2 ^ n) (shr-shr s (8 * (b / 8)) r ∙ ap (λ k. s / 2 ^ k) f)

-- ---- bytes that fit

pub AreLanes-fit : {v : List ℕ} {f : ℕ → ℕ} → AreLanes 16 v f → EachLane (λ j. f j < 256) → Each1 (Fits w8) v
AreLanes-fit {v} {f} h small = grind (arith, common_steps, Each1-from_get_or (Fits w8) v 0 (λ i l. record { fits = subst (λ x. x < 256) (sym (h.each i (omega arith))) (small i (omega arith)) }))

-- ---- two deposits by their bytes

pub Deposits-from_lanes : (sources masks results : List ℕ)
    → EachLane (λ j. byte_of_two results j ≡ deposit 8 (get_or sources (j / 8) 0 / 2 ^ ones_below (get_or masks (j / 8) 0) (8 * (j % 8)) % 2 ^ 8) (byte_of_two masks j))
    → (k : ℕ) → k < 2 → Deposits (get_or sources k 0) (get_or masks k 0) (get_or results k 0)
Deposits-from_lanes sources masks results each k h = Deposits-from_bytes (get_or sources k 0) (get_or masks k 0) (get_or results k 0) (λ i l.
    let d : (8 * k + i) / 8 ≡ k = omega arith in
    let m : (8 * k + i) % 8 ≡ i = omega arith in
    sym (ap₂ (λ a b. byte_at (get_or results a 0) b) d m) ∙ each (8 * k + i) (omega arith)
    ∙ ap₂ (λ a b. deposit 8 (get_or sources a 0 / 2 ^ ones_below (get_or masks a 0) (8 * b) % 2 ^ 8) (byte_at (get_or masks a 0) b)) d m)

-- a byte's deposit takes from the gathered bits as many as lie within the word
pub gathered_alike : (s w i g : ℕ) → i < 8 → ((n : ℕ) → n ≤ 8 → ones_below w (8 * i) + n ≤ 64 → g % 2 ^ n ≡ s / 2 ^ ones_below w (8 * i) % 2 ^ n)
    → deposit 8 g (byte_at w i) ≡ deposit 8 (s / 2 ^ ones_below w (8 * i) % 2 ^ 8) (byte_at w i)
gathered_alike s w i g h bits =
    let b = byte_at w i in
    let n = count_ones b in
    let few : n ≤ 8 = ones-le 8 b (byte_at-lt w i) in
    let e : 8 - n + n ≡ 8 = omega arith in
    let x = s / 2 ^ ones_below w (8 * i) in
    deposit_alike 8 g (x % 2 ^ 8) b (byte_at-lt w i)
    (bits n few (omega (arith, ones_below-byte w i, ones_below-le w (8 * suc i))) ∙ sym (ap (λ k. x % 2 ^ k % 2 ^ n) (sym e) ∙ mod-mod-pow x (8 - n) n))

-- ---- the products by which bits of two bytes move up

abbrev pub powers : List ℕ
powers = 128 ∷ 64 ∷ 32 ∷ 16 ∷ 8 ∷ 4 ∷ 2 ∷ 1 ∷ 128 ∷ 64 ∷ 32 ∷ 16 ∷ 8 ∷ 4 ∷ 2 ∷ 1 ∷ []

power_at : (r : ℕ) → r < 8 → get_or powers r 0 ≡ 2 ^ (7 - r)
power_at = same_below 8 (λ r. get_or powers r 0) (λ r. 2 ^ (7 - r)) tt

-- the number of each lane's power
pub numbers : (from : List ℕ) → length from ≡ 16 → AreLanes 16 (zip2 bit_and from (replicate 16 7)) (λ j. get_or from j 0 % 8)
numbers from long = AreLanes-same (AreLanes-zip2 bit_and (AreLanes-itself 16 from long) (AreLanes-splat 16 7)) (λ j h. and_mask (get_or from j 0) 3)

-- and the power
pub power : (from : List ℕ) → length from ≡ 16 → AreLanes 16 (swz_l w8 16 powers 0 (zip2 bit_and from (replicate 16 7))) (λ j. 2 ^ (7 - get_or from j 0 % 8))
power from long = AreLanes-same (AreLanes-swz_l _ _ (numbers from long) (λ j h. omega arith) powers) (λ j h. power_at (get_or from j 0 % 8) (omega arith))

-- the two bytes as a number, moved up until its bit `from`, modulo eight, is bit 7
abbrev pub product : List ℕ → List ℕ → List ℕ → List ℕ
product low high from =
    zip2 (λ a b. a * b % 2 ^ 16) (zip2 (λ a b. (a + b) % 2 ^ 16) (map (λ n. n) low) (zip2 (λ a b. a * 2 ^ b % 2 ^ 16) (map (λ n. n) high) (replicate 16 8)))
    (map (λ n. n) (swz_l w8 16 powers 0 (zip2 bit_and from (replicate 16 7))))

pub product-is : (low high from : List ℕ) → (length low ≡ 16) × Each1 (Fits w8) low → (length high ≡ 16) × Each1 (Fits w8) high → length from ≡ 16
    → AreLanes 16 (product low high from) (λ j. (get_or low j 0 + get_or high j 0 * 2 ^ 8) * 2 ^ (7 - get_or from j 0 % 8) % 2 ^ 16)
product-is low high from fl fh long =
    let bytes = AreLanes-zip2 (λ a b. (a + b) % 2 ^ 16) (AreLanes-map (λ n. n) (AreLanes-itself 16 low fl.0)) (AreLanes-zip2 (λ a b. a * 2 ^ b % 2 ^ 16) (AreLanes-map (λ n. n) (AreLanes-itself 16 high fh.0)) (AreLanes-splat 16 8)) in
    let both = AreLanes-same bytes (λ j h. omega (arith, EachLane-fits low fl.0 fl.1 j h, EachLane-fits high fh.0 fh.1 j h)) in
    AreLanes-zip2 (λ a b. a * b % 2 ^ 16) both (AreLanes-map (λ n. n) (power from long))
