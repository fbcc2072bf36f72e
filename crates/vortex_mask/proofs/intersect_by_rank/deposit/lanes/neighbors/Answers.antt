use Rattle.vortex_mask.proofs.Common.{◌≡◌, ◌+◌, ◌*◌, ◌/◌, ◌%◌, ◌^◌, ◌<◌, ℕ, ap₂, ◌∙◌, bit_and, arith, get_or, List, [], ◌∷◌, length, replicate, refl, zip2, and_mask, AreLanes, EachLane, byte_at, AreLanes-itself, AreLanes-swz_l, SwzOk-lanes, AreLanes-zip2, AreLanes-splat, AreLanes-same, same_below}
use Rattle.vortex_mask.proofs.intersect_by_rank.deposit.lanes.neighbors.Goals as goal

abbrev base : List ℕ
base = 0 ∷ 0 ∷ 0 ∷ 0 ∷ 0 ∷ 0 ∷ 0 ∷ 0 ∷ 8 ∷ 8 ∷ 8 ∷ 8 ∷ 8 ∷ 8 ∷ 8 ∷ 8 ∷ []

base_at : (j : ℕ) → j < 16 → get_or base j 0 ≡ 8 * (j / 8)
base_at = same_below 16 (λ i. get_or base i 0) (λ i. 8 * (i / 8)) tt

module _ (below : List ℕ) (long : length below ≡ 16) (inside : EachLane (λ j. get_or below j 0 < 64)) where
  -- the lane of the first of two bytes
  abbrev at : List ℕ
  at = zip2 (λ a b. (a + b) % 2 ^ 8) base (zip2 (λ a b. a / 2 ^ b) below (replicate 16 3))

  firsts : AreLanes 16 at (λ j. 8 * (j / 8) + get_or below j 0 / 8)
  firsts =
      AreLanes-same (AreLanes-zip2 (λ a b. (a + b) % 2 ^ 8) (AreLanes-itself 16 base refl) (AreLanes-zip2 (λ a b. a / 2 ^ b) (AreLanes-itself 16 below long) (AreLanes-splat 16 3)))
      (λ j h. omega (arith, base_at j h, inside j h))

  -- and of the second
  seconds : AreLanes 16 (zip2 bit_and (zip2 (λ a b. (a + b) % 2 ^ 8) at (replicate 16 1)) (replicate 16 15)) (λ j. (8 * (j / 8) + get_or below j 0 / 8 + 1) % 16)
  seconds =
      AreLanes-same (AreLanes-zip2 bit_and (AreLanes-zip2 (λ a b. (a + b) % 2 ^ 8) firsts (AreLanes-splat 16 1)) (AreLanes-splat 16 15))
      (λ j h. and_mask ((8 * (j / 8) + get_or below j 0 / 8 + 1) % 2 ^ 8) 4 ∙ omega (arith, inside j h))

pub swizzle : goal.swizzle
swizzle c = SwzOk-lanes _ _ (firsts c.args.below c.fits-below.0 c.requires) (λ j h. omega (arith, c.requires j h))

pub swizzle-2 : goal.swizzle-2
swizzle-2 c = SwzOk-lanes _ _ (seconds c.args.below c.fits-below.0 c.requires) (λ j h. omega arith)

pub returns-clause-low_lanes : goal.returns-clause-low_lanes
returns-clause-low_lanes c = (AreLanes-swz_l _ _ (firsts c.args.below c.fits-below.0 c.requires) (λ i l. omega (arith, c.requires i l)) c.bytes_of-bytes.result).lanes

pub returns-clause-high_lanes : goal.returns-clause-high_lanes
returns-clause-high_lanes c = (AreLanes-swz_l _ _ (seconds c.args.below c.fits-below.0 c.requires) (λ i l. omega arith) c.bytes_of-bytes.result).lanes

pub returns-clause-low : goal.returns-clause-low
returns-clause-low c = λ j h.
    let b = get_or c.args.below j 0 in
    let at = 8 * (j / 8) + b / 8 in
    let inside : b < 64 = c.requires j h in
    let d : at / 8 ≡ j / 8 = omega arith in
    let m : at % 8 ≡ b / 8 = omega arith in
    (AreLanes-swz_l _ _ (firsts c.args.below c.fits-below.0 c.requires) (λ i l. omega (arith, c.requires i l)) c.bytes_of-bytes.result).each j h
    ∙ c.bytes_of-bytes.ensures.each at (omega arith) ∙ ap₂ (λ k i. byte_at (get_or c.args.words k 0) i) d m

pub returns-clause-high : goal.returns-clause-high
returns-clause-high c = λ j h l.
    let b = get_or c.args.below j 0 in
    let at = 8 * (j / 8) + b / 8 in
    let d : (at + 1) % 16 / 8 ≡ j / 8 = omega arith in
    let m : (at + 1) % 16 % 8 ≡ b / 8 + 1 = omega arith in
    (AreLanes-swz_l _ _ (seconds c.args.below c.fits-below.0 c.requires) (λ i v. omega arith) c.bytes_of-bytes.result).each j h
    ∙ c.bytes_of-bytes.ensures.each ((at + 1) % 16) (omega arith) ∙ ap₂ (λ k i. byte_at (get_or c.args.words k 0) i) d m
