use Rattle.mask_bits.proofs.Common.{ℕ, ◌+◌, ◌*◌, ◌/◌, ◌%◌, ◌^◌, ◌<◌, ap₂, ◌∙◌, refl, bit_and, get_or, arith}
use Rattle.mask_bits.proofs.Lists.Words.LaneLemmas.{AreLanes-itself, AreLanes-zip2, AreLanes-splat, AreLanes-same, lane-fits}
use Rattle.mask_bits.proofs.Lists.Words.WideLaneLemmas.{AreLanes-wider, lower_lane, upper_lane, sum_cut}
use Rattle.mask_bits.proofs.extract.two_words.join_bytes.Goals as goal

pub returns : goal.returns
returns c =
    let bytes = c.args.bytes in
    let fits = λ (j : ℕ) (h : j < 16). lane-fits bytes 16 j c.fits-bytes.0 c.fits-bytes.1 h in
    let pairs = AreLanes-wider {n = 8} 256 65536 refl (AreLanes-itself 16 bytes c.fits-bytes.0) fits in
    let lower = AreLanes-zip2 bit_and pairs (AreLanes-splat 8 0xFF) in
    let upper = AreLanes-zip2 (λ (a b : ℕ). a / 2 ^ b) pairs (AreLanes-splat 8 8) in
    AreLanes-same (AreLanes-zip2 (λ (a b : ℕ). (a + b) % 2 ^ 16) lower (AreLanes-zip2 (λ (a b : ℕ). a * b % 2 ^ 16) upper (AreLanes-itself 8 c.args.powers c.fits-powers.0)))
    (λ j h.
    let x : ℕ = get_or bytes (2 * j) 0 in
    let y : ℕ = get_or bytes (2 * j + 1) 0 in
    let p : ℕ = get_or c.args.powers j 0 in
    ap₂ (λ a b. (a + b * p % 2 ^ 16) % 2 ^ 16) (lower_lane 8 x y (fits (2 * j) (omega arith))) (upper_lane 8 x y (fits (2 * j) (omega arith)))
    ∙ sum_cut x (y * p) (2 ^ 16))
