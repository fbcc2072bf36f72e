use Rattle.vortex_mask.proofs.Common.{◌≡◌, ◌+◌, ◌*◌, ◌/◌, ◌%◌, ◌<◌, ℕ, ap, ap₂, ◌∙◌, sym, arith, count_ones, get_or, ones-le, byte_at, byte_of_two, count_below-word_bits, AreLanes-map}
use Rattle.vortex_mask.proofs.Deposits.ByteCountLemmas.{summed_is}
use Rattle.vortex_mask.proofs.Deposits.ByteLemmas.{byte_at-lt}
use Rattle.vortex_mask.proofs.Deposits.LaneLemmas.{AreLanes-fit}
use Rattle.vortex_mask.proofs.intersect_by_rank.deposit.lanes.counts_below.Goals as goal

pub overflow_cast-bytes_of : goal.overflow_cast-bytes_of
overflow_cast-bytes_of c = AreLanes-fit (AreLanes-map count_ones c.bytes_of.ensures) (λ j h. omega (arith, ones-le 8 (byte_of_two c.args.masks j) (byte_at-lt _ _)))

pub returns : goal.returns
returns c =
    let masks = c.args.masks in
    let counts = AreLanes-map (λ n. n) (AreLanes-map count_ones c.bytes_of.ensures) in
    let at : (k i : ℕ) → k < 2 → i < 8 → byte_at (get_or c.words_of.result k 0) i ≡ count_ones (byte_at (get_or masks k 0) i) =
    λ k i h l.
    let d : (8 * k + i) / 8 ≡ k = omega arith in
    let m : (8 * k + i) % 8 ≡ i = omega arith in
    sym (ap₂ (λ a b. byte_at (get_or c.words_of.result a 0) b) d m) ∙ c.words_of.ensures.bytes (8 * k + i) (omega arith) ∙ counts.each (8 * k + i) (omega arith)
    ∙ ap₂ (λ a b. count_ones (byte_at (get_or masks a 0) b)) d m in
    record {
      lanes = c.bytes_of-2.ensures.lanes;
      each = λ j h.
          c.bytes_of-2.ensures.each j h ∙ ap (λ x. byte_at x (j % 8)) (c.sums_below.ensures.sums (j / 8) (omega arith))
          ∙ summed_is (get_or c.words_of.result (j / 8) 0) (get_or masks (j / 8) 0) (j % 8) (λ i l. at (j / 8) i (omega arith) l) (omega arith) (j % 8) (omega arith)
          ∙ sym (count_below-word_bits (get_or masks (j / 8) 0) (8 * (j % 8)) (omega arith));
    }
