use Rattle.vortex_mask.proofs.Common.{◌≡◌, ◌+◌, ◌-◌, ◌/◌, ◌%◌, List, ℕ, take, drop, false, refl, ◌∙◌, arith, get_or-take, get_or-drop, window, get_or-window, length-window, window_from_bits}
use Rattle.vortex_mask.proofs.intersect_by_rank.rank_bits.word_inside.Goals as goal

-- the window is the same in the sixteen bytes from its first one on
window-sixteen : (bytes : List ℕ) (n k p : ℕ) → n ≡ 16 → k ≡ p / 8 → window (take n (drop k bytes)) (p % 8) ≡ window bytes p
window-sixteen bytes n k p sixteen is =
    window_from_bits (take n (drop k bytes)) (p % 8) (window bytes p) (length-window bytes p) (λ j h.
    let bit : (p + j) % 8 ≡ (p % 8 + j) % 8 = omega arith in
    let byte : k + (p % 8 + j) / 8 ≡ (p + j) / 8 = omega arith in
    get_or-window bytes p j false h
    ∙ grind (arith, bit, byte, get_or-take n (drop k bytes) ((p % 8 + j) / 8) 0 (omega arith), get_or-drop k bytes ((p % 8 + j) / 8) 0))

pub returns : goal.returns
returns c = grind (arith, c.word_at.ensures, c.part.ensures, window-sixteen c.args.bytes.now (c.args.position / 8 + 16 - c.args.position / 8) (c.args.position / 8) c.args.position (omega arith) refl)
