use Rattle.vortex_mask.proofs.Common.{◌≡◌, ℕ, ◌+◌, ◌/◌, ◌%◌, nat_eq, false, List, ◌++◌, get_or, replicate, sym, ap, ◌∙◌, arith, get_or_append_left, get_or-append_right, get_or_past, get_or-replicate, length-replicate, bit_at, window, length-window, get_or-window, window_from_bits, window-drop}
use Rattle.vortex_mask.proofs.intersect_by_rank.rank_bits.RankBits.read.Goals as goal

-- zeros behind bytes read as what is past them
byte-padded : (bytes : List ℕ) (n i : ℕ) → get_or (bytes ++ replicate n 0) i 0 ≡ get_or bytes i 0
byte-padded bytes n i = grind (arith, get_or_append_left, get_or-append_right, get_or-replicate, get_or_past, length-replicate {A = ℕ})

window-padded : (bytes : List ℕ) (n p : ℕ) → window (bytes ++ replicate n 0) p ≡ window bytes p
window-padded bytes n p =
    window_from_bits (bytes ++ replicate n 0) p (window bytes p) (length-window bytes p) (λ j h.
    get_or-window bytes p j false h
    ∙ ap (λ b. nat_eq (bit_at b ((p + j) % 8)) 1) (sym (byte-padded bytes n ((p + j) / 8))))

pub returns-else-position-self : goal.returns-else-position-self
returns-else-position-self c = grind (arith, window-drop, window-padded)
