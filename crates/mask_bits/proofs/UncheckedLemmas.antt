-- Bytes that are put into room that a caller lends, by words.
use Rattle.mask_bits.proofs.Common.{◌≡◌, ℕ, ◌+◌, ◌-◌, ◌<◌, ◌≤◌, List, ◌++◌, length, get_or, take, drop, slice_range, ap, ◌∙◌, arith, take_all, length-take, length-drop, get_or_past, get_or-between, le_bytes_8, take-put_mid, put_mid, from_le_bytes, to_le_bytes, w64}

-- ---- bytes

length-range : (bytes : List ℕ) (a b : ℕ) → a ≤ b → b ≤ length bytes → length (slice_range bytes a b) ≡ b - a
length-range bytes a b order within = omega (arith, length-take (b - a) (drop a bytes), length-drop a bytes)

-- eight bytes that are a number on the way
pub eight-bytes : (bytes out chunk new : List ℕ) (at begin n : ℕ) → ((k : ℕ) → get_or bytes k 0 < 256) → begin + 8 ≤ length bytes → at ≤ length out
    → chunk ≡ take 8 (take (begin + 8 - begin) (drop begin bytes)) → n ≡ from_le_bytes w64 chunk → new ≡ to_le_bytes w64 n
    → take (at + 8) (put_mid at (at + 8 - at) out new) ≡ take at out ++ slice_range bytes begin (begin + 8)
eight-bytes bytes out chunk new at begin n are within room is number wrote =
    let part : List ℕ = slice_range bytes begin (begin + 8) in
    let len : length part ≡ 8 = omega (arith, length-range bytes begin (begin + 8) (omega arith) within) in
    let whole : chunk ≡ part = is ∙ take_all 8 part (omega (arith, len)) in
    let read : (k : ℕ) → k < 8 → get_or chunk k 0 ≡ get_or bytes (begin + k) 0
    = λ k h. ap (λ (xs : List ℕ). get_or xs k 0) whole ∙ get_or-between bytes begin (begin + 8) k 0 (omega arith) in
    let are_part : (k : ℕ) → get_or chunk k 0 < 256 = λ k. grind (arith, read k, are (begin + k), get_or_past chunk k 0, ap length whole, len) in
    let same : new ≡ part = wrote ∙ le_bytes_8 chunk n (ap length whole ∙ len) are_part number ∙ whole in
    take-put_mid at (at + 8 - at) out new (at + 8) (omega (arith, ap length same, len)) room
    ∙ ap (λ (xs : List ℕ). take at out ++ xs) same
