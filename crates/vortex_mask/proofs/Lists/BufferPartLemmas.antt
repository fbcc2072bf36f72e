-- A buffer by its parts, and a list of bytes after all of it was written.
use Rattle.mask_bits.proofs.Lists.Words.BackingBitLemmas.{lengths}
use Rattle.mask_bits.specs.Buffer.{IsWithinBytes}
use Rattle.std.proofs.lemmas.List.{take-append-le}
use Rattle.vortex_mask.proofs.Common.{ℕ, ◌≡◌, List, ◌++◌, length, take, drop, arith, take_all, Packed, values, bitmap}

-- a buffer's list
pub bitmap-parts : (b : Packed) (bytes : List ℕ) (offset len : ℕ) → bytes ≡ b.bytes → offset ≡ b.offset → len ≡ length (values b) → bitmap bytes offset len ≡ values b
bitmap-parts b bytes offset len is_bytes is_offset is_len = grind (arith, lengths)

-- all of it is within its bytes
pub within-parts : (b : Packed) (bytes : List ℕ) (offset len : ℕ) → IsWithinBytes b.bytes b.offset b.len → bytes ≡ b.bytes → offset ≡ b.offset → len ≡ length (values b) → IsWithinBytes bytes offset len
within-parts b bytes offset len within is_bytes is_offset is_len = grind (arith, lengths)

-- what a list holds that was written
pub written-all : (ys xs : List ℕ) (n : ℕ) → length ys ≡ n → take n (ys ++ drop (length ys) xs) ≡ ys
written-all ys xs n len = grind (arith, take-append-le, take_all)

pub ruleset buffer_parts = (bitmap-parts, within-parts, written-all)
