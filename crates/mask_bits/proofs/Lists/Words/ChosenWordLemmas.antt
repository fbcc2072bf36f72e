-- The values that one list chooses of another, word by word.
use Rattle.mask_bits.proofs.Common.{◌≡◌, ℕ, ◌-◌, ◌≤◌, Bool, List, [], ◌++◌, length, take, slice_range, refl, arith, take-add, length-take, chosen}
use Rattle.mask_bits.proofs.Lists.RowLemmas.{chosen_of_two_chunks}

-- the rows before a place and those of the part that follows
pub chosen-part_more : {X : Type 0} (rows : List X) (m : List Bool) (n e : ℕ) → length rows ≡ length m → n ≤ e
    → chosen (take n rows) (take n m) ++ chosen (slice_range rows n e) (slice_range m n e) ≡ chosen (take e rows) (take e m)
chosen-part_more {X} rows m n e len h = grind (arith, length-take, chosen_of_two_chunks, take-add n (e - n) rows, take-add)

-- no rows choose nothing
pub chosen-none : chosen {X = Bool} [] [] ≡ []
unfolding chosen
chosen-none = refl
