-- The rows that ranges hold.
use Rattle.mask_bits.proofs.Common.{◌≡◌, ℕ, ◌-◌, ◌<◌, ◌≤◌, Bool, true, false, List, [], ◌∷◌, ◌++◌, length, get_or, drop, slice_range, sym, ap, ◌∙◌, arith, ap₂, list_any, flat_map, drop_all, length-between, drop_split, chosen, is_inside, AreRanges}
use Rattle.mask_bits.proofs.Lists.ChooseLemmas.{chosen-all_true, chosen-all_false}
use Rattle.mask_bits.proofs.Lists.LawLemmas.{chosen-items_where_true}
use Rattle.mask_bits.proofs.Lists.Runs.RangeLemmas.{Ordered, Ordered-top, Ordered-of, none_below, part_of_one}
use Rattle.mask_bits.proofs.Lists.Runs.RunLemmas.{inside, inside-past}
use Rattle.mask_bits.proofs.Lists.RowLemmas.{chosen_of_two_chunks}

-- a part before the rest, of rows and of values
chosen-part : {X : Type 0} (rows : List X) (m : List Bool) (s e : ℕ) → length rows ≡ length m → s ≤ e → e ≤ length m
    → chosen (drop s rows) (drop s m) ≡ chosen (slice_range rows s e) (slice_range m s e) ++ chosen (drop e rows) (drop e m)
chosen-part {X} rows m s e len ordered within =
    grind (arith, drop_split rows s e ordered, drop_split m s e ordered, chosen_of_two_chunks, length-between)

-- a part whose values are all false, or all true
chosen-gap : {X : Type 0} (rows : List X) (m : List Bool) (s e : ℕ) → e ≤ length m → ((i : ℕ) → s ≤ i → i < e → get_or m i false ≡ false) → chosen (slice_range rows s e) (slice_range m s e) ≡ []
chosen-gap rows m s e within none = ap (chosen (slice_range rows s e)) (part_of_one m false s e within none) ∙ chosen-all_false (slice_range rows s e) (e - s)

chosen-held : {X : Type 0} (rows : List X) (m : List Bool) (s e : ℕ) → length rows ≡ length m → e ≤ length m → ((i : ℕ) → s ≤ i → i < e → get_or m i false ≡ true) → chosen (slice_range rows s e) (slice_range m s e) ≡ slice_range rows s e
chosen-held rows m s e len within held =
    ap (chosen (slice_range rows s e)) (part_of_one m true s e within held) ∙ chosen-all_true (slice_range rows s e) (e - s) (length-between rows s e (omega arith))

-- from a place on, the rows of the ranges are the chosen ones
rows_from : {X : Type 0} (rows : List X) (m : List Bool) (low : ℕ) (rs : List (ℕ × ℕ)) → length rows ≡ length m → Ordered low (length m) rs
    → ((i : ℕ) → low ≤ i → i < length m → get_or m i false ≡ list_any (is_inside i) rs) → flat_map (λ r. slice_range rows r.0 r.1) rs ≡ chosen (drop low rows) (drop low m)
rows_from {X} rows m low [] len o exact =
    sym (chosen-part rows m low (length m) len o (omega arith)
    ∙ ap₂ (λ (xs ys : List X). xs ++ ys) (chosen-gap rows m low (length m) (omega arith) (λ i from h. exact i from h))
    (ap (chosen (drop (length m) rows)) (drop_all (length m) m (omega arith)) ∙ chosen-items_where_true (drop (length m) rows) []))
rows_from {X} rows m low (r ∷ rs) len o exact =
    let top = Ordered-top r.1 (length m) rs o.2 in
    let gap = chosen-gap rows m low r.0 (omega (arith, o.1, top)) (λ i from h. grind (arith, exact i from, o.1, top, none_below r.0 (length m) i (r ∷ rs) (omega arith, o.1, o.2) h)) in
    let held = chosen-held rows m r.0 r.1 len top (λ i from h. grind (arith, exact i, o.0, top, inside i r from h)) in
    let rest = rows_from rows m r.1 rs len o.2 (λ i from h. grind (arith, exact i, o.0, o.1, inside-past i r from)) in
    sym (chosen-part rows m low r.0 len o.0 (omega (arith, o.1, top))
    ∙ ap₂ (λ (xs ys : List X). xs ++ ys) gap (chosen-part rows m r.0 r.1 len (omega (arith, o.1)) top ∙ ap₂ (λ (xs ys : List X). xs ++ ys) held (sym rest)))

-- the rows of ranges that hold exactly the true indices, one range after another, are the chosen rows
pub chosen_by_ranges : {X : Type 0} (rows copied : List X) (m : List Bool) (rs : List (ℕ × ℕ)) → copied ≡ flat_map (λ r. slice_range rows r.0 r.1) rs
    → length rows ≡ length m → AreRanges m rs → copied ≡ chosen rows m
chosen_by_ranges rows copied m rs same len are = same ∙ rows_from rows m 0 rs len (Ordered-of m rs are) (λ i from h. are.exact i h)
