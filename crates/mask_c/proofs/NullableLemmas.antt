-- Truth values with nulls that are written: those of whole words, and the last ones by a word.
use Rattle.mask_c.proofs.Common.{length-bitmap, ◌≡◌, ℕ, ◌+◌, ◌*◌, ◌/◌, ◌%◌, ◌<◌, ◌≤◌, Bool, List, [], ◌∷◌, ◌++◌, length, take, map, Option, None, Some, refl, sym, ap, ap₂, ◌∙◌, arith, option_map, bitmap, word_bits, values_so_far}
use Rattle.std.specs.Borrow.{Bor}
use Rattle.mask_bits.specs.Buffer.{IsWithinBytes}
use Rattle.mask_bits.specs.Kleene.{nullable_bitmap, HasValues}
use Rattle.mask_bits.specs.Nullable.{nullable, combined_nullable}
use Rattle.mask_bits.specs.declared.kleene.NullableBitmap.{NullableBitmap}
use Rattle.mask_bits.proofs.Lists.NullableLemmas.{length-both, length-somes}
use Rattle.mask_c.proofs.LastLemmas.{written}
use Rattle.mask_c.specs.Nullable.{nullable_in}

-- values of a list of some are no more than all
within-fewer : (bytes : List ℕ) (p m n : ℕ) → m ≤ n → IsWithinBytes bytes p n → IsWithinBytes bytes p m
within-fewer bytes p m n few all = record { covered = omega (arith, all.covered); fits = omega (arith, all.fits) }

pub fewer : (a : NullableBitmap) (m n : ℕ) → m ≤ n → HasValues a n → HasValues a m
fewer a m n few all = record {
  values = within-fewer a.values.0.now a.values.1 m n few all.values;
  validity = λ v is. within-fewer v.0.now v.1 m n few (all.validity v is);
}

-- there is a validity where there are bytes
pub list-absent : (values : List ℕ) (p : ℕ) (validity : List ℕ) (q n : ℕ) → length validity ≡ 0 → nullable (bitmap values p n) None ≡ nullable_in values p validity q n
list-absent values p [] q n none = refl
list-absent values p (x ∷ validity) q n none = absurd (omega arith)

pub list-present : (values : List ℕ) (p : ℕ) (validity : List ℕ) (q n : ℕ) → 0 < length validity → nullable (bitmap values p n) (Some (bitmap validity q n)) ≡ nullable_in values p validity q n
list-present values p [] q n some = absurd (omega arith)
list-present values p (x ∷ validity) q n some = refl

-- ---- two parts

table-append : (h : Option Bool → Bool) (table : Option Bool → Option Bool → Option Bool) (a c b d : List (Option Bool)) → length a ≡ length b
    → map h (combined_nullable table (a ++ c) (b ++ d)) ≡ map h (combined_nullable table a b) ++ map h (combined_nullable table c d)
table-append h table [] c [] d len = refl
table-append h table [] c (y ∷ b) d len = absurd (omega arith)
table-append h table (x ∷ a) c [] d len = absurd (omega arith)
table-append h table (x ∷ a) c (y ∷ b) d len = ap (λ (xs : List Bool). h (table x y) ∷ xs) (table-append h table a c b d (omega arith))

length-parts : (values : List ℕ) (p : ℕ) (validity : Option (Bor (List ℕ) × ℕ)) (n : ℕ) → length (nullable (bitmap values p n) (option_map (λ v. bitmap v.0.now v.1 n) validity)) ≡ n
length-parts values p None n = length-somes (bitmap values p n) ∙ length-bitmap values p n
length-parts values p (Some v) n = length-both (bitmap values p n) (bitmap v.0.now v.1 n) (length-bitmap v.0.now v.1 n ∙ sym (length-bitmap values p n)) ∙ length-bitmap values p n

length-nullable_bitmap : (a : NullableBitmap) (n : ℕ) → length (nullable_bitmap a n) ≡ n
length-nullable_bitmap a n = length-parts a.values.0.now a.values.1 a.validity n

-- whole words, and what one word has of the rest
pub written-table : (h : Option Bool → Bool) (table : Option Bool → Option Bool → Option Bool) (a b c d : NullableBitmap) (front more : List ℕ) (word n : ℕ) → 64 * (n / 64) ≤ 8 * length front
    → ((k : ℕ) → nullable_bitmap a (64 * (n / 64) + k) ≡ nullable_bitmap a (64 * (n / 64)) ++ nullable_bitmap c k)
    → ((k : ℕ) → nullable_bitmap b (64 * (n / 64) + k) ≡ nullable_bitmap b (64 * (n / 64)) ++ nullable_bitmap d k)
    → bitmap front 0 (64 * (n / 64)) ≡ map h (combined_nullable table (nullable_bitmap a (64 * (n / 64))) (nullable_bitmap b (64 * (n / 64))))
    → take (n % 64) (word_bits word) ≡ map h (combined_nullable table (nullable_bitmap c (n % 64)) (nullable_bitmap d (n % 64)))
    → values_so_far (front ++ more) word n ≡ map h (combined_nullable table (nullable_bitmap a n) (nullable_bitmap b n))
written-table h table a b c d front more word n covers parts_a parts_b list last =
    let w : ℕ = 64 * (n / 64) in
    let parts : w + n % 64 ≡ n = omega arith in
    written _ _ front more word n covers list last
    ∙ sym (table-append h table (nullable_bitmap a w) (nullable_bitmap c (n % 64)) (nullable_bitmap b w) (nullable_bitmap d (n % 64)) (length-nullable_bitmap a w ∙ sym (length-nullable_bitmap b w)))
    ∙ ap₂ (λ (x y : List (Option Bool)). map h (combined_nullable table x y)) (sym (parts_a (n % 64)) ∙ ap (nullable_bitmap a) parts) (sym (parts_b (n % 64)) ∙ ap (nullable_bitmap b) parts)
