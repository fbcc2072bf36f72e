-- The list that is true, or false, exactly at some indices, as they come one by one.
use Rattle.vortex_mask.proofs.Common.{◌≡◌, ℕ, ◌<◌, ◌≤◌, Bool, true, false, not, nat_eq, List, [], ◌∷◌, ◌++◌, length, get_or, set, sym, ap, ◌∙◌, arith, list_any, cases_eq, same_lists, length-set, get_or-set_other, get_or-set_at, list_any-append, get_or-map-range_with_len, not_of, not_of-repeated, repeated, true_at, length-not_of, length-repeated, get_or-repeated, length-true_at}
use Rattle.std.proofs.lemmas.List.{map-set}

get_or-with : (n : ℕ) (xs : List ℕ) (i : ℕ) (d : Bool) → i < n → get_or (true_at n xs) i d ≡ list_any (nat_eq i) xs
unfolding true_at
get_or-with n xs i d h = get_or-map-range_with_len (λ j. list_any (nat_eq j) xs) 0 n i i d h (omega arith)

-- no index yet
pub with-none : (n : ℕ) → repeated n false ≡ true_at n []
with-none n = grind (arith, same_lists, length-repeated, length-true_at, get_or-repeated, get_or-with)

-- one more index of the list
pub with-set : (n x : ℕ) (xs : List ℕ) → x < n → set (true_at n xs) x true ≡ true_at n (xs ++ x ∷ [])
with-set n x xs h = grind (arith, length-set, length-true_at, same_lists, cases_eq, get_or-set_at, get_or-with, list_any-append, get_or-set_other)

-- one more index past its end
pub with-past : (n x : ℕ) (xs : List ℕ) → n ≤ x → true_at n xs ≡ true_at n (xs ++ x ∷ [])
with-past n x xs h = grind (arith, same_lists, length-true_at, get_or-with, list_any-append)

-- ---- the list that is false exactly at these indices

abbrev pub without : ℕ → List ℕ → List Bool
without n xs = not_of (true_at n xs)

pub length-without : (n : ℕ) (xs : List ℕ) → length (without n xs) ≡ n
length-without n xs = length-not_of (true_at n xs) ∙ length-true_at n xs

pub without-none : (n : ℕ) → repeated n true ≡ without n []
without-none n = sym (not_of-repeated n false) ∙ ap not_of (with-none n)

pub without-set : (n x : ℕ) (xs : List ℕ) → x < n → set (without n xs) x false ≡ without n (xs ++ x ∷ [])
without-set n x xs h = sym (map-set not (true_at n xs) x true) ∙ ap not_of (with-set n x xs h)

pub without-past : (n x : ℕ) (xs : List ℕ) → n ≤ x → without n xs ≡ without n (xs ++ x ∷ [])
without-past n x xs h = ap not_of (with-past n x xs h)
