-- Offsets and bytes say which strings they are of: those that two calls write, the chosen ones.
use Rattle.mask_c.proofs.Common.{◌≡◌, ◌+◌, ◌-◌, ◌<◌, ◌≤◌, ℕ, zero, suc, Bool, Option, Some, None, slice_get, List, [], ◌∷◌, ◌++◌, append_assoc, length, get_or, take, drop, map, slice_range, refl, sym, ap, ap₂, ◌∙◌, arith, drop-append_seam, take-append_seam, concat, cons_option, IsNonDecreasing, option_map, length-between, get_or_from_slice_get, slice_get-map, ext_get_or, get_or-map, length-append, length-map, nil_from_length, length-map-range_with_len, get_or-map-range_with_len, chosen, positions, ends_from, items_at, offsets_of, sizes, strings, chosen_at_positions}
use Rattle.mask_c.proofs.StringLemmas.{length-sizes, slice_get-sizes}

-- ---- the strings of some offsets and bytes

length-strings : (os bs : List ℕ) → length (strings os bs) ≡ length os - 1
unfolding strings
length-strings os bs = length-map-range_with_len (λ i. slice_range bs (get_or os i 0) (get_or os (i + 1) 0)) 0 (length os - 1)

get_or-strings : (os bs : List ℕ) (i : ℕ) → i + 1 < length os → get_or (strings os bs) i [] ≡ slice_range bs (get_or os i 0) (get_or os (i + 1) 0)
unfolding strings
get_or-strings os bs i h =
    get_or-map-range_with_len (λ j. slice_range bs (get_or os j 0) (get_or os (j + 1) 0)) 0 (length os - 1) i i [] (omega arith) (omega arith)

first_string-at : (a b : ℕ) (os bs : List ℕ) (i : ℕ) → i < length os + 1 → get_or (strings (a ∷ b ∷ os) bs) i [] ≡ get_or (slice_range bs a b ∷ strings (b ∷ os) bs) i []
first_string-at a b os bs zero h = get_or-strings (a ∷ b ∷ os) bs 0 (omega arith)
first_string-at a b os bs (suc i) h =
    let next : suc i + 1 ≡ suc (i + 1) = omega arith in
    get_or-strings (a ∷ b ∷ os) bs (suc i) (omega arith)
    ∙ ap (λ n. slice_range bs (get_or (b ∷ os) i 0) (get_or (a ∷ b ∷ os) n 0)) next
    ∙ sym (get_or-strings (b ∷ os) bs i (omega arith))

first_string : (a b : ℕ) (os bs : List ℕ) → strings (a ∷ b ∷ os) bs ≡ slice_range bs a b ∷ strings (b ∷ os) bs
first_string a b os bs =
    ext_get_or [] (strings (a ∷ b ∷ os) bs) (slice_range bs a b ∷ strings (b ∷ os) bs)
    (omega (arith, length-strings (a ∷ b ∷ os) bs, length-strings (b ∷ os) bs))
    (λ i h. first_string-at a b os bs i (omega (arith, length-strings (a ∷ b ∷ os) bs)))

strings_behind : (ss : List (List ℕ)) (n : ℕ) (front : List ℕ) → length front ≡ n → strings (n ∷ ends_from n (map (λ (s : List ℕ). length s) ss)) (front ++ concat ss) ≡ ss
strings_behind [] n front len = nil_from_length (strings (n ∷ []) (front ++ [])) (length-strings (n ∷ []) (front ++ []))
strings_behind (s ∷ ss) n front len =
    let end : ℕ = n + length s in
    let bs : List ℕ = front ++ (s ++ concat ss) in
    let ends : List ℕ = ends_from end (map (λ (t : List ℕ). length t) ss) in
    let many : end - n ≡ length s = omega arith in
    let this : slice_range bs n end ≡ s
    = ap (λ k. take (end - n) (drop k bs)) (sym len) ∙ ap (take (end - n)) (drop-append_seam front (s ++ concat ss))
    ∙ ap (λ k. take k (s ++ concat ss)) many ∙ take-append_seam s (concat ss) in
    first_string n end ends bs
    ∙ ap₂ (λ (x : List ℕ) (xs : List (List ℕ)). x ∷ xs) this
    (ap (strings (end ∷ ends)) (sym (append_assoc front s (concat ss))) ∙ strings_behind ss end (front ++ s) (omega (arith, len, length-append front s)))

-- the offsets of strings and their bytes are of these strings
pub strings_again : (ss : List (List ℕ)) → strings (offsets_of (map (λ (s : List ℕ). length s) ss)) (concat ss) ≡ ss
strings_again ss = strings_behind ss 0 [] refl

-- ---- the strings that are chosen

sizes_of_strings : (os bs : List ℕ) → IsNonDecreasing os → get_or os (length os - 1) 0 ≤ length bs → sizes os ≡ map (λ (s : List ℕ). length s) (strings os bs)
sizes_of_strings os bs ascending covered =
    let long : List ℕ → ℕ = λ s. length s in
    ext_get_or 0 (sizes os) (map long (strings os bs)) (length-sizes os ∙ sym (length-map (strings os bs) long ∙ length-strings os bs)) (λ i h.
    let inside : i + 1 < length os = omega (arith, length-sizes os) in
    get_or_from_slice_get (sizes os) i (get_or os (i + 1) 0 - get_or os i 0) 0 (slice_get-sizes os i inside)
    ∙ sym (length-between bs (get_or os i 0) (get_or os (i + 1) 0) (omega (arith, ascending (i + 1) (length os - 1) 0 (omega (arith, inside)) (omega (arith, inside)))))
    ∙ ap long (sym (get_or-strings os bs i inside))
    ∙ sym (get_or-map long (strings os bs) i [] 0 (omega (arith, length-strings os bs))))

option-mapped : {A : Type 0} (f : A → ℕ) (o : Option A) (xs : List A) → cons_option (option_map f o) (map f xs) ≡ map f (cons_option o xs)
option-mapped f (Some x) xs = refl
option-mapped f None xs = refl

items-mapped : {A : Type 0} (f : A → ℕ) (xs : List A) (ps : List ℕ) → items_at (map f xs) ps ≡ map f (items_at xs ps)
items-mapped f xs [] = refl
items-mapped {A} f xs (p ∷ ps) =
    ap₂ (λ o (ys : List ℕ). cons_option o ys) (slice_get-map f xs p) (items-mapped f xs ps) ∙ option-mapped f (slice_get xs p) (items_at xs ps)

-- the offsets and the bytes that two calls write are those of the chosen strings
pub chosen_strings : (os bs : List ℕ) (m : List Bool) → IsNonDecreasing os → get_or os (length os - 1) 0 ≤ length bs
    → strings (offsets_of (chosen (sizes os) m)) (concat (chosen (strings os bs) m)) ≡ chosen (strings os bs) m
chosen_strings os bs m ascending covered =
    let xss : List (List ℕ) = strings os bs in
    let long : List ℕ → ℕ = λ s. length s in
    let lens : chosen (sizes os) m ≡ map long (chosen xss m)
    = ap (λ ns. chosen ns m) (sizes_of_strings os bs ascending covered) ∙ chosen_at_positions (map long xss) m ∙ items-mapped long xss (positions m) ∙ ap (map long) (sym (chosen_at_positions xss m)) in
    ap (λ ns. strings (offsets_of ns) (concat (chosen xss m))) lens ∙ strings_again (chosen xss m)
