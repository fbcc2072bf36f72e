-- What a test leaves of values, place by place, and of lists of one value.
use Rattle.mask_bits.proofs.Common.{◌≡◌, ℕ, ◌<◌, ◌≤◌, Bool, true, false, List, [], ◌∷◌, length, get_or, zip, and_of, ◌&&◌, refl, sym, subst, ap, ◌∙◌, arith, All, All-nil, All-get_or, AreAnswers, AreLeft, leaves, repeated}
use Rattle.mask_bits.proofs.Lists.BooleanLemmas.{combined-left, map-itself, map-one}
use Rattle.mask_bits.proofs.Lists.CountLemmas.{get_or-repeated, length-repeated}
use Rattle.std.proofs.lemmas.List.Elements.{All-from_get_or}
use Rattle.std.proofs.lemmas.Slice.Zip.{get_or-zip, length-zip}

-- what is left of each value
abbrev pub LeavesEach : {T : Type 0} → (T → Bool → Type 0) → List T → (ℕ → Bool) → (ℕ → Bool) → ℕ → Type 0
LeavesEach {T} gives rows before left n = (j : ℕ) (d : T) → j < n → leaves gives (get_or rows j d) (before j) (left j)

each_left : {T : Type 0} (gives : T → Bool → Type 0) (rows : List T) (a b : List Bool) → length rows ≤ length a → length b ≡ length rows
    → LeavesEach gives rows (λ j. get_or a j false) (λ j. get_or b j false) (length rows) → All (λ p. leaves gives p.0.0 p.0.1 p.1) (zip (zip rows a) b)
each_left gives [] a b enough len at = All-nil (λ p. leaves gives p.0.0 p.0.1 p.1)
each_left {T} gives (r ∷ rows) a b enough len at =
    let rs : List T = r ∷ rows in
    let size = length-zip rs a in
    All-from_get_or (λ (p : (T × Bool) × Bool). leaves gives p.0.0 p.0.1 p.1) (zip (zip rs a) b) ((r, false), false) (λ j h.
    let few : j < length rs = omega (arith, size, length-zip (zip rs a) b) in
    let pair = get_or-zip (zip rs a) b j ((r, false), false) (omega (arith, size)) (omega arith) in
    let first = get_or-zip rs a j (r, false) few (omega arith) in
    subst (λ (p : (T × Bool) × Bool). leaves gives p.0.0 p.0.1 p.1) (sym (pair ∙ ap (λ (p : T × Bool). (p, get_or b j false)) first)) (at j r few))

pub left_from_places : {T : Type 0} (gives : T → Bool → Type 0) (rows : List T) (a b : List Bool) → length rows ≤ length a → length b ≡ length rows
    → LeavesEach gives rows (λ j. get_or a j false) (λ j. get_or b j false) (length rows) → AreLeft gives rows a b
left_from_places gives rows a b enough len at = record { len = omega (arith, length-zip rows a); each = each_left gives rows a b enough len at }

pub places_of_left : {T : Type 0} (gives : T → Bool → Type 0) (rows : List T) (a b : List Bool) → length rows ≤ length a → AreLeft gives rows a b
    → LeavesEach gives rows (λ j. get_or a j false) (λ j. get_or b j false) (length rows)
places_of_left {T} gives rows a b enough left j d h =
    let size = length-zip rows a in
    let pair = get_or-zip (zip rows a) b j ((d, false), false) (omega (arith, size)) (omega (arith, size, left.len)) in
    let first = get_or-zip rows a j (d, false) h (omega arith) in
    subst (λ (p : (T × Bool) × Bool). leaves gives p.0.0 p.0.1 p.1) (pair ∙ ap (λ (p : T × Bool). (p, get_or b j false)) first)
    (All-get_or (λ (p : (T × Bool) × Bool). leaves gives p.0.0 p.0.1 p.1) (zip (zip rows a) b) j ((d, false), false) (omega (arith, size, left.len, length-zip (zip rows a) b)) left.each)

pub answer_at : {T : Type 0} (gives : T → Bool → Type 0) (rows : List T) (answers : List Bool) (j : ℕ) (d : T) → j < length rows → AreAnswers gives rows answers → gives (get_or rows j d) (get_or answers j false)
answer_at {T} gives rows answers j d h are =
    subst (λ (p : T × Bool). gives p.0 p.1) (get_or-zip rows answers j (d, false) h (omega (arith, are.len)))
    (All-get_or (λ (p : T × Bool). gives p.0 p.1) (zip rows answers) j (d, false) (omega (arith, are.len, length-zip rows answers)) are.each)

-- of true values the answers
pub left_of_true : {T : Type 0} (gives : T → Bool → Type 0) (rows : List T) (n : ℕ) (answers : List Bool) → length rows ≡ n → AreAnswers gives rows answers → AreLeft gives rows (repeated n true) answers
left_of_true gives rows n answers same are =
    left_from_places gives rows (repeated n true) answers (omega (arith, same, length-repeated n true)) are.len (λ j d h.
    subst (λ (x : Bool). leaves gives (get_or rows j d) x (get_or answers j false)) (sym (get_or-repeated n j true false (omega (arith, h, same)))) (answer_at gives rows answers j d h are))

-- and of false ones nothing
pub left_of_false : {T : Type 0} (gives : T → Bool → Type 0) (rows : List T) (n : ℕ) → length rows ≡ n → AreLeft gives rows (repeated n false) (repeated n false)
left_of_false gives rows n same =
    left_from_places gives rows (repeated n false) (repeated n false) (omega (arith, same, length-repeated n false)) (length-repeated n false ∙ sym same) (λ j d h.
    let none = get_or-repeated n j false false (omega (arith, h, same)) in
    subst (λ (x : Bool). leaves gives (get_or rows j d) x (get_or (repeated n false) j false)) (sym none) none)

-- true values and others are the others, and false values and others are false
pub and_of_true : (n : ℕ) (m : List Bool) → length m ≡ n → and_of (repeated n true) m ≡ m
and_of_true n m len = subst (λ (k : ℕ). and_of (repeated k true) m ≡ m) len (combined-left (λ x y. x && y) true (λ y. y) (λ y. refl) m ∙ map-itself m)

pub and_of_false : (n : ℕ) (m : List Bool) → length m ≡ n → and_of (repeated n false) m ≡ repeated n false
and_of_false n m len = subst (λ (k : ℕ). and_of (repeated k false) m ≡ repeated k false) len (combined-left (λ x y. x && y) false (λ y. false) (λ y. refl) m ∙ map-one false m)
