-- What a test answers of rows, row by row and lane by lane.
use Rattle.mask_bits.proofs.Common.{◌≡◌, ℕ, drop, ◌+◌, ◌-◌, ◌<◌, ◌≤◌, ◌^◌, Bool, false, List, [], ◌∷◌, ◌++◌, length, get_or, map, nat_eq, replicate, set, take, zip, refl, sym, subst, ap, ap₂, ◌∙◌, inl, inr, arith, Bor, All, FnReturnsAt, Shared, bit_at, cases_lt, nat_tests, get_or-take, get_or_past, length-append, take-append-le, take-take, take-append-drop, drop-take, get_or-append_seam, bit_at-lt, bit_at_above, All-nil, All-cons, All-head, All-tail, bitmap, backing_bit, AreLanesOf, ArePacked, AreAnswers, AreAsComputed, window, word_bits, ext_get_or, length-take, length-drop, length-take-le, bool_byte}
use Rattle.mask_bits.proofs.BoolsLemmas.{lanes-none, lanes-more}
use Rattle.mask_bits.proofs.ChosenBitLemmas.{joined, joined-list}
use Rattle.mask_bits.proofs.Lists.Words.BackingBitLemmas.{bitmap-append, no_values}
use Rattle.mask_bits.proofs.Lists.Words.FrontLemmas.{front-same, window-take}
use Rattle.mask_bits.proofs.Lists.Words.WordLemmas.{get_or-word_bits, length-word_bits}

-- the answers are those of any function that the test computes
as_computed : {F T : Type 0} (g : Shared F (Bor T × Unit {0}) Bool) (test : F) (rows : List T) (answers : List Bool) (f : T → Bool)
    → ((row : Bor T) (b : Bool) → g.post test (row, tt) b → b ≡ f row.now) → length answers ≡ length rows → All (λ p. FnReturnsAt g test p.0 p.1) (zip rows answers) → answers ≡ map f rows
as_computed g test [] [] f is len all = refl
as_computed g test [] (b ∷ answers) f is len all = absurd (omega arith)
as_computed g test (r ∷ rows) [] f is len all = absurd (omega arith)
as_computed {F} {T} g test (r ∷ rows) (b ∷ answers) f is len all = grind (arith, All-head, All-tail, as_computed g test rows answers f is (omega arith) (All-tail (λ (p : T × Bool). FnReturnsAt g test p.0 p.1) (r, b) (zip rows answers) all))

pub computed_of_answers : {F T : Type 0} (g : Shared F (Bor T × Unit {0}) Bool) (test : F) (rows : List T) (answers : List Bool) → AreAnswers (FnReturnsAt g test) rows answers
    → AreAsComputed (λ row b. g.post test (row, tt) b) rows answers
computed_of_answers g test rows answers are f is = as_computed g test rows answers f is are.len are.each

-- ---- one after another

pub no_answers : {T : Type 0} (gives : T → Bool → Type 0) → AreAnswers gives [] []
no_answers gives = record { len = refl; each = All-nil (λ p. gives p.0 p.1) }

answers_behind : {T : Type 0} (gives : T → Bool → Type 0) (rows more : List T) (a b : List Bool) → length a ≡ length rows
    → All (λ p. gives p.0 p.1) (zip rows a) → All (λ p. gives p.0 p.1) (zip more b) → All (λ p. gives p.0 p.1) (zip (rows ++ more) (a ++ b))
answers_behind gives [] more [] b len front back = back
answers_behind gives [] more (x ∷ a) b len front back = absurd (omega arith)
answers_behind gives (r ∷ rows) more [] b len front back = absurd (omega arith)
answers_behind {T} gives (r ∷ rows) more (x ∷ a) b len front back = grind (arith, All-cons, All-head, All-tail, answers_behind gives rows more a b (omega arith) (All-tail (λ (p : T × Bool). gives p.0 p.1) (r, x) (zip rows a) front) back)

pub answers-append : {T : Type 0} (gives : T → Bool → Type 0) (rows more : List T) (a b : List Bool) → AreAnswers gives rows a → AreAnswers gives more b → AreAnswers gives (rows ++ more) (a ++ b)
answers-append gives rows more a b front back = grind (arith, length-append, answers_behind gives rows more a b front.len front.each back.each)

pub one_answer : {T : Type 0} (gives : T → Bool → Type 0) (row : T) (b : Bool) → gives row b → AreAnswers gives (row ∷ []) (b ∷ [])
one_answer {T} gives row b is = record { len = refl; each = All-cons (λ (p : T × Bool). gives p.0 p.1) (row, b) [] is (All-nil (λ (p : T × Bool). gives p.0 p.1)) }

-- the front of a list, and the part behind it
pub take_part : {T : Type 0} (n m : ℕ) (rows : List T) → take n rows ++ take m (drop n rows) ≡ take (n + m) rows
take_part n m rows = grind (arith, take-take n (n + m) rows (omega arith), drop-take n m rows, take-append-drop)

pub length-part : {T : Type 0} (rows : List T) (n e : ℕ) → e ≤ length rows → length (take (e - n) (drop n rows)) ≡ e - n
length-part rows n e within = length-take-le (e - n) (drop n rows) (omega (arith, length-drop n rows))

-- the next rows' answers, behind those of the first n
pub answers-more : {T : Type 0} (gives : T → Bool → Type 0) (rows : List T) (n e w : ℕ) (a new : List Bool) → n ≤ e → AreAnswers gives (take n rows) a
    → AreAnswers gives (take (e - n) (drop n rows)) (take (length (take (e - n) (drop n rows))) (word_bits w)) → new ≡ a ++ take (length (take (e - n) (drop n rows))) (word_bits w)
    → AreAnswers gives (take e rows) new
answers-more gives rows n e w a new ordered front back same =
    grind (arith, take_part, answers-append gives (take n rows) (take (e - n) (drop n rows)) a (take (length (take (e - n) (drop n rows))) (word_bits w)) front back)

-- ---- in lanes

pub packed_no_answers : {T : Type 0} (n : ℕ) (gives : T → Bool → Type 0) → ArePacked n gives [] (replicate n 0)
packed_no_answers n gives = record { list = []; answers = no_answers gives; packed = lanes-none n [] }

pub packed_one_more : {T : Type 0} (n : ℕ) (gives : T → Bool → Type 0) (rows : List T) (j : ℕ) (lanes : List ℕ) (row : T) (b : Bool) → length rows ≡ j → j < n → gives row b → ArePacked n gives rows lanes
    → ArePacked n gives (rows ++ row ∷ []) (set lanes j (bool_byte b))
packed_one_more n gives rows j lanes row b at few is so_far =
    let list : List Bool = so_far.list in
    let len : length list ≡ j = so_far.answers.len ∙ at in
    let before : AreLanesOf n (list ++ b ∷ []) j lanes = grind (arith, take-append-le) in
    let value : get_or (list ++ b ∷ []) j false ≡ b = subst (λ (k : ℕ). get_or (list ++ b ∷ []) k false ≡ b) len (get_or-append_seam list b [] false) in
    let longer : length (rows ++ row ∷ []) ≡ j + 1 = omega (arith, length-append rows (row ∷ []), at) in
    grind (arith, answers-append gives rows (row ∷ []) list (b ∷ []) so_far.answers (one_answer gives row b is), one_answer gives row b is, lanes-more n (list ++ b ∷ []) lanes j few before)

-- the lowest bits of the word that the lanes become are the answers
pub answers_of_word : {T : Type 0} (lane_count : ℕ) (gives : T → Bool → Type 0) (rows : List T) (lanes : List ℕ) (w : ℕ) → length rows ≤ lane_count → lane_count ≤ 64
    → ((j : ℕ) → j < 64 → get_or (word_bits w) j false ≡ nat_eq (get_or lanes j 0) 1) → ArePacked lane_count gives rows lanes → AreAnswers gives rows (take (length rows) (word_bits w))
answers_of_word lane_count gives rows lanes w few within is_word packed =
    let n : ℕ = length rows in
    let list : List Bool = packed.list in
    let len : length (take n (word_bits w)) ≡ n = length-take n (word_bits w) ∙ omega (arith, length-word_bits w) in
    let same : list ≡ take n (word_bits w) =
    ext_get_or false list (take n (word_bits w)) (packed.answers.len ∙ sym len)
    (λ k h. sym (get_or-take n (word_bits w) k false (omega (arith, packed.answers.len)) ∙ is_word k (omega (arith, packed.answers.len)) ∙ packed.packed.each k (omega (arith, packed.answers.len)) ∙ get_or-take n list k false (omega (arith, packed.answers.len)))) in
    subst (λ (xs : List Bool). AreAnswers gives rows xs) same packed.answers

-- past n lanes the word that they become has no bits
pub clear_past_lanes : (n : ℕ) (lanes : List ℕ) (w : ℕ) → length lanes ≡ n → w < 2 ^ 64 → ((j : ℕ) → j < 64 → get_or (word_bits w) j false ≡ nat_eq (get_or lanes j 0) 1)
    → (j : ℕ) → n ≤ j → bit_at w j ≡ 0
clear_past_lanes n lanes w len fits is_word j past = elim (cases_lt j 64) [
  | inl few ↦ grind (arith, bit_at-lt, get_or_past, get_or-word_bits, is_word j few, nat_tests)
  | inr above ↦ bit_at_above w 64 j fits above
]

-- ---- in words that are joined

-- n answers behind those that a word has
pub answers-joined : {T : Type 0} (gives : T → Bool → Type 0) (rows : List T) (begun word low n : ℕ) → low < 64 → low + n ≤ 64 → ((i : ℕ) → low ≤ i → bit_at begun i ≡ 0)
    → AreAnswers gives (take low rows) (take low (word_bits begun)) → AreAnswers gives (take n (drop low rows)) (take n (word_bits word))
    → AreAnswers gives (take (low + n) rows) (take (low + n) (word_bits (joined begun low word)))
answers-joined gives rows begun word low n few within clear front back =
    grind (arith, joined-list begun low word n few within clear, take_part low n rows, answers-append gives (take low rows) (take n (drop low rows)) (take low (word_bits begun)) (take n (word_bits word)) front back)

-- ---- in words that are written

-- none yet
pub answers-none : {T : Type 0} (gives : T → Bool → Type 0) (bytes : List ℕ) → AreAnswers gives [] (bitmap bytes 0 0)
answers-none gives bytes = subst (λ (xs : List Bool). AreAnswers gives [] xs) (sym (no_values bytes 0)) (no_answers gives)

-- those of the first n rows, and behind them those of rows up to e, which are within a word
pub answers-written : {T : Type 0} (gives : T → Bool → Type 0) (rows : List T) (old new : List ℕ) (n e w : ℕ) → n ≤ e → e ≤ n + 64 → e ≤ length rows → AreAnswers gives (take n rows) (bitmap old 0 n)
    → AreAnswers gives (take (e - n) (drop n rows)) (take (length (take (e - n) (drop n rows))) (word_bits w)) → window new n ≡ word_bits w
    → ((p : ℕ) → p < n → backing_bit new p ≡ backing_bit old p) → AreAnswers gives (take e rows) (bitmap new 0 e)
answers-written gives rows old new n e w ordered few within front back here before =
    let size : length (take (e - n) (drop n rows)) ≡ e - n = length-part rows n e within in
    let k : ℕ = e - n in
    let end : n + k ≡ e = omega (arith, ordered) in
    let at : 0 + n ≡ n = omega arith in
    let behind : bitmap new (0 + n) k ≡ take k (word_bits w) = ap (λ p. bitmap new p k) at ∙ sym (window-take new n k (omega (arith, few))) ∙ ap (take k) here in
    let same : bitmap new 0 e ≡ bitmap old 0 n ++ take k (word_bits w)
    = ap (bitmap new 0) (sym end) ∙ bitmap-append new 0 n k ∙ ap₂ (λ (xs ys : List Bool). xs ++ ys) (front-same old new n before) behind in
    answers-more gives rows n e w (bitmap old 0 n) (bitmap new 0 e) ordered front back (same ∙ ap (λ j. bitmap old 0 n ++ take j (word_bits w)) (sym size))
