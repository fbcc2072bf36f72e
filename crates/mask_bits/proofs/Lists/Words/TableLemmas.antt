-- What a test computes at each number below one: tables, and functions that agree there.
use Rattle.mask_bits.proofs.Common.{◌≡◌, ℕ, zero, suc, ◌-◌, ◌<◌, Bool, true, false, ◌&&◌, T, eqb, eqb→eq, ltb, ltb→lt, subst, arith, eq-zero-or-pos, inl, inr}

abbrev pub all_below : (ℕ → Bool) → ℕ → Bool
all_below p zero = true
all_below p (suc n) = p n && all_below p n

pub and_l : (a b : Bool) → T (a && b) → T a
and_l true b h = tt
and_l false b h = absurd h

pub and_r : (a b : Bool) → T (a && b) → T b
and_r true b h = h
and_r false b h = absurd h

pub every_below : (p : ℕ → Bool) (n : ℕ) → T (all_below p n) → (i : ℕ) → i < n → T (p i)
every_below p zero h i l = absurd (omega arith)
every_below p (suc n) h i l =
    elim (eq-zero-or-pos (n - i)) [
      | inl z ↦ let e : n ≡ i = omega arith in subst (λ x. T (p x)) e (and_l _ _ h)
      | inr g ↦ every_below p n (and_r (p n) _ h) i (omega arith)
    ]

-- two functions that agree there, of one number or of two
pub same_below : (n : ℕ) (f g : ℕ → ℕ) → T (all_below (λ x. eqb (f x) (g x)) n) → (i : ℕ) → i < n → f i ≡ g i
same_below n f g h i l = eqb→eq _ _ (every_below (λ x. eqb (f x) (g x)) n h i l)

pub agree : (n k : ℕ) (f g : ℕ → ℕ → ℕ) → T (all_below (λ t. all_below (λ x. eqb (f t x) (g t x)) k) n) → (s b : ℕ) → s < n → b < k → f s b ≡ g s b
agree n k f g h s b hs hb = same_below k (f s) (g s) (every_below (λ t. all_below (λ x. eqb (f t x) (g t x)) k) n h s hs) b hb

-- a function that stays below another
pub less_below : (n k : ℕ) (f g : ℕ → ℕ → ℕ) → T (all_below (λ t. all_below (λ x. ltb (f t x) (g t x)) k) n) → (s b : ℕ) → s < n → b < k → f s b < g s b
less_below n k f g h s b hs hb = ltb→lt _ _ (every_below (λ x. ltb (f s x) (g s x)) k (every_below (λ t. all_below (λ x. ltb (f t x) (g t x)) k) n h s hs) b hb)
