-- Facts about the value of a call that went through.
use Rattle.vortex_mask.proofs.Common.{Result, Ok, Err, ◌⊎◌, inl, inr, IfErr, IfOk, OnErr}

-- a refusal that is one of two, where the second is told otherwise
pub IfErr-or : {T E : Type 0} (r : Result T E) (P Q R : E → Type 0) → ((e : E) → Q e → R e) → IfErr r (λ e. P e ⊎ Q e) → IfErr r (λ e. P e ⊎ R e)
IfErr-or (Ok x) P Q R f h = h
IfErr-or (Err e) P Q R f (inl p) = inl p
IfErr-or (Err e) P Q R f (inr q) = inr (f e q)

-- what follows from what holds at a refusal
pub OnErr-map : {T E : Type 0} (r : Result T E) (P Q : Type 0) → (P → Q) → OnErr r P → OnErr r Q
OnErr-map (Ok x) P Q f h = tt
OnErr-map (Err e) P Q f h = f h

-- what follows from two facts about the value
pub IfOk-both : {T E : Type 0} (r : Result T E) (P Q R : T → Type 0) → ((x : T) → P x → Q x → R x) → IfOk r P → IfOk r Q → IfOk r R
IfOk-both (Ok x) P Q R f p q = f x p q
IfOk-both (Err e) P Q R f p q = tt
