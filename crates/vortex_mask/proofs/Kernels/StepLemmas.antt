-- Steps that are counted, or not.
use Rattle.vortex_mask.proofs.Common.{◌≡◌, ℕ, ◌+◌, ◌<◌, ◌%◌, Option, None, Some, option_map, IfSome, StepCounts, refl, ap, ◌∙◌}

-- the same counts in other words
pub counted-as : (steps : Option StepCounts) (x y : StepCounts) → IfSome steps (λ s. s ≡ x) → x ≡ y → IfSome steps (λ s. s ≡ y)
counted-as None x y counted e = tt
counted-as (Some s) x y counted e = counted ∙ e

-- and the next ones
pub counted-next : (f : StepCounts → StepCounts) (before after : Option StepCounts) (x y : StepCounts) → after ≡ option_map f before → IfSome before (λ s. s ≡ x) → f x ≡ y → IfSome after (λ s. s ≡ y)
counted-next f None after x y ticked counted e = rw ticked tt
counted-next f (Some s) after x y ticked counted e = rw ticked (ap f counted ∙ e)

-- ---- words that are read in turn, and a selection

-- no further word yet
pub read-none : (steps : Option StepCounts) (n : ℕ) → IfSome steps (λ s. s.words ≡ n) → steps ≡ option_map (λ (s : StepCounts). record s { words = n }) steps
read-none None n h = refl
read-none (Some s) n h = ap (λ (k : ℕ). Some (record s { words = k })) h

-- one more, for which there is room
pub read-next : (steps before after : Option StepCounts) (n : ℕ) → before ≡ option_map (λ (s : StepCounts). record s { words = n }) steps
    → after ≡ option_map (λ (s : StepCounts). record s { words = s.words + 1 }) before → after ≡ option_map (λ (s : StepCounts). record s { words = n + 1 }) steps
read-next None before after n e ticked = rw (ticked, e) refl
read-next (Some s) before after n e ticked = rw (ticked, e) refl

pub read-room : (steps before : Option StepCounts) (n top : ℕ) → before ≡ option_map (λ (s : StepCounts). record s { words = n }) steps → n < top → IfSome before (λ s. s.words < top)
read-room None before n top e h = rw e tt
read-room (Some s) before n top e h = rw e h

-- a selection in the last, for which there is room
pub select-next : (steps before after : Option StepCounts) (n place p : ℕ) → before ≡ option_map (λ (s : StepCounts). record s { words = n }) steps
    → after ≡ option_map (λ (s : StepCounts). record s { selections = s.selections + 1; spots = s.spots + place }) before → place ≡ p % 64
    → after ≡ option_map (λ (s : StepCounts). record s { words = n; selections = s.selections + 1; spots = s.spots + p % 64 }) steps
select-next None before after n place p e ticked is = rw (ticked, e) refl
select-next (Some s) before after n place p e ticked is = rw (ticked, e, is) refl

pub select-room : (steps before : Option StepCounts) (n top : ℕ) → before ≡ option_map (λ (s : StepCounts). record s { words = n }) steps → IfSome steps (λ s. s.selections < top) → IfSome before (λ s. s.selections < top)
select-room None before n top e h = rw e tt
select-room (Some s) before n top e h = rw e h
