-- What the arguments of a command say, or their first fault. Arguments are numbered from 1.
use Rattle.std.specs.Prelude.{ℕ, ◌+◌, ◌^◌, Bool, not, ◌==◌, ◌&&◌, ◌||◌, nat_lt, List, [], ◌∷◌, length, map, Option, Some, None, Result, Ok, Err, position, codes, if◌then◌else◌}
use Rattle.std.specs.Char.{is_ascii_digit}
use Rattle.std.specs.List.{list_all}
use Rattle.std.specs.Option.{option_map, option_or}
use Rattle.std.specs.Str.{bytes_eq}
use Rattle.std.specs.Str.Parse.{digits_value}
use Rattle.maskrun.specs.declared.error.RunError.{RunError}
use Rattle.maskrun.specs.declared.error.RunError.TheVariants.{Usage, BadBit, BadNumber}

-- the value, where there is no fault
infixl 10 ◌unless◌
abbrev pub ◌unless◌ : {A : Type 0} → A → Option RunError → Result A RunError
x unless None = Ok x
x unless (Some fault) = Err fault

-- the first fault, or the next step at the value
infixl 10 ◌>>=◌
abbrev pub ◌>>=◌ : {A B : Type 0} → Result A RunError → (A → Result B RunError) → Result B RunError
(Ok x) >>= f = f x
(Err e) >>= f = Err e

-- `1`
abbrev pub is_one : ℕ → Bool
is_one c = c == 49

-- neither `0` nor `1`
abbrev pub is_bad_digit : ℕ → Bool
is_bad_digit c = not (c == 48 || c == 49)

-- the place of the first byte that is no digit of a mask: place 0 where there is no byte
abbrev pub bad_digit : List ℕ → Option ℕ
bad_digit [] = Some 0
bad_digit (c ∷ cs) = position is_bad_digit (c ∷ cs)

-- what is wrong with argument n as a mask: `-` is the empty one
abbrev pub mask_fault : ℕ → List ℕ → Option RunError
mask_fault n cs = if bytes_eq cs (codes "-") then None else option_map (BadBit n) (bad_digit cs)

-- the list that a well-formed mask says
abbrev pub mask_said : List ℕ → List Bool
mask_said cs = if bytes_eq cs (codes "-") then [] else map is_one cs

-- the mask that argument n says
abbrev pub mask_argument : ℕ → List ℕ → Result (List Bool) RunError
mask_argument n cs = mask_said cs unless mask_fault n cs

-- one ASCII digit or more
abbrev pub is_numeral : List ℕ → Bool
is_numeral cs = nat_lt 0 (length cs) && list_all is_ascii_digit cs

-- the number that argument n says, which fits 64 bits
abbrev pub number_argument : ℕ → List ℕ → Result ℕ RunError
number_argument n cs = if is_numeral cs && nat_lt (digits_value 10 cs) (2 ^ 64) then Ok (digits_value 10 cs) else Err (BadNumber n)

-- one mask and no more
abbrev pub one_mask : List (List ℕ) → Result (List Bool) RunError
one_mask (a ∷ []) = mask_argument 1 a
one_mask _ = Err Usage

-- two masks
abbrev pub two_masks : List (List ℕ) → Result (List Bool × List Bool) RunError
two_masks (a ∷ b ∷ []) = do
  m ← mask_argument 1 a
  n ← mask_argument 2 b
  Ok (m, n)
two_masks _ = Err Usage

-- a mask and a number
abbrev pub mask_and_number : List (List ℕ) → Result (List Bool × ℕ) RunError
mask_and_number (a ∷ k ∷ []) = do
  m ← mask_argument 1 a
  n ← number_argument 2 k
  Ok (m, n)
mask_and_number _ = Err Usage

-- a mask and two numbers
abbrev pub mask_and_range : List (List ℕ) → Result (List Bool × ℕ × ℕ) RunError
mask_and_range (a ∷ s ∷ e ∷ []) = do
  m ← mask_argument 1 a
  start ← number_argument 2 s
  end ← number_argument 3 e
  Ok (m, start, end)
mask_and_range _ = Err Usage

-- the first fault of masks, of which the first is argument n
abbrev pub first_mask_fault : ℕ → List (List ℕ) → Option RunError
first_mask_fault n [] = None
first_mask_fault n (a ∷ rest) = option_or (mask_fault n a) (first_mask_fault (n + 1) rest)

-- so many masks, or more
abbrev pub masks : ℕ → List (List ℕ) → Result (List (List Bool)) RunError
masks least arguments = if nat_lt (length arguments) least then Err Usage else (map mask_said arguments unless first_mask_fault 1 arguments)
