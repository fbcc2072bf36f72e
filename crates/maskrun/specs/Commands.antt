-- The commands: how each reads its arguments, and the line that it prints.
use Rattle.std.specs.Prelude.{ℕ, ◌≡◌, ◌^◌, ◌⊎◌, Bool, ◌==◌, nat_lt, List, [], ◌∷◌, length, sum_by, slice_range, Option, Some, None, Result, Ok, Err, IfOk, IfErr, String, string_bytes, codes, alloc_error, if◌then◌else◌}
use Rattle.std.specs.Fmt.{decimal}
use Rattle.std.specs.declared.alloc.Global.{Global}
use Rattle.std.specs.Str.{bytes_eq}
use Rattle.mask_bits.specs.Lists.{and_of, or_of, and_not_of, not_of, limited, concat}
use Rattle.mask_bits.specs.Positions.{positions, count, rank_intersection}
use Rattle.mask_bits.specs.RunScan.{runs}
use Rattle.mask_bits.specs.Stacks.{folded_left}
use Rattle.maskrun.specs.Arguments.{◌unless◌, ◌>>=◌, one_mask, two_masks, mask_and_number, mask_and_range, masks}
use Rattle.maskrun.specs.Text.{list_text, range_text}
use Rattle.maskrun.specs.declared.command.Command.{Command}
use Rattle.maskrun.specs.declared.command.Command.TheVariants.{Rank, And, Or, AndNot, Not, Slice, Limit, Cat, Pipe, Indices, Ranges}
use Rattle.maskrun.specs.declared.error.RunError.{RunError}
use Rattle.maskrun.specs.declared.error.RunError.TheVariants.{Usage, LengthsDiffer, OutOfRange, Mask}
use Rattle.vortex_mask.specs.declared.mask.error.MaskError.TheVariants.{Memory, LengthOverflow}
use Rattle.std.specs.Option.{option_or}
use Rattle.vortex_mask.specs.Text.{mask_text}

-- how a command reads its arguments
abbrev pub Reads : Type 0
Reads = List (List ℕ) → Result Command RunError

-- the command of what the arguments say
abbrev pub of : {A : Type 0} → (A → Command) → (List (List ℕ) → Result A RunError) → Reads
of command said arguments = said arguments >>= (λ x. Ok (command x))

-- each command by its name, and how it reads its arguments
abbrev pub commands : List (List ℕ × Reads)
commands =
    (codes "rank", of (λ (a, b). Rank a b) two_masks)
    ∷ (codes "and", of (λ (a, b). And a b) two_masks)
    ∷ (codes "or", of (λ (a, b). Or a b) two_masks)
    ∷ (codes "andnot", of (λ (a, b). AndNot a b) two_masks)
    ∷ (codes "not", of Not one_mask)
    ∷ (codes "slice", of (λ (a, s, e). Slice a s e) mask_and_range)
    ∷ (codes "limit", of (λ (a, k). Limit a k) mask_and_number)
    ∷ (codes "cat", of Cat (masks 1))
    ∷ (codes "pipe", of Pipe (masks 2))
    ∷ (codes "indices", of Indices one_mask)
    ∷ (codes "ranges", of Ranges one_mask)
    ∷ []

-- what the command of this name in a list of commands reads
abbrev pub read_by : List (List ℕ × Reads) → List ℕ → Reads
read_by [] name arguments = Err Usage
read_by (c ∷ rest) name arguments = if bytes_eq name c.0 then c.1 arguments else read_by rest name arguments

-- the command that a command line says: its name, then its arguments
abbrev pub command_of : Reads
command_of [] = Err Usage
command_of (name ∷ arguments) = read_by commands name arguments

-- that a mask has not as many values as are needed
abbrev pub len_fault : ℕ → List Bool → Option RunError
len_fault want m = if length m == want then None else Some (LengthsDiffer want (length m))

-- that a mask has no values s to e - 1: the end is looked at first
abbrev pub part_fault : List Bool → ℕ → ℕ → Option RunError
part_fault m s e = if nat_lt (length m) e then Some (OutOfRange 3) else (if nat_lt e s then Some (OutOfRange 2) else None)

-- that the sum of the lengths doesn't fit 64 bits
abbrev pub sum_fault : List (List Bool) → Option RunError
sum_fault ms = if nat_lt (sum_by length ms) (2 ^ 64) then None else Some (Mask LengthOverflow)

-- that a mask is not as long as the one before it has true values: the first such mask
abbrev pub misfit : List (List Bool) → Option RunError
misfit [] = None
misfit (a ∷ []) = None
misfit (a ∷ b ∷ ms) = option_or (len_fault (count a) b) (misfit (b ∷ ms))

-- what a command prints
abbrev pub printed : Command → Result (List ℕ) RunError
printed (Rank a b) = mask_text (rank_intersection a b) unless len_fault (count a) b
printed (And a b) = mask_text (and_of a b) unless len_fault (length a) b
printed (Or a b) = mask_text (or_of a b) unless len_fault (length a) b
printed (AndNot a b) = mask_text (and_not_of a b) unless len_fault (length a) b
printed (Not a) = Ok (mask_text (not_of a))
printed (Slice a s e) = mask_text (slice_range a s e) unless part_fault a s e
printed (Limit a k) = Ok (mask_text (limited a k))
printed (Cat ms) = mask_text (concat ms) unless sum_fault ms
printed (Pipe ms) = mask_text (folded_left ms) unless misfit ms
printed (Indices a) = Ok (list_text decimal (positions a))
printed (Ranges a) = Ok (list_text range_text (runs a))

-- the line for a command line: the text, or the first fault
abbrev pub line : List (List ℕ) → Result (List ℕ) RunError
line words = do
  command ← command_of words
  printed command

-- the one fault that no line names
abbrev pub out_of_memory : RunError
out_of_memory = Mask (Memory alloc_error)

-- the text is that of a line, or the fault is its first one, or memory was refused
pub record Prints (result : Result (String Global) RunError) (said : Result (List ℕ) RunError) : Type 0 where
  pub text : IfOk result (λ t. said ≡ Ok (string_bytes t))
  pub fault : IfErr result (λ e. (said ≡ Err e) ⊎ (e ≡ out_of_memory))
