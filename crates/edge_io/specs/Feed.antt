-- The lines that are still to come, and what a feed keeps of them.
use Rattle.std.specs.Prelude.{◌≡◌, ℕ, ◌+◌, ◌≤◌, ◌==◌, Bool, true, false, cond, nat_le, List, [], ◌∷◌}
use Rattle.std.specs.Prelude.{◌++◌, length, map, All, Option, Some, None}
use Rattle.std.specs.Str.Lines.{lines}
use Rattle.span_text.specs.Bytes.{newline}
use Rattle.edge_io.specs.declared.feed.TheConstants.{LINE_LIMIT}

-- the bytes that were taken and neither given nor given up, and whether the beginning of a line that is too
-- long was given up
pub record Pending : Type 0 where
  pub bytes : List ℕ
  pub is_cut : Bool

-- nothing is pending
abbrev pub nothing : Pending
nothing = record { bytes = []; is_cut = false }

-- only the beginning of a line that is too long was taken, and it was given up
abbrev pub cut : Pending
cut = record { bytes = []; is_cut = true }

-- no byte ends a line
abbrev pub IsUnended : List ℕ → Type 0
IsUnended bytes = All (λ b. (b == newline) ≡ false) bytes

-- no line ends in what is pending, and it is no longer than a line with a byte 13 at its end
pub record IsOpen (p : Pending) : Type 0 where
  pub unended : IsUnended p.bytes
  pub small : length p.bytes ≤ LINE_LIMIT + 1

-- how a line is given: none stands for one that is too long
abbrev pub given_as : List ℕ → Option (List ℕ)
given_as line = cond (nat_le (length line) LINE_LIMIT) (Some line) None

-- the lines of these bytes as they are given
abbrev pub pieces_of : List ℕ → List (Option (List ℕ))
pieces_of bytes = map given_as (lines bytes)

-- the same, where the first line is too long and began before these bytes
abbrev pub long_first : List (Option (List ℕ)) → List (Option (List ℕ))
long_first [] = None ∷ []
long_first (first ∷ more) = None ∷ more

-- the lines still to come, as they are given, where these bytes follow what is pending
abbrev pub to_come : Pending → List ℕ → List (Option (List ℕ))
to_come p more = cond p.is_cut (long_first (pieces_of (p.bytes ++ more))) (pieces_of (p.bytes ++ more))
