-- Which lines are claims, and which line is the first outside the form: without a reader.
use Rattle.std.specs.Prelude.{◌≡◌, ℕ, ◌+◌, List, [], ◌∷◌, ◌++◌, length}
use Rattle.claim_writing.specs.declared.claim.Claim.{Claim}
use Rattle.problem_reading.specs.Stops.{bad_line}
use Rattle.claim_writing.specs.ClaimLines.{claim_lines}
use Rattle.claim_text.specs.Claims.ClaimTexts.{IsWritten, Reads, IsClaimStop}

-- the claim can be written, and these are its lines
abbrev pub AreLinesOf : List (List ℕ) → Claim → Type 0
AreLinesOf all c = IsWritten c × (all ≡ claim_lines c)

-- these lines are the first of a claim's lines
abbrev pub IsFront : List (List ℕ) → Type 0
IsFront front = (c : Claim) × IsWritten c × ((rest : List (List ℕ)) × (claim_lines c ≡ front ++ rest))

-- with the next of these lines they are the first of no claim's lines, or there is no next line and they are
-- no whole claim
abbrev pub LeavesForm : List (List ℕ) → List (List ℕ) → Type 0
LeavesForm front [] = (c : Claim) → AreLinesOf front c → ⊥
LeavesForm front (line ∷ more) = IsFront (front ++ line ∷ []) → ⊥

-- the n-th line, counted from 1, is the first outside the form, or it is missing and the form asks for it
pub record IsFirstOutside (all : List (List ℕ)) (n : ℕ) : Type 0 where
  pub before : List (List ℕ)
  pub after : List (List ℕ)
  pub parts : all ≡ before ++ after
  pub number : n ≡ length before + 1
  pub front : IsFront before
  pub leaves : LeavesForm before after

-- the reader reads exactly the claims of the form, and stops exactly at the first line outside it. There is
-- at most one such line, and none in a claim
pub record ClaimsAreTheForm : Type 0 where
  pub read : (all : List (List ℕ)) (c : Claim) → Reads all c → AreLinesOf all c
  pub form : (all : List (List ℕ)) (c : Claim) → AreLinesOf all c → Reads all c
  pub stop : (all : List (List ℕ)) (n : ℕ) → IsClaimStop all (bad_line n) → IsFirstOutside all n
  pub outside : (all : List (List ℕ)) (n : ℕ) → IsFirstOutside all n → IsClaimStop all (bad_line n)
  pub one : (all : List (List ℕ)) (m n : ℕ) → IsFirstOutside all m → IsFirstOutside all n → m ≡ n
  pub apart : (all : List (List ℕ)) (c : Claim) (n : ℕ) → AreLinesOf all c → IsFirstOutside all n → ⊥
