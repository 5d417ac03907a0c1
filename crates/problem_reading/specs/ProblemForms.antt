-- Which lines are problems, and which line is the first outside the form: without a reader.
use Rattle.std.specs.Prelude.{◌≡◌, ◌≢◌, ◌⊎◌, ℕ, ◌+◌, ◌<◌, ◌≤◌, List, [], ◌∷◌, ◌++◌, length, map, All}
use Rattle.std.specs.Prelude.{AllPairs}
use Rattle.problem_core.specs.Kept.{IsRow, IsStay, IsWhole}
use Rattle.problem_core.specs.Layout.{Problem}
use Rattle.problem_reading.specs.declared.limits.TheConstants.{TEXT_ROW_LIMIT, TEXT_STAY_LIMIT}
use Rattle.problem_reading.specs.Stops.{bad_line}
use Rattle.claim_writing.specs.Lines.{row_line, stay_line}
use Rattle.problem_reading.specs.Problems.{HasStayLine, IsPassedOver, Reads, IsProblemStop}

-- the rows, and then the stays
abbrev pub problem_lines : Problem → List (List ℕ)
problem_lines p = map row_line p.rows ++ map stay_line p.stays

-- without some that are passed over the lines are these
abbrev pub Shows : List (List ℕ) → List (List ℕ) → Type 0
Shows [] wanted = wanted ≡ []
Shows (line ∷ more) wanted = (IsPassedOver line × Shows more wanted)
    ⊎ ((rest : List (List ℕ)) × (wanted ≡ line ∷ rest) × Shows more rest)

-- no more rows and stays than a text may have
pub record IsSmall (p : Problem) : Type 0 where
  pub rows : length p.rows ≤ TEXT_ROW_LIMIT
  pub stays : length p.stays ≤ TEXT_STAY_LIMIT

-- the problem is one that the types can hold, and these are its lines
pub record AreProblemLines (all : List (List ℕ)) (p : Problem) : Type 0 where
  pub whole : IsWhole p
  pub small : IsSmall p
  pub shows : Shows all (problem_lines p)

-- what rows and stays are, where some of these lines say the attributes' stays
pub record AreParts (all : List (List ℕ)) (p : Problem) : Type 0 where
  pub rows : All IsRow p.rows
  pub stays : All IsStay p.stays
  pub rising : AllPairs (λ r s. r.id < s.id) p.rows
  pub apart : AllPairs (λ s t. s.attr ≢ t.attr) p.stays
  pub covered : All (λ r. All (λ t. HasStayLine all t.attr) r.terms) p.rows
  pub small : IsSmall p

-- the front says rows and stays of the text
abbrev pub IsProblemFront : List (List ℕ) → List (List ℕ) → Type 0
IsProblemFront all front = (p : Problem) × AreParts all p × Shows front (problem_lines p)

-- the n-th line, counted from 1, is the first with which the text's front is none
pub record IsFirstOutsideProblem (all : List (List ℕ)) (n : ℕ) : Type 0 where
  pub before : List (List ℕ)
  pub line : List ℕ
  pub after : List (List ℕ)
  pub parts : all ≡ before ++ line ∷ after
  pub number : n ≡ length before + 1
  pub front : IsProblemFront all before
  pub leaves : IsProblemFront all (before ++ line ∷ []) → ⊥

-- what the reader of problems reads is the form, and where it stops is the first line outside, which is one
-- line, and is there where the lines are no problem alone
pub record ProblemsAreTheForm : Type 0 where
  pub read : (all : List (List ℕ)) (p : Problem) → Reads all p → AreProblemLines all p
  pub form : (all : List (List ℕ)) (p : Problem) → AreProblemLines all p → Reads all p
  pub stop : (all : List (List ℕ)) (n : ℕ) → IsProblemStop all (bad_line n) → IsFirstOutsideProblem all n
  pub outside : (all : List (List ℕ)) (n : ℕ) → IsFirstOutsideProblem all n → IsProblemStop all (bad_line n)
  pub one : (all : List (List ℕ)) (m n : ℕ) → IsFirstOutsideProblem all m → IsFirstOutsideProblem all n
      → m ≡ n
  pub apart : (all : List (List ℕ)) (p : Problem) (n : ℕ) → AreProblemLines all p
      → IsFirstOutsideProblem all n → ⊥
