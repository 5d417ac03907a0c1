-- Which texts are problems, and where a text stops to be one.
use Rattle.std.specs.Prelude.{◌≡◌, ◌≢◌, ℕ, ◌<◌, ◌⊎◌, true, List, [], ◌∷◌, ◌++◌, length, All, Contains}
use Rattle.span_text.specs.Bytes.{hash}
use Rattle.span_text.specs.Classes.{is_space}
use Rattle.problem_core.specs.declared.parts.Stay.{Stay}
use Rattle.problem_core.specs.Kept.{IsRow, IsStay}
use Rattle.problem_core.specs.Layout.{Row, Problem}
use Rattle.problem_reading.specs.declared.problem.items.Item.{Item}
use Rattle.problem_reading.specs.declared.problem.items.Item.TheVariants.{Nothing, OfRow, OfStay}
use Rattle.problem_reading.specs.declared.limits.TheConstants.{TEXT_ROW_LIMIT, TEXT_STAY_LIMIT}
use Rattle.problem_reading.specs.Stops.{ReadStop}
use Rattle.problem_reading.specs.FirstBad.{IsFirstBad}
use Rattle.frac_core.specs.declared.memory.Stop.TheVariants.{OutOfMemory, Refused}
use Rattle.problem_reading.specs.Words.{words}
use Rattle.claim_writing.specs.Lines.{row_words, stay_words}

-- spaces and tabs alone, or a line that begins with `#`
abbrev pub IsPassedOver : List ℕ → Type 0
IsPassedOver line = All (λ b. is_space b ≡ true) line ⊎ ((more : List ℕ) × (line ≡ hash ∷ more))

-- what a line says by itself
abbrev pub Says : List ℕ → Item → Type 0
Says line Nothing = IsPassedOver line
Says line (OfRow r) = IsRow r × (words line ≡ row_words r)
Says line (OfStay s) = IsStay s × (words line ≡ stay_words s)

-- the row may follow what was read, where these attributes have stays in the text
pub record RowMayFollow (HasStay : ℕ → Type 0) (old : Problem) (r : Row) : Type 0 where
  pub first : old.stays ≡ []
  pub rises : All (λ q. q.id < r.id) old.rows
  pub covered : All (λ t. HasStay t.attr) r.terms
  pub room : length old.rows < TEXT_ROW_LIMIT

-- the stay may follow what was read: its attribute has none yet, and there is room for one more
pub record StayMayFollow (old : Problem) (s : Stay) : Type 0 where
  pub fresh : All (λ q. q.attr ≢ s.attr) old.stays
  pub room : length old.stays < TEXT_STAY_LIMIT

-- what a line says may follow what was read, where these attributes have stays in the text
abbrev pub MayFollow : (ℕ → Type 0) → Problem → Item → Type 0
MayFollow HasStay old Nothing = Unit {0}
MayFollow HasStay old (OfRow r) = RowMayFollow HasStay old r
MayFollow HasStay old (OfStay s) = StayMayFollow old s

-- what was read, with what a line says
abbrev pub with_item : Problem → Item → Problem
with_item old Nothing = old
with_item old (OfRow r) = record { rows = old.rows ++ r ∷ []; stays = old.stays }
with_item old (OfStay s) = record { rows = old.rows; stays = old.stays ++ s ∷ [] }

-- after what was read before the line comes this
pub record Step (HasStay : ℕ → Type 0) (old : Problem) (line : List ℕ) (new : Problem) : Type 0 where
  pub item : Item
  pub says : Says line item
  pub may : MayFollow HasStay old item
  pub is : new ≡ with_item old item

-- the lines, one after the other, lead from what was read before them to this
abbrev pub ReadFrom : (ℕ → Type 0) → Problem → List (List ℕ) → Problem → Type 0
ReadFrom HasStay old [] new = new ≡ old
ReadFrom HasStay old (line ∷ more) new = (mid : Problem) × Step HasStay old line mid
    × ReadFrom HasStay mid more new

-- what was read before the first line: no row, and no stay
abbrev pub nothing_read : Problem
nothing_read = record { rows = []; stays = [] }

-- the line is a stay of the attribute
abbrev pub IsStayOf : List ℕ → ℕ → Type 0
IsStayOf line attr = (s : Stay) × Says line (OfStay s) × (s.attr ≡ attr)

-- some line is a stay of the attribute
abbrev pub HasStayLine : List (List ℕ) → ℕ → Type 0
HasStayLine [] attr = ⊥
HasStayLine (line ∷ more) attr = IsStayOf line attr ⊎ HasStayLine more attr

-- the attributes that have stays among the lines
pub record AreStayAttributes (lines : List (List ℕ)) (attrs : List ℕ) : Type 0 where
  pub each : All (HasStayLine lines) attrs
  pub all : (attr : ℕ) → HasStayLine lines attr → Contains attrs attr

-- the lines say the problem
abbrev pub Reads : List (List ℕ) → Problem → Type 0
Reads all p = ReadFrom (HasStayLine all) nothing_read all p

-- where the text stops to be a problem, unless memory was wanting
abbrev pub IsProblemStop : List (List ℕ) → ReadStop → Type 0
IsProblemStop all (Refused bad) =
    IsFirstBad (ReadFrom (HasStayLine all) nothing_read) (Step (HasStayLine all)) all bad.0
IsProblemStop all OutOfMemory = Unit {0}
