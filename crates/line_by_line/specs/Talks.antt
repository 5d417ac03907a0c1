-- A script between two pulls.
use Rattle.std.specs.Prelude.{◌≡◌, ℕ, ◌+◌, ◌<◌, Bool, true, false, List, [], ◌++◌}
use Rattle.std.specs.Prelude.{length, Option}
use Rattle.std.specs.Str.Lines.{lines}
use Rattle.std.specs.Io.KnownBytes.{Appends, Consumes, IsAtEnd}
use Rattle.edge_io.specs.Feed.{Pending, IsUnended}
use Rattle.edge_io.specs.declared.feed.TheConstants.{LINE_LIMIT}
use Rattle.line_by_line.specs.Answers.{AnswersWhole, AreAnswered, AreWholeLines, Machine, Texts}

-- what is pending when these bytes were taken too
abbrev pub joined : Pending → List ℕ → Pending
joined p bytes = record { bytes = p.bytes ++ bytes; is_cut = p.is_cut }

-- The feed stands for these bytes, which were taken and belong to no line that was given: it keeps them, or
-- it gave up their beginning, which is that of a line that is too long.
pub record StandsFor (p : Pending) (bytes : List ℕ) : Type 0 where
  pub gone : List ℕ
  pub parts : bytes ≡ gone ++ p.bytes
  pub unended : IsUnended gone
  pub kept : p.is_cut ≡ false → gone ≡ []
  pub long : p.is_cut ≡ true → LINE_LIMIT + 1 < length gone

-- these bytes were taken, the lines that the feed gave of them are answered, and this is the answerer now
pub record IsTalk {A : Type 0} (Is : Machine A) (first : A) (before now : Option (List ℕ)) (taken : List ℕ)
    (p : Pending) (good : Bool) (last : A) : Type 0 where
  pub whole : List ℕ
  pub rest : List ℕ
  pub parts : taken ≡ whole ++ rest
  pub ended : AreWholeLines whole
  pub splits : (more : List ℕ) → lines (whole ++ more) ≡ lines whole ++ lines more
  pub stands : StandsFor p rest
  pub text : List ℕ
  pub run : AreAnswered Is first (lines whole) text good last
  pub written : Appends before now text

-- ---- what is said of bytes that were taken

-- what is said of them: where this is pending, from what was written before to what is now
abbrev pub Answering : Type 1
Answering = Pending → (before now : Option (List ℕ)) → List ℕ → Type 0

-- the lines that the feed gave of them are answered
abbrev pub talking : {A : Type 0} → Machine A → A → Bool → A → Answering
talking Is first good last = λ p before now taken. IsTalk Is first before now taken p good last

-- of bytes of which that was said this holds, whatever was written before
abbrev pub OnceTaken : Answering → Option (List ℕ) → Pending → (Option (List ℕ) → List ℕ → Type 0) → Type 0
OnceTaken Was now p Is = (before : Option (List ℕ)) (taken : List ℕ) → Was p before now taken
    → Is before taken

-- the same of those bytes with more, which the feed took behind what was pending
abbrev pub OnceJoined : Answering → Option (List ℕ) → Pending → (Option (List ℕ) → List ℕ → Type 0) → Type 0
OnceJoined Was now next Is = (p : Pending) (before : Option (List ℕ)) (taken more : List ℕ)
    → Was p before now taken → next ≡ joined p more → Is before (taken ++ more)

-- that is said of the bytes, and their whole lines have their answers
abbrev pub AnswersSoFar : Texts → Answering → Pending → (now before : Option (List ℕ)) → List ℕ → Type 0
AnswersSoFar IsTextOf Is p now before taken = Is p before now taken × AnswersWhole IsTextOf before now taken

-- ---- a pull

-- what a pull adds to what a run reads: the bytes that the feed took, within the room that is left of the
-- limit
pub record TakesMore (old new : Pending) (left rest : Option (List ℕ)) (room less : ℕ) (more : Bool)
    : Type 0 where
  pub bytes : List ℕ
  pub joins : new ≡ joined old bytes
  pub taken : Consumes left rest bytes
  pub counted : less + length bytes ≡ room
  pub some : more ≡ true → less < room
  pub at_end : more ≡ false → (bytes ≡ []) × IsAtEnd rest
