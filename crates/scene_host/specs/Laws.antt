-- The laws of hosts.
use Rattle.std.specs.Prelude.{◌≡◌, ◌≢◌, ℕ, Bool, true, false, ◌&&◌, ◌==◌, List, [], ◌∷◌, ◌++◌}
use Rattle.std.specs.Prelude.{if◌then◌else◌, length, drop, nat_le, Some, Result, Ok, Err}
use Rattle.std.specs.Str.{bytes_eq}
use Rattle.span_text.specs.Bytes.{newline}
use Rattle.span_text.specs.Classes.{is_word}
use Rattle.span_text.specs.Language.{AllIn}
use Rattle.edge_io.specs.declared.feed.TheConstants.{LINE_LIMIT}
use Rattle.name_tables.specs.Names.{value_of}
use Rattle.line_by_line.specs.Answers.{AreAnswered, AreWholeLines, Machine}
use Rattle.scene_host.specs.Marks.{marked}
use Rattle.scene_host.specs.Lines.{named_line_at}
use Rattle.scene_host.specs.Hosts.{HostAnswers, Named, limit_line, mark_of, syntax_line}

-- ---- what is for a name

-- what is for the name, of a line that was read
abbrev pub read_for : List ℕ → Result (List ℕ × List ℕ) ℕ → List (List ℕ)
read_for name (Ok read) = if bytes_eq name read.0 then read.1 ∷ [] else []
read_for name (Err left) = []

-- the line that is for the name, of a line of a host; there is none of one that is too long
abbrev pub line_for : List ℕ → List ℕ → List (List ℕ)
line_for name line = if nat_le (length line) LINE_LIMIT then read_for name (named_line_at line) else []

-- the lines that are for the name
abbrev pub lines_for : List ℕ → List (List ℕ) → List (List ℕ)
lines_for name [] = []
lines_for name (line ∷ more) = line_for name line ++ lines_for name more

-- ---- what is told under a name

-- the text begins with the mark
abbrev pub has_mark : List ℕ → List ℕ → Bool
has_mark [] text = true
has_mark (m ∷ ms) [] = false
has_mark (m ∷ ms) (b ∷ bs) = (m == b) && has_mark ms bs

-- what stands behind the mark of a line that has it
abbrev pub behind_mark : List ℕ → List ℕ → List ℕ
behind_mark mark line = if has_mark mark line then drop (length mark) line else []

-- what stands behind the mark in the lines of a text that have it; this much of a line came before
abbrev pub behind_marks : List ℕ → List ℕ → List ℕ → List ℕ
behind_marks mark line [] = behind_mark mark line
behind_marks mark line (b ∷ bs) = if b == newline
    then behind_mark mark (line ++ b ∷ []) ++ behind_marks mark [] bs
    else behind_marks mark (line ++ b ∷ []) bs

-- what a text tells under a name: its lines with the name in front, without it
abbrev pub told_under : List ℕ → List ℕ → List ℕ
told_under name text = behind_marks (mark_of name) [] text

-- ---- the laws

-- what the scene's answers are: no bytes, or whole lines
abbrev pub SaysWholeLines : {S : Type 0} → Machine S → Type 0
SaysWholeLines {S = S} Answers = (old new : S) (line text : List ℕ) (good : Bool)
    → Answers old line text good new → AreWholeLines text

-- In a script the lines for the name were answered alone: from a new scene on, with what is told under the
-- name, up to this one.
abbrev pub RunsAlone : {S : Type 0} → Machine S → (S → Type 0) → List ℕ → List (List ℕ) → List ℕ → S → Type 0
RunsAlone {S = S} Answers IsFirst name lines text last = (first : S) × (good : Bool) × IsFirst first
    × AreAnswered Answers first (lines_for name lines) (told_under name text) good last

-- Over any lines, what a host says under a name is a run of that name's lines.
abbrev pub ScenesRunAlone : {S : Type 0} → Machine S → (S → Type 0) → Type 0
ScenesRunAlone {S = S} Answers IsFirst = SaysWholeLines Answers
    → (lines : List (List ℕ)) (text : List ℕ) (good : Bool) (new : Named S)
    → AreAnswered (HostAnswers Answers IsFirst) [] lines text good new
    → (name : List ℕ) (last : S) → value_of new name ≡ Some last
    → RunsAlone Answers IsFirst name lines text last

-- a text of whole lines, told by its name
abbrev pub MarkedTextsAreTold : Type 0
MarkedTextsAreTold = (name text : List ℕ) → AllIn is_word name → AreWholeLines text
    → told_under name (marked (mark_of name) text) ≡ text

-- under a name nothing is told of what another scene says, and of what the host itself says
pub record OtherTextsAreNotTold : Type 0 where
  pub other : (name another text : List ℕ) → AllIn is_word name → AllIn is_word another → name ≢ another
      → AreWholeLines text → told_under name (marked (mark_of another) text) ≡ []
  pub limit : (name word : List ℕ) → AllIn is_word name → AllIn is_word word
      → told_under name (limit_line word) ≡ []
  pub syntax : (name : List ℕ) (at : ℕ) → AllIn is_word name → told_under name (syntax_line at) ≡ []
