-- What a host says to a line.
use Rattle.std.specs.Prelude.{◌≡◌, ◌⊎◌, ℕ, ◌<◌, ◌≤◌, Bool, true, false, List, [], ◌∷◌, ◌++◌, length, codes}
use Rattle.std.specs.Prelude.{decimal, Option, Some, None}
use Rattle.span_text.specs.Bytes.{newline}
use Rattle.span_text.specs.Language.{LeavesAt}
use Rattle.edge_io.specs.declared.feed.TheConstants.{LINE_LIMIT}
use Rattle.name_tables.specs.Names.{value_of, with_value}
use Rattle.name_tables.specs.declared.stops.TheConstants.{NAME_LIMIT}
use Rattle.line_by_line.specs.Answers.{Machine}
use Rattle.scene_host.specs.Marks.{marked}
use Rattle.scene_host.specs.Lines.{IsQuiet, NamedLine}
use Rattle.scene_host.specs.declared.limits.TheConstants.{SCENE_LIMIT}

-- ---- texts

-- what stands in front of each line that the scene of a name says
unfoldable pub mark_of : List ℕ → List ℕ
mark_of name = name ++ codes ": "

-- the refusal of a line that passes the limit of this word
unfoldable pub limit_line : List ℕ → List ℕ
limit_line word = codes "refused 4 limit " ++ (word ++ newline ∷ [])

-- the refusal of a line that leaves the grammar there
unfoldable pub syntax_line : ℕ → List ℕ
syntax_line at = codes "refused 1 syntax " ++ (decimal at ++ newline ∷ [])

-- ---- scenes

-- scenes by name, in the order in which they were made
abbrev pub Named : Type 0 → Type 0
Named S = List (List ℕ × S)

-- what makes new scenes, and those that there are
pub record Hosting (M S : Type 0) : Type 0 where
  pub maker : M
  pub scenes : Named S

-- the scene says to a line what was written, with a mark in front of each line, and is another one then
abbrev pub SaysBehind : {S : Type 0} → Machine S → S → List ℕ → List ℕ → (before now : List ℕ) → Bool → S
    → Type 0
SaysBehind Answers was line mark before now good new = (said : List ℕ) × Answers was line said good new
    × (now ≡ before ++ marked mark said)

-- what the scene of a name says to a line: each line has the name in front
abbrev pub SaysAs : {S : Type 0} → Machine S → List ℕ → S → List ℕ → List ℕ → Bool → S → Type 0
SaysAs Answers name was line text good now = (said : List ℕ) × Answers was line said good now
    × (text ≡ marked (mark_of name) said)

-- ---- a line

-- the host itself says this, which is a refusal, and nothing changes
abbrev pub Refuses : {S : Type 0} → Named S → List ℕ → List ℕ → Bool → Named S → Type 0
Refuses old told text good new = (text ≡ told) × (good ≡ false) × (new ≡ old)

-- a new scene answers its first line, and is kept behind all others under its name
abbrev pub AnswersFirst : {S : Type 0} → Machine S → (S → Type 0) → Named S → (name line text : List ℕ)
    → Bool → Named S → Type 0
AnswersFirst {S = S} Answers IsFirst old name line text good new = (first now : S) × IsFirst first
    × SaysAs Answers name first line text good now × (new ≡ old ++ (name, now) ∷ [])

-- the scene under the name answers, if there is one, and all others are as before; else a new one does, or it
-- would be one too many
abbrev pub AnswersAs : {S : Type 0} → Machine S → (S → Type 0) → Named S → (name line : List ℕ) → Option S
    → (text : List ℕ) → Bool → Named S → Type 0
AnswersAs {S = S} Answers IsFirst old name line (Some was) text good new = (now : S)
    × SaysAs Answers name was line text good now × (new ≡ with_value old name now)
AnswersAs Answers IsFirst old name line None text good new =
    ((SCENE_LIMIT ≤ length old) × Refuses old (limit_line (codes "scenes")) text good new)
    ⊎ ((length old < SCENE_LIMIT) × AnswersFirst Answers IsFirst old name line text good new)

-- a line for a name: the name is too long, or the scene under it answers
abbrev pub AnswersNamed : {S : Type 0} → Machine S → (S → Type 0) → Named S → (name line text : List ℕ)
    → Bool → Named S → Type 0
AnswersNamed Answers IsFirst old name line text good new =
    ((NAME_LIMIT < length name) × Refuses old (limit_line (codes "name")) text good new)
    ⊎ ((length name ≤ NAME_LIMIT)
    × AnswersAs Answers IsFirst old name line (value_of old name) text good new)

-- a line that isn't blank or a comment: it has no name and colon, or it is for a name
abbrev pub AnswersSpoken : {S : Type 0} → Machine S → (S → Type 0) → Named S → (line text : List ℕ) → Bool
    → Named S → Type 0
AnswersSpoken Answers IsFirst old line text good new =
    ((at : ℕ) × LeavesAt NamedLine line at × Refuses old (syntax_line at) text good new)
    ⊎ ((name rest : List ℕ) × NamedLine line (name, rest)
    × AnswersNamed Answers IsFirst old name rest text good new)

-- From these scenes the line may get this text, which is good or not, and these are the scenes then; new
-- scenes are as said.
abbrev pub HostAnswers : {S : Type 0} → Machine S → (S → Type 0) → Named S → (line text : List ℕ) → Bool
    → Named S → Type 0
HostAnswers Answers IsFirst old line text good new =
    ((LINE_LIMIT < length line) × Refuses old (limit_line (codes "line")) text good new)
    ⊎ ((length line ≤ LINE_LIMIT) × IsQuiet line × (text ≡ []) × (good ≡ true) × (new ≡ old))
    ⊎ ((length line ≤ LINE_LIMIT) × (IsQuiet line → ⊥)
    × AnswersSpoken Answers IsFirst old line text good new)
