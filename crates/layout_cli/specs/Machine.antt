-- The step of a session from line to line, and a run over the lines of a script, in one of two versions.
use Rattle.std.specs.Prelude.{◌≡◌, ℕ, ◌<◌, ◌≤◌, ◌⊎◌, Bool, true, false, ◌&&◌, List, [], ◌∷◌, ◌++◌}
use Rattle.std.specs.Prelude.{codes, length}
use Rattle.std.specs.Str.Lines.{lines}
use Rattle.edge_io.specs.declared.feed.TheConstants.{LINE_LIMIT}
use Rattle.span_text.specs.Language.{LeavesAt}
use Rattle.name_tables.specs.declared.stops.LimitWord.TheVariants as word
use Rattle.script_text.specs.Grammar.{Line, VersionLine, words_of}
use Rattle.script_text.specs.Meaning.{Said}
use Rattle.script_text.specs.Meaning as mean
use Rattle.script_text.specs.declared.words.Version.{Version}
use Rattle.script_text.specs.declared.words.Version.TheVariants as version
use Rattle.session_undo.specs.State.{State, IsFirstOf, IsFirstWith}
use Rattle.session_undo.specs.Replies.{Done, Reply, Outside, Limit, is_accepted}
use Rattle.session_undo.specs.Machine.{Unless, Keeps}
use Rattle.session_undo.specs.Explaining.{SaidStep}
use Rattle.reply_texts.specs.Replies.{line_of, text_of}

-- the line leaves the grammar of the session's version there, or it is in it and does what it says
abbrev pub GrammarStep : State → List ℕ → Reply → State → Type 0
GrammarStep old line reply new =
    ((at : ℕ) × LeavesAt (Line (words_of old.version)) line at × Keeps (Outside at) old reply new)
    ⊎ ((said : Said) × Line (words_of old.version) line said × SaidStep old said reply new)

-- From the old session the line may get this reply, and the session is the new one then.
abbrev pub Step : State → List ℕ → Reply → State → Type 0
Step old line = Unless (LINE_LIMIT < length line) (Limit word.Line) old (GrammarStep old line)

-- from the old session the line may get a reply of this text, accepted or not
abbrev pub Answers : State → List ℕ → List ℕ → Bool → State → Type 0
Answers old line text good new = (reply : Reply) × Step old line reply new × (text ≡ text_of new.scene reply)
    × (good ≡ is_accepted reply)

-- The text is that of replies to the lines, one after the other; all are accepted, or not; the last session.
abbrev pub Run : State → List (List ℕ) → List ℕ → Bool → State → Type 0
Run old [] text good new = (text ≡ []) × (good ≡ true) × (new ≡ old)
Run old (line ∷ more) text good new = (reply : Reply) × (mid : State) × (rest : List ℕ) × (rest_good : Bool)
    × Step old line reply mid × (text ≡ text_of mid.scene reply ++ rest)
    × (good ≡ (is_accepted reply && rest_good)) × Run mid more rest rest_good new

-- A run of the lines from a new session of this version. The text decides the last session but for the corner
-- that is kept.
abbrev pub NewRun : Version → List (List ℕ) → List ℕ → Bool → Type 0
NewRun v lines text good = (first last : State) × IsFirstOf v first × Run first lines text good last

-- ---- versions

-- the line is short enough, and blank or a comment
abbrev pub IsSilent : List ℕ → Type 0
IsSilent line = (length line ≤ LINE_LIMIT) × Line (words_of version.One) line mean.Nothing

-- the line is short enough, and says that the script is of version 2
abbrev pub IsOpening : List ℕ → Type 0
IsOpening line = (length line ≤ LINE_LIMIT) × VersionLine line tt

-- the reply to that line
abbrev pub version_reply : List ℕ
version_reply = line_of (codes "ok")

-- The text is a run of the lines. The blank lines and comments in front give nothing. Then a line says that
-- the script is of version 2, and what follows it is a run of version 2; or all lines are one of version 1.
abbrev pub RunOf : List (List ℕ) → List ℕ → Bool → Type 0
RunOf [] text good = (text ≡ []) × (good ≡ true)
RunOf (line ∷ more) text good =
    (IsSilent line × RunOf more text good)
    ⊎ (IsOpening line
    × ((rest : List ℕ) × (text ≡ version_reply ++ rest) × NewRun version.Two more rest good))
    ⊎ ((IsSilent line → ⊥) × (IsOpening line → ⊥) × NewRun version.One (line ∷ more) text good)

-- The text is a run of the lines of the script.
abbrev pub IsRunOf : List ℕ → List ℕ → Bool → Type 0
IsRunOf script text good = RunOf (lines script) text good

-- ---- line by line

-- a session, and whether a line with a reply came
pub record Talking : Type 0 where
  pub state : State
  pub begun : Bool

-- the line is the first with a reply, and says that the script is of version 2
abbrev pub Opens : Talking → List ℕ → Type 0
Opens old line = (old.begun ≡ false) × IsOpening line

-- What a line leads to: a new session of version 2 with the same limits where it opens one, and a step
-- otherwise. Whether a line with a reply came isn't said yet.
abbrev pub LeadsTo : Talking → List ℕ → Reply → State → Type 0
LeadsTo old line reply new =
    (Opens old line × (reply ≡ Done) × IsFirstWith old.state.limits version.Two new)
    ⊎ ((Opens old line → ⊥) × Step old.state line reply new)

-- where no line with a reply came before: this one gets none either, or it says the version, or gets the
-- first reply
abbrev pub Begins : State → List ℕ → List ℕ → Bool → Talking → Type 0
Begins old line text good new =
    (IsSilent line × (text ≡ []) × (good ≡ true) × (new ≡ record { state = old; begun = false }))
    ⊎ (IsOpening line × (text ≡ version_reply) × (good ≡ true)
    × IsFirstWith old.limits version.Two new.state × (new.begun ≡ true))
    ⊎ ((IsSilent line → ⊥) × (IsOpening line → ⊥) × Answers old line text good new.state
    × (new.begun ≡ true))

-- from there on: a step
abbrev pub GoesOn : State → List ℕ → List ℕ → Bool → Talking → Type 0
GoesOn old line text good new = Answers old line text good new.state × (new.begun ≡ true)

-- either, by whether one came before
abbrev pub TalksAfter : Bool → State → List ℕ → List ℕ → Bool → Talking → Type 0
TalksAfter false old = Begins old
TalksAfter true old = GoesOn old

-- a line may get this text, accepted or not
abbrev pub Talks : Talking → List ℕ → List ℕ → Bool → Talking → Type 0
Talks old line text good new = TalksAfter old.begun old.state line text good new
