-- What is written of a run of the script that is made.
use Rattle.std.specs.Prelude.{◌≡◌, ℕ, ◌+◌, ◌-◌, ◌==◌, Bool, List, [], ◌∷◌, ◌++◌, length, codes, decimal, cond}
use Rattle.std.specs.Str.Lines.{lines}
use Rattle.span_text.specs.Bytes.{newline}
use Rattle.make_script.specs.Script.{script}
use Rattle.scenes.specs.Scene.{Scene}
use Rattle.session_undo.specs.State.{State, IsFirst}
use Rattle.session_undo.specs.Replies.{Reply, is_accepted}
use Rattle.layout_cli.specs.Machine.{Step}
use Rattle.reply_texts.specs.Printing.{line_at}

-- a refusal counts 1
abbrev pub refusal_count : Reply → ℕ
refusal_count reply = cond (is_accepted reply) 0 1

-- From the old session the lines may get replies, one after the other, of which so many are refusals; the
-- last session.
abbrev pub Refuses : State → List (List ℕ) → ℕ → State → Type 0
Refuses old [] refused new = (refused ≡ 0) × (new ≡ old)
Refuses old (line ∷ more) refused new = (reply : Reply) × (mid : State) × (rest : ℕ) × Step old line reply mid
    × (refused ≡ refusal_count reply + rest) × Refuses mid more rest new

-- how many lines there were, how many were refused, and how many rows are held
unfoldable pub summary_line : ℕ → ℕ → ℕ → List ℕ
summary_line lines refused rows = codes "made lines " ++ (decimal lines ++ (codes " refused "
    ++ (decimal refused ++ (codes " rows " ++ (decimal rows ++ newline ∷ [])))))

-- the line of the frame of the last view
abbrev pub last_line : Scene → List ℕ
last_line scene = line_at scene (length scene.tree.views - 1)

-- the text sums up so many lines, how many of them were refused, and the last session, with its last view's
-- frame; it is good where no line was refused
abbrev pub SumsUp : List (List ℕ) → ℕ → State → List ℕ → Bool → Type 0
SumsUp all refused last text good =
    (text ≡ summary_line (length all) refused (length last.scene.rows) ++ last_line last.scene)
    × (good ≡ (refused == 0))

-- the text sums up a run of the lines, from a new session
abbrev pub IsSummedUp : List (List ℕ) → List ℕ → Bool → Type 0
IsSummedUp all text good = (first : State) × (refused : ℕ) × (last : State) × IsFirst first
    × Refuses first all refused last × SumsUp all refused last text good

-- the text sums up a run of the script that is drawn from the seed for so many views
abbrev pub IsMade : ℕ → ℕ → List ℕ → Bool → Type 0
IsMade seed views text good = IsSummedUp (lines (script seed views)) text good
