-- What was read and written where a script is answered, or isn't to its end.
use Rattle.std.specs.Prelude.{◌≡◌, ℕ, ◌+◌, ◌<◌, ◌≤◌, Bool, List, [], ◌∷◌, ◌++◌, length, Option}
use Rattle.std.specs.Prelude.{IfSome, IsErrOf}
use Rattle.std.specs.declared.result.Result.{Result}
use Rattle.std.specs.declared.result.Result.TheVariants.{Ok, Err}
use Rattle.std.specs.Io.KnownBytes.{Appends, Consumes}
use Rattle.edge_io.specs.Cause.{Rose}
use Rattle.edge_io.specs.Outside.{Counts, IsCounted, Outside}
use Rattle.line_by_line.specs.declared.script.TheConstants.{INPUT_LIMIT}
use Rattle.line_by_line.specs.declared.script.ScriptStop.{ScriptStop}
use Rattle.line_by_line.specs.declared.script.ScriptStop.TheVariants.{ReadFault, TooLong, WriteFault}
use Rattle.line_by_line.specs.declared.script.ScriptStop.TheVariants.{OutOfMemory}
use Rattle.line_by_line.specs.Answers.{AnswersFirst, AnswersInPart, AnswersWhole, Texts}

-- the script is within the limit, and its answers were written, which are good or aren't
abbrev pub HasAnswers : Texts → (left before now : Option (List ℕ)) → Bool → Type 0
HasAnswers IsTextOf left before now good = IfSome left (λ script. (length script ≤ INPUT_LIMIT)
    × ((text : List ℕ) × IsTextOf script text good × Appends before now text))

-- the script is longer than the limit
abbrev pub IsLong : (left : Option (List ℕ)) → Type 0
IsLong left = IfSome left (λ script. INPUT_LIMIT < length script)

-- bytes within the limit were taken, and this holds of them
abbrev pub HasTaken : (left rest : Option (List ℕ)) → (List ℕ → Type 0) → Type 0
HasTaken left rest Is = (taken : List ℕ) × Consumes left rest taken × (length taken ≤ INPUT_LIMIT) × Is taken

-- the limit and one byte were taken, and this holds of those within it
abbrev pub HasFilled : (left rest : Option (List ℕ)) → (List ℕ → Type 0) → Type 0
HasFilled left rest Is = (taken : List ℕ) × (byte : ℕ) × Consumes left rest (taken ++ byte ∷ [])
    × (length taken ≡ INPUT_LIMIT) × Is taken

-- From what was outside before to what is, a script may be answered so. Where the source failed, or gave more
-- than the limit, the answers to the whole lines were written; where the sink failed a front of them; and
-- where memory was wanting those to some first lines.
abbrev pub IsScriptEnd : Texts → Outside → Outside → Result Bool ScriptStop → Type 0
IsScriptEnd IsTextOf old new (Ok good) = HasAnswers IsTextOf old.left old.held new.held good
IsScriptEnd IsTextOf old new (Err ReadFault) = Rose old.reads_failed new.reads_failed
    × HasTaken old.left new.left (AnswersWhole IsTextOf old.held new.held)
IsScriptEnd IsTextOf old new (Err TooLong) = IsLong old.left
    × HasFilled old.left new.left (AnswersWhole IsTextOf old.held new.held)
IsScriptEnd IsTextOf old new (Err WriteFault) = Rose old.writes_failed new.writes_failed
    × HasTaken old.left new.left (AnswersInPart IsTextOf old.held new.held new.left)
IsScriptEnd IsTextOf old new (Err OutOfMemory) =
    HasTaken old.left new.left (AnswersFirst IsTextOf old.held new.held)

-- a script's answers are counted so: a pull a byte at the most within the limit, and one that shows the end
abbrev pub IsScriptCounted : Result Bool ScriptStop → Counts → Counts → Type 0
IsScriptCounted result = IsCounted (INPUT_LIMIT + 1) (IsErrOf result ReadFault) (IsErrOf result WriteFault)

-- The script may be asked for more wherever all whole lines of what was taken are answered: there what it
-- wants of a sink before it gives more holds.
abbrev pub AsksAnswered : {A : Type 0} → Texts → (A → Option (List ℕ)) → (A → Option (List ℕ) → Type 0)
    → A → (before : Option (List ℕ)) → Type 0
AsksAnswered {A = A} IsTextOf left may_ask first before = (now : A) (held : Option (List ℕ)) (taken : List ℕ)
    → Consumes (left first) (left now) taken → AnswersWhole IsTextOf before held taken → may_ask now held
