-- What was written where a run of a mode ends.
use Rattle.std.specs.Prelude.{◌≡◌, ◌⊎◌, ℕ, ◌+◌, ◌<◌, ◌≤◌, Bool, true, false, List, [], length, Option}
use Rattle.std.specs.Prelude.{IfSome, String}
use Rattle.std.specs.declared.result.Result.{Result}
use Rattle.std.specs.declared.result.Result.TheVariants.{Ok, Err}
use Rattle.std.specs.Io.KnownBytes.{Appends}
use Rattle.edge_io.specs.Cause.{Rose}
use Rattle.edge_io.specs.Outside.{Counts, HasFront, IsCounted, Outside}
use Rattle.program_words.specs.Words.{AreOther}
use Rattle.program_words.specs.declared.mode.Mode.{Mode}
use Rattle.program_words.specs.declared.mode.Mode.TheVariants.{Run, Host}
use Rattle.line_by_line.specs.Answers.{AnswersWhole, AnswersFirst, AnswersInPart}
use Rattle.line_by_line.specs.Ends.{HasFilled, HasTaken}
use Rattle.line_by_line.specs.declared.script.ScriptStop.{ScriptStop}
use Rattle.line_by_line.specs.declared.script.ScriptStop.TheVariants as stop
use Rattle.layout_cli.specs.declared.program.Status.{Status}
use Rattle.layout_cli.specs.declared.program.Status.TheVariants as status
use Rattle.layout_cli.specs.Hosted.{IsHostRunOf}
use Rattle.layout_cli.specs.Machine.{IsRunOf}
use Rattle.layout_cli.specs.Words.{NameMode, input_of, limit_of, usage_line}
use Rattle.layout_cli.specs.Outputs.{IsOutputOf}

-- ---- what was written: from what was left in the source and held by the sink to what is

-- the mode's input is within the limit, and this holds of it
abbrev pub IfWithin : Mode → (left : Option (List ℕ)) → (List ℕ → Type 0) → Type 0
IfWithin mode left P = IfSome (input_of mode left) (λ input. (length input ≤ limit_of mode) × P input)

-- the mode's input is longer than the limit
abbrev pub IsTooLong : Mode → (left : Option (List ℕ)) → Type 0
IsTooLong mode left = IfSome (input_of mode left) (λ input. limit_of mode < length input)

-- the mode's input is within the limit, and what was written is the mode's output for the whole of it
abbrev pub HasOutput : Mode → (left before now : Option (List ℕ)) → Bool → Type 0
HasOutput mode left before now good = IfWithin mode left (λ input. (text : List ℕ)
    × IsOutputOf mode input text good × Appends before now text)

-- where the source failed: the replies to the whole lines that were read, or nothing in another mode
abbrev pub AfterReadFault : Mode → (left rest before now : Option (List ℕ)) → Type 0
AfterReadFault Run left rest before now = HasTaken left rest (AnswersWhole IsRunOf before now)
AfterReadFault Host left rest before now = HasTaken left rest (AnswersWhole IsHostRunOf before now)
AfterReadFault mode left rest before now = Appends before now []

-- where the source gave more than the limit: the replies to the whole lines within it
abbrev pub AfterTooLong : Mode → (left rest before now : Option (List ℕ)) → Type 0
AfterTooLong Run left rest before now = HasFilled left rest (AnswersWhole IsRunOf before now)
AfterTooLong Host left rest before now = HasFilled left rest (AnswersWhole IsHostRunOf before now)
AfterTooLong mode left rest before now = Appends before now []

-- where the sink failed: a front of the replies, or of the mode's output
abbrev pub AfterWriteFault : Mode → (left rest before now : Option (List ℕ)) → Type 0
AfterWriteFault Run left rest before now = HasTaken left rest (AnswersInPart IsRunOf before now rest)
AfterWriteFault Host left rest before now = HasTaken left rest (AnswersInPart IsHostRunOf before now rest)
AfterWriteFault mode left rest before now = IfWithin mode left (λ input. (text : List ℕ) × (good : Bool)
    × IsOutputOf mode input text good × HasFront before now text)

-- where memory was wanting: the replies to some first whole lines, or nothing in another mode
abbrev pub AfterNoMemory : Mode → (left rest before now : Option (List ℕ)) → Type 0
AfterNoMemory Run left rest before now = HasTaken left rest (AnswersFirst IsRunOf before now)
AfterNoMemory Host left rest before now = HasTaken left rest (AnswersFirst IsHostRunOf before now)
AfterNoMemory mode left rest before now = Appends before now []

-- ---- the same for any words

-- where the sink failed: a front of the usage line for other words, or of what the mode of the words writes
abbrev pub IsCutShort : {A : Type 0} → List (String A) → (left rest before now : Option (List ℕ)) → Type 0
IsCutShort words left rest before now = (AreOther words × HasFront before now usage_line)
    ⊎ NameMode words (λ mode. AfterWriteFault mode left rest before now)

-- where memory was wanting: nothing, or the replies to some first whole lines in the mode of the words
abbrev pub IsBrokenOff : {A : Type 0} → List (String A) → (left rest before now : Option (List ℕ)) → Type 0
IsBrokenOff words left rest before now =
    Appends before now [] ⊎ NameMode words (λ mode. AfterNoMemory mode left rest before now)

-- ---- how a run may end

-- how a run ends whose script was answered so
abbrev pub script_status : Result Bool ScriptStop → Status
script_status (Ok true) = status.Done
script_status (Ok false) = status.Refused
script_status (Err stop.ReadFault) = status.ReadFault
script_status (Err stop.WriteFault) = status.WriteFault
script_status (Err stop.TooLong) = status.TooLong
script_status (Err stop.OutOfMemory) = status.OutOfMemory

-- a mode's run is counted so
abbrev pub IsRunCounted : Mode → Status → Counts → Counts → Type 0
IsRunCounted mode end = IsCounted (limit_of mode + 1) (end ≡ status.ReadFault) (end ≡ status.WriteFault)

-- from what was outside before to what is, the run of a mode may end so
abbrev pub IsEndOf : Mode → Outside → Outside → Status → Type 0
IsEndOf mode old new status.Done = HasOutput mode old.left old.held new.held true
IsEndOf mode old new status.Refused = HasOutput mode old.left old.held new.held false
IsEndOf mode old new status.Usage = ⊥
IsEndOf mode old new status.ReadFault = Rose old.reads_failed new.reads_failed
    × AfterReadFault mode old.left new.left old.held new.held
IsEndOf mode old new status.WriteFault = Rose old.writes_failed new.writes_failed
    × AfterWriteFault mode old.left new.left old.held new.held
IsEndOf mode old new status.TooLong = IsTooLong mode old.left
    × AfterTooLong mode old.left new.left old.held new.held
IsEndOf mode old new status.OutOfMemory = AfterNoMemory mode old.left new.left old.held new.held
