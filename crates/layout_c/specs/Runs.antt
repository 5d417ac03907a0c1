-- What a call that runs a whole script wrote.
use Rattle.std.specs.Prelude.{◌≡◌, ◌⊎◌, ◌<◌, ⊤, List, ℕ, [], Some, length}
use Rattle.edge_io.specs.Outside.{Outside}
use Rattle.program_words.specs.declared.mode.Mode.TheVariants.{Run}
use Rattle.layout_cli.specs.Ends.{IsEndOf}
use Rattle.layout_cli.specs.declared.program.Status.{Status}
use Rattle.layout_cli.specs.declared.program.Status.TheVariants.{ReadFault, WriteFault}
use Rattle.layout_c.specs.Status.{status_code}
use Rattle.layout_c.specs.declared.status.TheConstants.{OUT_OF_MEMORY}

-- the run of a script may end so, where nothing was written before and this is what is written then
abbrev pub IsEndIn : (script text : List ℕ) → Status → Type 0
IsEndIn script text status = (old new : Outside) × IsEndOf Run old new status × (old.left ≡ Some script)
    × (old.reads_failed ≡ 0) × (old.held ≡ Some []) × (old.writes_failed ≡ 0) × (new.held ≡ Some text)

-- reading from memory doesn't fail, and writing only where the text fills the room
abbrev pub IsFaultless : (room : ℕ) (text : List ℕ) → Status → Type 0
IsFaultless room text ReadFault = ⊥
IsFaultless room text WriteFault = length text ≡ room
IsFaultless room text status = ⊤

-- The run ended so, and this was written. Where it says that writing failed, the text fills the room, or is
-- empty since there is no room for what was written.
abbrev pub IsRunIn : (script : List ℕ) (room : ℕ) (text : List ℕ) → Status → Type 0
IsRunIn script room text status = (IsEndIn script text status × IsFaultless room text status)
    ⊎ ((status ≡ WriteFault) × (text ≡ []) × (whole : List ℕ) × (end : Status)
    × IsEndIn script whole end × (room < length whole))

-- where a call answers a script by this number, its run ended so; or memory was wanting, and nothing stands
-- in the room
abbrev pub IsAnswerTo : (script : List ℕ) (room : ℕ) (text : List ℕ) → ℕ → Type 0
IsAnswerTo script room text answer =
    ((status : Status) × (answer ≡ status_code status) × IsRunIn script room text status)
    ⊎ ((answer ≡ OUT_OF_MEMORY) × (text ≡ []))
