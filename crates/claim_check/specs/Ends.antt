-- What was read and written where a check ends.
use Rattle.std.specs.Prelude.{◌≡◌, ℕ, ◌<◌, ◌≤◌, Bool, List, [], length, Option, IfSome, ⊤}
use Rattle.std.specs.declared.result.Result.{Result}
use Rattle.std.specs.declared.result.Result.TheVariants.{Ok, Err}
use Rattle.std.specs.Io.KnownBytes.{Appends}
use Rattle.edge_io.specs.Cause.{Rose}
use Rattle.edge_io.specs.Outside.{HasFront, Outside}
use Rattle.claim_check.specs.declared.check.TheConstants.{CHECK_LIMIT}
use Rattle.claim_check.specs.declared.checking.Output.{Output}
use Rattle.claim_check.specs.declared.stop.CheckStop.{CheckStop}
use Rattle.claim_check.specs.declared.stop.CheckStop.TheVariants.{ReadFault, TooLong, WriteFault, OutOfMemory}
use Rattle.claim_check.specs.Checks.{IsCheckOf}

-- the input is within the limit, and this holds of it
abbrev pub IfShort : (left : Option (List ℕ)) → (List ℕ → Type 0) → Type 0
IfShort left P = IfSome left (λ input. (length input ≤ CHECK_LIMIT) × P input)

-- the input is longer than the limit
abbrev pub IsLong : (left : Option (List ℕ)) → Type 0
IsLong left = IfSome left (λ input. CHECK_LIMIT < length input)

-- from what was outside before to what is, a check may end so: the line was written, a front of it where the
-- sink failed, and else nothing
abbrev pub IsCheckEnd : Outside → Outside → Result Bool CheckStop → Type 0
IsCheckEnd old new (Ok good) = IfShort old.left (λ input. (text : List ℕ) × IsCheckOf input text good
    × Appends old.held new.held text)
IsCheckEnd old new (Err ReadFault) = Rose old.reads_failed new.reads_failed × Appends old.held new.held []
IsCheckEnd old new (Err TooLong) = IsLong old.left × Appends old.held new.held []
IsCheckEnd old new (Err WriteFault) = Rose old.writes_failed new.writes_failed
    × IfShort old.left (λ input. (text : List ℕ) × (good : Bool) × IsCheckOf input text good
    × HasFront old.held new.held text)
IsCheckEnd old new (Err OutOfMemory) = Appends old.held new.held []

-- ---- its two halves

-- of a source that had this left and has failed so often: the output for it, or why there is none
abbrev pub IsOutputFor : (left : Option (List ℕ)) → (was is : ℕ) → Result Output CheckStop → Type 0
IsOutputFor left was is (Ok output) = IfShort left (λ input. IsCheckOf input output.text.items output.is_good)
IsOutputFor left was is (Err ReadFault) = Rose was is
IsOutputFor left was is (Err TooLong) = IsLong left
IsOutputFor left was is (Err WriteFault) = ⊥
IsOutputFor left was is (Err OutOfMemory) = ⊤

-- from what a sink held to what it holds, and from how often it had failed to how often it has: the text was
-- put, which is good or not, or a front of it where the sink failed
abbrev pub IsPutEnd : (before now : Option (List ℕ)) → (was is : ℕ) → List ℕ → Bool → Result Bool CheckStop
    → Type 0
IsPutEnd before now was is text good (Ok told) = (told ≡ good) × Appends before now text
IsPutEnd before now was is text good (Err WriteFault) = Rose was is × HasFront before now text
IsPutEnd before now was is text good (Err ReadFault) = ⊥
IsPutEnd before now was is text good (Err TooLong) = ⊥
IsPutEnd before now was is text good (Err OutOfMemory) = ⊥
