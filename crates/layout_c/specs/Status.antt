-- What a call's number says.
use Rattle.std.specs.Prelude.{ℕ, List, [], ◌∷◌, codes}
use Rattle.layout_cli.specs.declared.program.Status.{Status}
use Rattle.layout_cli.specs.declared.program.Status.TheVariants.{Done, Refused, Usage, ReadFault, WriteFault}
use Rattle.layout_cli.specs.declared.program.Status.TheVariants.{OutOfMemory, TooLong}
use Rattle.layout_c.specs.declared.status.TheConstants.{DONE, REFUSED, NONE, READ_FAULT, WRITE_FAULT}
use Rattle.layout_c.specs.declared.status.TheConstants.{OUT_OF_MEMORY, TOO_LONG}

-- the number of each way in which a run ends
abbrev pub status_code : Status → ℕ
status_code Done = DONE
status_code Refused = REFUSED
status_code Usage = NONE
status_code ReadFault = READ_FAULT
status_code WriteFault = WRITE_FAULT
status_code OutOfMemory = OUT_OF_MEMORY
status_code TooLong = TOO_LONG

-- what each status is called, by its number
abbrev pub status_names : List (List ℕ)
status_names = codes "done" ∷ codes "refused" ∷ codes "none" ∷ codes "read fault" ∷ codes "no room"
    ∷ codes "out of memory" ∷ codes "too long" ∷ []
