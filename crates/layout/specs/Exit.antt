-- What the program's exit status says.
use Rattle.std.specs.Prelude.{ℕ}
use Rattle.layout_cli.specs.declared.program.Status.{Status}
use Rattle.layout_cli.specs.declared.program.Status.TheVariants.{Done, Refused, Usage, ReadFault, WriteFault}
use Rattle.layout_cli.specs.declared.program.Status.TheVariants.{OutOfMemory, TooLong}
use Rattle.layout.specs.declared.exits.TheConstants.{DONE, REFUSED, USAGE, READ_FAULT, WRITE_FAULT}
use Rattle.layout.specs.declared.exits.TheConstants.{OUT_OF_MEMORY, TOO_LONG}

-- the exit status of each way in which a run ends
abbrev pub exit_code : Status → ℕ
exit_code Done = DONE
exit_code Refused = REFUSED
exit_code Usage = USAGE
exit_code ReadFault = READ_FAULT
exit_code WriteFault = WRITE_FAULT
exit_code OutOfMemory = OUT_OF_MEMORY
exit_code TooLong = TOO_LONG
