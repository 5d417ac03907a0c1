-- Where a run of a mode ends.
use Rattle.std.proofs.Common.{◌≡◌, ◌∙◌, ◌⊎◌, inl, inr, ℕ, List, Bool, true, false, ap, subst, arith}
use Rattle.std.specs.declared.result.Result.{Result}
use Rattle.std.specs.declared.result.Result.TheVariants.{Ok, Err}
use Rattle.std.specs.Io.KnownBytes.{Appends}
use Rattle.edge_io.specs.Cause.{Rose}
use Rattle.edge_io.specs.Outside.{Counts, HasFront, Outside}
use Rattle.line_by_line.specs.Ends.{IsScriptCounted, IsScriptEnd}
use Rattle.line_by_line.specs.declared.script.ScriptStop.{ScriptStop}
use Rattle.line_by_line.specs.declared.script.ScriptStop.TheVariants as stop
use Rattle.program_words.specs.declared.mode.Mode.{Mode}
use Rattle.program_words.specs.declared.mode.Mode.TheVariants as mode
use Rattle.layout_cli.specs.Ends.{IsEndOf, IsRunCounted, script_status}
use Rattle.layout_cli.specs.Hosted.{IsHostRunOf}
use Rattle.layout_cli.specs.Machine.{IsRunOf}
use Rattle.layout_cli.specs.Making.{IsMade}
use Rattle.layout_cli.specs.declared.program.Status.{Status}
use Rattle.layout_cli.specs.declared.program.Status.TheVariants as status

-- what a run comes to was put, whole or in part
pub made_ends : (old new : Outside) (seed views : ℕ) (text : List ℕ) (good : Bool) (result : Status) → IsMade seed views text good
    → (result ≡ status.Done → (good ≡ true) × Appends old.held new.held text)
    → (result ≡ status.Refused → (good ≡ false) × Appends old.held new.held text)
    → (result ≡ status.WriteFault → Rose old.writes_failed new.writes_failed × HasFront old.held new.held text)
    → (result ≡ status.Done) ⊎ ((result ≡ status.Refused) ⊎ (result ≡ status.WriteFault)) → IsEndOf (mode.Make seed views) old new result
made_ends old new seed views text good result made done refused fault ends = elim ends [
  | inl is ↦ rw is (omega arith, (text, subst (IsMade seed views text) (done is).0 made, (done is).1))
  | inr (inl is) ↦ rw is (omega arith, (text, subst (IsMade seed views text) (refused is).0 made, (refused is).1))
  | inr (inr is) ↦ rw is ((fault is).0, (omega arith, (text, good, made, (fault is).1)))
]

-- the run ended so
pub ended_as : (m : Mode) (old new : Outside) (r s : Status) → r ≡ s → IsEndOf m old new r → IsEndOf m old new s
ended_as m old new r s is end = subst (IsEndOf m old new) is end

-- no count rose where no source was asked
pub none_rose : Rose 0 0 → ⊥
none_rose rose = omega (arith, rose)

-- ---- a script that was answered

-- a run ends as its script was answered
pub run_ended : (old new : Outside) (r : Result Bool ScriptStop) → IsScriptEnd IsRunOf old new r → IsEndOf mode.Run old new (script_status r)
run_ended old new (Ok true) end = end
run_ended old new (Ok false) end = end
run_ended old new (Err stop.ReadFault) end = end
run_ended old new (Err stop.WriteFault) end = end
run_ended old new (Err stop.TooLong) end = end
run_ended old new (Err stop.OutOfMemory) end = end

-- so does a run for many scenes
pub host_ended : (old new : Outside) (r : Result Bool ScriptStop) → IsScriptEnd IsHostRunOf old new r → IsEndOf mode.Host old new (script_status r)
host_ended old new (Ok true) end = end
host_ended old new (Ok false) end = end
host_ended old new (Err stop.ReadFault) end = end
host_ended old new (Err stop.WriteFault) end = end
host_ended old new (Err stop.TooLong) end = end
host_ended old new (Err stop.OutOfMemory) end = end

-- both are counted as the script is
pub run_counted : (r : Result Bool ScriptStop) (s : Status) (old new : Counts) → s ≡ script_status r → IsScriptCounted r old new → IsRunCounted mode.Run s old new
run_counted r s old new is counted = record {
  few = counted.few;
  reads = elim counted.reads [
    | inl fails ↦ inl (is ∙ ap script_status fails)
    | inr same ↦ inr same
  ];
  writes = elim counted.writes [
    | inl fails ↦ inl (is ∙ ap script_status fails)
    | inr same ↦ inr same
  ];
}

pub host_counted : (r : Result Bool ScriptStop) (s : Status) (old new : Counts) → s ≡ script_status r → IsScriptCounted r old new → IsRunCounted mode.Host s old new
host_counted r s old new is counted = record {
  few = counted.few;
  reads = elim counted.reads [
    | inl fails ↦ inl (is ∙ ap script_status fails)
    | inr same ↦ inr same
  ];
  writes = elim counted.writes [
    | inl fails ↦ inl (is ∙ ap script_status fails)
    | inr same ↦ inr same
  ];
}
