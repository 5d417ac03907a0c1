-- The refusals for what stops a probe or a sweep.
use Rattle.std.specs.Prelude.{ℕ}
use Rattle.diagnosis.specs.declared.probing.DiagnoseStop.{DiagnoseStop}
use Rattle.diagnosis.specs.declared.probing.DiagnoseStop.TheVariants as probed
use Rattle.sweep_run.specs.declared.stretches.SweepStop.{SweepStop}
use Rattle.sweep_run.specs.declared.stretches.SweepStop.TheVariants as sweep
use Rattle.session_undo.specs.declared.reply.StopPlace.TheVariants as place
use Rattle.session_undo.specs.declared.reply.Refusal.{Refusal}
use Rattle.session_undo.specs.declared.reply.Refusal.TheVariants as refusal

-- the refusal for what stops the probe of an attribute
abbrev pub probe_refusal : ℕ → DiagnoseStop → Refusal
probe_refusal attr (probed.Unfit up at) = refusal.Overflow (place.Probe attr up) at
probe_refusal attr (probed.Spent up path) = refusal.Spent (place.Probe attr up) path
probe_refusal attr (probed.Target up) = refusal.NoTarget attr up
probe_refusal attr probed.OutOfMemory = refusal.OutOfMemory

-- the refusal for what stops a sweep
abbrev pub sweep_refusal : SweepStop → Refusal
sweep_refusal (sweep.Unfit width path what) = refusal.SweepOverflow width path what
sweep_refusal (sweep.Spent width path) = refusal.Spent (place.Sweep width) path
sweep_refusal sweep.OutOfMemory = refusal.OutOfMemory
