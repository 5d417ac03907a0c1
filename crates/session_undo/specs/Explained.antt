-- The refusals for what stops a trial of some required rows.
use Rattle.conflict_core.specs.declared.found.CoreStop.{CoreStop}
use Rattle.conflict_core.specs.declared.found.CoreStop.TheVariants as trial
use Rattle.session_undo.specs.declared.reply.StopPlace.TheVariants as place
use Rattle.session_undo.specs.declared.reply.Refusal.{Refusal}
use Rattle.session_undo.specs.declared.reply.Refusal.TheVariants as refusal

-- the refusal for what stops a trial
abbrev pub core_refusal : CoreStop → Refusal
core_refusal (trial.Unfit held at) = refusal.Overflow (place.Held held) at
core_refusal (trial.Spent held path) = refusal.Spent (place.Held held) path
core_refusal trial.OutOfMemory = refusal.OutOfMemory
