-- The answers to what is found of a scene, and to what stops its probes.
use Rattle.std.proofs.Common.{◌≡◌, ℕ, inl, inr, refl}
use Rattle.diagnosis.specs.Diagnoses.{findings_of}
use Rattle.diagnosis.specs.declared.diagnosing.Diagnosis.{Diagnosis}
use Rattle.diagnosis.specs.declared.probing.DiagnoseStop.{DiagnoseStop}
use Rattle.diagnosis.specs.declared.probing.DiagnoseStop.TheVariants as probed
use Rattle.scenes.specs.Diagnosing.{AreFindingsOf, IsProbedStop}
use Rattle.session_undo.specs.declared.reply.Reply.TheVariants as good
use Rattle.session_undo.specs.Machine.{Diagnoses}
use Rattle.session_undo.specs.Probed.{probe_refusal}
use Rattle.session_undo.specs.Replies.{MayRefuse, accepted}
use Rattle.session_undo.specs.State.{State}

pub found-answer : (old new : State) (d : Diagnosis) → AreFindingsOf old.scene (findings_of d) → new ≡ old → Diagnoses old (accepted (good.Diagnosed d)) new
found-answer old new d are same = inl (record { findings = findings_of d; are = are; told = (refl, same) })

pub stop-answer : (old : State) (attr : ℕ) (stop : DiagnoseStop) → IsProbedStop old.scene old.budget attr stop → MayRefuse (λ reply. Diagnoses old reply old) (probe_refusal attr stop)
stop-answer old attr (probed.Unfit up at) h = inr (inl (record { attr = attr; up = up; at = at; stopped = h; refused = (refl, refl) }))
stop-answer old attr (probed.Spent up path) h = inr (inr (inl (record { attr = attr; up = up; path = path; stopped = h; refused = (refl, refl) })))
stop-answer old attr (probed.Target up) h = inr (inr (inr (record { attr = attr; up = up; stopped = h; refused = (refl, refl) })))
stop-answer old attr probed.OutOfMemory h = tt
