-- How often what is outside is called and fails, from step to step.
use Rattle.std.proofs.Common.{◌≡◌, ◌∙◌, ◌⊎◌, inl, inr, ℕ, Bool, refl, ap, subst}
use Rattle.std.specs.Prelude.{⊤, IsErrOf}
use Rattle.std.specs.declared.result.Result.{Result}
use Rattle.std.specs.declared.result.Result.TheVariants.{Ok, Err}
use Rattle.edge_io.specs.declared.traits.Failed.{Failed}
use Rattle.frac_core.specs.declared.memory.Stop.{Stop}
use Rattle.frac_core.specs.declared.memory.Stop.TheVariants as answer
use Rattle.line_by_line.specs.declared.script.InputStop.{InputStop}
use Rattle.line_by_line.specs.declared.script.InputStop.TheVariants as input
use Rattle.line_by_line.specs.declared.script.ScriptStop.{ScriptStop}
use Rattle.line_by_line.specs.declared.script.ScriptStop.TheVariants as script
use Rattle.line_by_line.proofs.Stops.{FromAnswer, FromInput}

-- the error of a result, where it has one
abbrev error_in : {T E : Type 0} → Result T E → E → E
error_in (Ok v) other = other
error_in (Err e) other = e

-- an answer is there
abbrev Answers : {T E : Type 0} → Result T E → Type 0
Answers (Ok v) = ⊤
Answers (Err e) = ⊥

-- what an answer leaves as it was
pub as_answered : {T E P : Type 0} (v : T) (e : E) → IsErrOf {T = T} {E = E} (Ok v) e ⊎ P → P
as_answered v e (inl failed) = absurd (subst (λ r. Answers r) failed tt)
as_answered v e (inr same) = same

-- a pull failed, or the count of a source's faults is as it was
pub reads_or_same : (old mid new : ℕ) (s : InputStop) (e : ScriptStop) (r : Result Bool ScriptStop) → r ≡ Err e → FromInput s e
    → IsErrOf {T = Bool} {E = InputStop} (Err s) input.Fault ⊎ (new ≡ mid) → mid ≡ old → IsErrOf r script.ReadFault ⊎ (new ≡ old)
reads_or_same old mid new s e r is from (inl failed) before =
    inl (is ∙ ap (λ (x : ScriptStop). Err x) (from.0 (ap (λ (x : Result Bool InputStop). error_in x input.Fault) failed)))
reads_or_same old mid new s e r is from (inr same) before = inr (same ∙ before)

-- a put failed, or the count of a sink's faults is as it was
pub writes_or_same : (old mid new : ℕ) (s : Stop Failed) (e : ScriptStop) (r : Result Bool ScriptStop) → r ≡ Err e → FromAnswer s e
    → (s ≡ answer.OutOfMemory → new ≡ mid) → mid ≡ old → IsErrOf r script.WriteFault ⊎ (new ≡ old)
writes_or_same old mid new (answer.Refused failed) e r is from memory before = inl (is ∙ ap (λ (x : ScriptStop). Err x) (from.0 refl))
writes_or_same old mid new answer.OutOfMemory e r is from memory before = inr (memory refl ∙ before)
