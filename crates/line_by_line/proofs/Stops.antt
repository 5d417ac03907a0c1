-- Why a script ends early, by what ended the last step.
use Rattle.std.proofs.Common.{◌≡◌, ◌∙◌, ◌≤◌, ℕ, Bool, refl, sym, ap, subst, arith}
use Rattle.std.specs.declared.result.Result.{Result}
use Rattle.std.specs.declared.result.Result.TheVariants.{Ok, Err}
use Rattle.edge_io.specs.Cause.{Rose}
use Rattle.edge_io.specs.Outside.{Outside}
use Rattle.edge_io.specs.declared.traits.Failed.{Failed}
use Rattle.frac_core.specs.declared.memory.Stop.{Stop}
use Rattle.frac_core.specs.declared.memory.Stop.TheVariants as answer
use Rattle.line_by_line.specs.Answers.{AnswersFirst, AnswersInPart, AnswersWhole, Texts, sink_failed}
use Rattle.line_by_line.specs.Ends.{HasFilled, HasTaken, IsLong, IsScriptEnd}
use Rattle.line_by_line.specs.declared.script.InputStop.{InputStop}
use Rattle.line_by_line.specs.declared.script.InputStop.TheVariants as input
use Rattle.line_by_line.specs.declared.script.ScriptStop.{ScriptStop}
use Rattle.line_by_line.specs.declared.script.ScriptStop.TheVariants as script

abbrev pub FromAnswer : Stop Failed → ScriptStop → Type 0
FromAnswer s e = (s ≡ sink_failed → e ≡ script.WriteFault) × (s ≡ answer.OutOfMemory → e ≡ script.OutOfMemory)

abbrev pub FromInput : InputStop → ScriptStop → Type 0
FromInput s e = (s ≡ input.Fault → e ≡ script.ReadFault) × (s ≡ input.TooLong → e ≡ script.TooLong)

pub rose_later : (a b c : ℕ) → a ≤ b → Rose b c → Rose a c
rose_later a b c before rose = omega (arith, before, rose)

pub end_as : (T : Texts) (old new : Outside) (r : Result Bool ScriptStop) (e : ScriptStop) → r ≡ Err e → IsScriptEnd T old new (Err e) → IsScriptEnd T old new r
end_as T old new r e is end = subst (λ (x : Result Bool ScriptStop). IsScriptEnd T old new x) (sym is) end

err_as : (T : Texts) (old new : Outside) (e kind : ScriptStop) → e ≡ kind → IsScriptEnd T old new (Err kind) → IsScriptEnd T old new (Err e)
err_as T old new e kind is end = subst (λ (x : ScriptStop). IsScriptEnd T old new (Err x)) (sym is) end

pub answer_ends : (T : Texts) (old new : Outside) (s : Stop Failed) (e : ScriptStop) → FromAnswer s e
    → (s ≡ sink_failed → Rose old.writes_failed new.writes_failed × HasTaken old.left new.left (AnswersInPart T old.held new.held new.left))
    → (s ≡ answer.OutOfMemory → HasTaken old.left new.left (AnswersFirst T old.held new.held)) → IsScriptEnd T old new (Err e)
answer_ends T old new (answer.Refused failed) e from write memory = err_as T old new e script.WriteFault (from.0 refl) (write refl)
answer_ends T old new answer.OutOfMemory e from write memory = err_as T old new e script.OutOfMemory (from.1 refl) (memory refl)

pub input_ends : (T : Texts) (old new : Outside) (s : InputStop) (e : ScriptStop) → FromInput s e
    → (s ≡ input.Fault → Rose old.reads_failed new.reads_failed × HasTaken old.left new.left (AnswersWhole T old.held new.held))
    → (s ≡ input.TooLong → IsLong old.left × HasFilled old.left new.left (AnswersWhole T old.held new.held))
    → IsScriptEnd T old new (Err e)
input_ends T old new input.Fault e from read long = err_as T old new e script.ReadFault (from.0 refl) (read refl)
input_ends T old new input.TooLong e from read long = err_as T old new e script.TooLong (from.1 refl) (long refl)

-- ---- an error that was passed on

abbrev error_or : {T E : Type 0} → E → Result T E → E
error_or d (Ok x) = d
error_or d (Err e) = e

-- the error that was passed on
pub passed_on : {T E : Type 0} (r : Result T E) (was passed kind : E) → r ≡ Err passed → passed ≡ was → r ≡ Err kind → was ≡ kind
passed_on {T = T} {E = E} r was passed kind is same end = sym same ∙ ap (λ (x : Result T E). error_or was x) (sym is ∙ end)
