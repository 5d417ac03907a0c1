-- Why a text isn't read.
use Rattle.std.specs.Prelude.{ℕ, List}
use Rattle.frac_core.specs.declared.memory.Stop.{Stop}
use Rattle.frac_core.specs.declared.memory.Stop.TheVariants.{Refused, OutOfMemory}
use Rattle.span_text.specs.Language.{Rel, LeavesAt}
use Rattle.span_text.specs.declared.stop.SyntaxAt.{SyntaxAt}

-- Where syntax is said to be wrong, the text isn't of R, and its longest front that begins some text of R
-- ends there.
abbrev pub IsStopOf : {A : Type 0} → Rel A → List ℕ → Stop SyntaxAt → Type 0
IsStopOf R text (Refused at) = LeavesAt R text at.0
IsStopOf R text OutOfMemory = Unit {0}
