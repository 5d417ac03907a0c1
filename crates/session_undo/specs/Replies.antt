-- Replies to the lines of a script.
use Rattle.std.specs.Prelude.{ℕ, Bool, true, false, List, ⊤, IfOk, IfErr}
use Rattle.std.specs.declared.result.Result.{Result}
use Rattle.std.specs.declared.result.Result.TheVariants.{Ok, Err}
use Rattle.frac_core.specs.Fraction.{Fraction}
use Rattle.problem_core.specs.declared.stops.Quantity.{Quantity}
use Rattle.name_tables.specs.declared.stops.LimitWord.{LimitWord}
use Rattle.compile_parts.specs.declared.stops.KindWord.{KindWord}
use Rattle.cert_core.specs.declared.by.By.{By}
use Rattle.cert_core.specs.Claims.{BestLevel}
use Rattle.cert_core.specs.Paths.{Path}
use Rattle.conflict_core.specs.declared.found.Found.{Found}
use Rattle.conflict_core.specs.declared.found.Found.TheVariants as found
use Rattle.diagnosis.specs.Diagnoses.{Findings, findings_of}
use Rattle.frac_core.specs.Fraction.{Fraction}
use Rattle.sweep_laws.specs.Stretches.{Stretch}
use Rattle.sweep_run.specs.Told.{stretches_of}
use Rattle.sweep_run.specs.declared.stretches.SweepQuantity.{SweepQuantity}
use Rattle.session_undo.specs.State.{State}
use Rattle.session_undo.specs.declared.reply.Reply as answer
use Rattle.session_undo.specs.declared.reply.Reply.TheVariants as good
use Rattle.session_undo.specs.declared.reply.StopPlace.{StopPlace}
use Rattle.session_undo.specs.declared.reply.StopPlace.TheVariants as place
use Rattle.session_undo.specs.declared.reply.Refusal.{Refusal}
use Rattle.session_undo.specs.declared.reply.Refusal.TheVariants as refusal

-- what had stopped: the run over the command's own problem, or that of a removal while these rows were still
-- held, or a probe of this attribute, up or down, or the trial of these rows, or a run of a sweep, with this
-- width
pub data Place : Type 0 where
  Step : Place
  Still : List ℕ → Place
  Probe : ℕ → Bool → Place
  Held : List ℕ → Place
  Sweep : Fraction → Place

-- what a stop's place in the code stands for
abbrev pub place_of : StopPlace → Place
place_of place.Step = Step
place_of (place.Still ids) = Still ids.items
place_of (place.Probe attr up) = Probe attr up
place_of (place.Sweep width) = Sweep width
place_of (place.Held ids) = Held ids.items

-- `Nothing` to a blank line or a comment, `Done` to a change, `Frames`, `Rows`, `Certificate`, with the
-- multipliers of each level, and `Diagnosed`, with what is found of the scene, to questions; to the question
-- why a command would clash `Solvable`, where its problem has a solution, or `Core`, with rows that clash,
-- their multipliers, and for each row values that satisfy the others; `Swept`, with the stretches of the
-- window's widths; and the refusals: where the line leaves the grammar, the unknown or taken name, the limit,
-- the wrong use, the multipliers of the required rows, that there is no earlier scene; and, each with what
-- had stopped, the path with the quantity that doesn't fit at its end, and the path that uses up the
-- exchanges; the attribute of a probe whose wished value doesn't fit, up or down; and the width of the
-- window, the path and what of a sweep doesn't fit at its end
pub data Reply : Type 0 where
  Nothing : Reply
  Done : Reply
  Frames : Reply
  Rows : Reply
  Certificate : List BestLevel → Reply
  Diagnosed : Findings → Reply
  Solvable : Reply
  Core : List ℕ → List By → List (ℕ × List (ℕ × Fraction)) → Reply
  Swept : List Stretch → Reply
  Outside : ℕ → Reply
  Unknown : List ℕ → Reply
  Taken : List ℕ → Reply
  Limit : LimitWord → Reply
  Kind : KindWord → Reply
  Conflict : List By → Reply
  NoEarlier : Reply
  Overflow : Place → Path → Quantity → Reply
  Spent : Place → Path → Reply
  NoTarget : ℕ → Bool → Reply
  SweepOverflow : Fraction → Path → SweepQuantity → Reply

-- whether it is no refusal
abbrev pub is_accepted : Reply → Bool
is_accepted Nothing = true
is_accepted Done = true
is_accepted Frames = true
is_accepted Rows = true
is_accepted (Certificate levels) = true
is_accepted (Diagnosed findings) = true
is_accepted Solvable = true
is_accepted (Core ids by values) = true
is_accepted (Swept stretches) = true
is_accepted (Outside at) = false
is_accepted (Unknown name) = false
is_accepted (Taken name) = false
is_accepted (Limit word) = false
is_accepted (Kind word) = false
is_accepted (Conflict by) = false
is_accepted NoEarlier = false
is_accepted (Overflow place path quantity) = false
is_accepted (Spent place path) = false
is_accepted (NoTarget attr up) = false
is_accepted (SweepOverflow width path what) = false

-- what is told of the required rows of a problem
abbrev pub found_reply : Found → Reply
found_reply found.Solvable = Solvable
found_reply (found.Core rows by without) = Core rows.items by without.items

-- what a reply of the code to an accepted command stands for
abbrev pub accepted : answer.Reply → Reply
accepted good.Silent = Nothing
accepted good.Done = Done
accepted good.Frames = Frames
accepted good.Rows = Rows
accepted (good.Certificate levels) = Certificate levels
accepted (good.Diagnosed d) = Diagnosed (findings_of d)
accepted (good.Why f) = found_reply f
accepted (good.Swept s) = Swept (stretches_of s.0.items)

-- the refusal is one that F allows, or what ends the run
abbrev pub MayRefuse : (Reply → Type 0) → Refusal → Type 0
MayRefuse F (refusal.Syntax at) = F (Outside at)
MayRefuse F (refusal.Unknown name) = F (Unknown name)
MayRefuse F (refusal.Taken name) = F (Taken name)
MayRefuse F (refusal.Limit word) = F (Limit word)
MayRefuse F (refusal.Kind word) = F (Kind word)
MayRefuse F (refusal.Conflict by) = F (Conflict by)
MayRefuse F refusal.NoEarlier = F NoEarlier
MayRefuse F (refusal.Overflow place at) = F (Overflow (place_of place) at.path at.quantity)
MayRefuse F (refusal.Spent place path) = F (Spent (place_of place) path)
MayRefuse F (refusal.NoTarget attr up) = F (NoTarget attr up)
MayRefuse F (refusal.SweepOverflow width path what) = F (SweepOverflow width path what)
MayRefuse F refusal.OutOfMemory = ⊤

-- if the command is accepted, the step leads to its reply and the session after
abbrev pub Accepting : (Reply → State → Type 0) → State → Result answer.Reply Refusal → Type 0
Accepting Allows new result = IfOk result (λ reply. Allows (accepted reply) new)

-- if the command is refused, the step allows this refusal, and the session does not change
abbrev pub Refusing : {T : Type 0} → (Reply → State → Type 0) → State → Result T Refusal → Type 0
Refusing Allows old result = IfErr result (MayRefuse (λ reply. Allows reply old))

-- the refusal has a reply, and F holds of it
abbrev pub IsTold : (Reply → Type 0) → Refusal → Type 0
IsTold F (refusal.Syntax at) = F (Outside at)
IsTold F (refusal.Unknown name) = F (Unknown name)
IsTold F (refusal.Taken name) = F (Taken name)
IsTold F (refusal.Limit word) = F (Limit word)
IsTold F (refusal.Kind word) = F (Kind word)
IsTold F (refusal.Conflict by) = F (Conflict by)
IsTold F refusal.NoEarlier = F NoEarlier
IsTold F (refusal.Overflow place at) = F (Overflow (place_of place) at.path at.quantity)
IsTold F (refusal.Spent place path) = F (Spent (place_of place) path)
IsTold F (refusal.NoTarget attr up) = F (NoTarget attr up)
IsTold F (refusal.SweepOverflow width path what) = F (SweepOverflow width path what)
IsTold F refusal.OutOfMemory = ⊥

-- F holds of the reply to a command; there is none if memory ran out
abbrev pub Tells : (Reply → Type 0) → Result answer.Reply Refusal → Type 0
Tells F (Ok reply) = F (accepted reply)
Tells F (Err refusal) = IsTold F refusal

-- the command has made a change
abbrev pub IsChange : Result answer.Reply Refusal → Type 0
IsChange (Ok good.Silent) = ⊥
IsChange (Ok good.Done) = ⊤
IsChange (Ok good.Frames) = ⊥
IsChange (Ok good.Rows) = ⊥
IsChange (Ok (good.Certificate levels)) = ⊥
IsChange (Ok (good.Diagnosed d)) = ⊥
IsChange (Ok (good.Why f)) = ⊥
IsChange (Ok (good.Swept s)) = ⊥
IsChange (Err refusal) = ⊥
