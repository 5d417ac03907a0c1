use Rattle.std.proofs.Common.{subst}
use Rattle.std.proofs.lemmas.Result.{IfOk-weaker}
use Rattle.constraint_compile.specs.Compiled.{CompiledLine}
use Rattle.script_text.specs.Directions.{line_in}
use Rattle.script_text.specs.View.{linear_view}
use Rattle.held_items.proofs.HeldRows.SmallLines.{line-small}
use Rattle.held_items.proofs.HeldRows.NextLines.{constrain-next}
use Rattle.compile_parts.specs.Meaning.{HasDenominator, terms_of}
use Rattle.std.specs.Prelude.{All}
use Rattle.session_undo.specs.State.{State}
use Rattle.session_undo.specs.Replies.{Reply}
use Rattle.session_undo.specs.Machine.{TriedConstraint}
use Rattle.session_undo.specs.Adding.{AddStop, IsNewLine, StopStep, NoEnd}
use Rattle.session_undo.proofs.Commands.Steps.{refuses}
use Rattle.session_undo.proofs.Commands.Chains.{err-map}
use Rattle.session_undo.proofs.Commands.LineStops.{IsLineOf, MayStopLine, constraint-full, constraint-stopped}
use Rattle.session_undo.proofs.session.Session.new_constraint.Goals as goal

pub returns-in-Ok-clause-made : goal.returns-in-Ok-clause-made
returns-in-Ok-clause-made g c =
    let is : IsLineOf c.args.self.now (linear_view c.args.line.now) c.in-Ok.compiled =
    subst (λ (s : State). IsLineOf s (linear_view c.args.line.now) c.in-Ok.compiled) c.self.view_is (rw (c.tree-tree.ensures, c.metrics-metrics.ensures, c.next_row-id.ensures.value, c.direction-direction.ensures) at c.in-Ok.ensures.compiled) in
    IfOk-weaker c.new_line.result (IsNewLine c.args.self.now c.args.group.now c.in-Ok.compiled)
    (λ new. (compiled : CompiledLine) × IsLineOf c.args.self.now (linear_view c.args.line.now) compiled × IsNewLine c.args.self.now c.args.group.now compiled new) (λ new made. (c.in-Ok.compiled, is, made)) c.new_line.ensures.made

pub returns-in-Ok-clause-refused : goal.returns-in-Ok-clause-refused
returns-in-Ok-clause-refused g c =
    let is : IsLineOf c.args.self.now (linear_view c.args.line.now) c.in-Ok.compiled =
    subst (λ (s : State). IsLineOf s (linear_view c.args.line.now) c.in-Ok.compiled) c.self.view_is (rw (c.tree-tree.ensures, c.metrics-metrics.ensures, c.next_row-id.ensures.value, c.direction-direction.ensures) at c.in-Ok.ensures.compiled) in
    err-map (λ (reply : Reply). AddStop c.args.self.now c.args.group.now c.in-Ok.compiled reply c.args.self.now) (λ (reply : Reply). TriedConstraint c.args.self.now c.args.group.now (linear_view c.args.line.now) NoEnd reply c.args.self.now) c.new_line.result
    (λ reply step. constraint-full c.args.self.now c.args.group.now (linear_view c.args.line.now) NoEnd c.in-Ok.compiled reply c.args.self.now is step) c.new_line.ensures.refused

pub new_line-requires : goal.new_line-requires
new_line-requires g c =
    let is : IsLineOf c.args.self.now (linear_view c.args.line.now) c.in-Ok.compiled =
    subst (λ (s : State). IsLineOf s (linear_view c.args.line.now) c.in-Ok.compiled) c.self.view_is (rw (c.tree-tree.ensures, c.metrics-metrics.ensures, c.next_row-id.ensures.value, c.direction-direction.ensures) at c.in-Ok.ensures.compiled) in
    let above : All HasDenominator (terms_of (line_in c.args.self.now.scene.direction (linear_view c.args.line.now))) =
    subst (λ (s : State). All HasDenominator (terms_of (line_in s.scene.direction (linear_view c.args.line.now)))) c.self.view_is (rw c.direction-direction.ensures at c.in-Ok.ensures.above) in
    record {
      small = line-small c.args.self.now.scene.tree.views c.args.self.now.scene.metrics (line_in c.args.self.now.scene.direction (linear_view c.args.line.now)) c.args.self.now.scene.next_row c.in-Ok.compiled is;
      next = constrain-next c.args.self.now.scene.tree.views c.args.self.now.scene.metrics (line_in c.args.self.now.scene.direction (linear_view c.args.line.now)) c.args.self.now.scene.next_row c.in-Ok.compiled is above;
    }

pub returns-in-Err-clause-refused : goal.returns-in-Err-clause-refused
returns-in-Err-clause-refused g c =
    let may : MayStopLine c.args.self.now (linear_view c.args.line.now) c.in-Err.stop =
    subst (λ (s : State). MayStopLine s (linear_view c.args.line.now) c.in-Err.stop) c.self.view_is (rw (c.tree-tree.ensures, c.metrics-metrics.ensures, c.next_row-id.ensures.value, c.direction-direction.ensures) at c.in-Err.ensures.stop) in
    refuses (λ (reply : Reply). StopStep c.args.self.now c.args.group.now 1 c.in-Err.stop reply c.args.self.now) (λ (reply : Reply). TriedConstraint c.args.self.now c.args.group.now (linear_view c.args.line.now) NoEnd reply c.args.self.now) c.line_refusal.result
    (λ reply step. constraint-stopped c.args.self.now c.args.group.now (linear_view c.args.line.now) NoEnd c.in-Err.stop reply c.args.self.now may step) c.line_refusal.ensures
