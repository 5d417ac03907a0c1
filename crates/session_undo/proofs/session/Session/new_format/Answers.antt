use Rattle.std.proofs.Common.{◌≡◌, ◌+◌, arith, length, subst}
use Rattle.std.proofs.lemmas.List.{length-map}
use Rattle.std.proofs.lemmas.Result.{IfOk-weaker}
use Rattle.view_tree.specs.Views.{IsTree}
use Rattle.held_items.proofs.HeldRows.FormatOwners.{format-owned}
use Rattle.constraint_compile.specs.Compiled.{CompiledLine}
use Rattle.vfl_text.specs.View.{spacing_meaning, spacing_meanings, item_meaning, item_meanings, meaning}
use Rattle.held_items.proofs.HeldRows.SmallLines.{format-small}
use Rattle.held_items.proofs.HeldRows.NextLines.{format-next}
use Rattle.session_undo.specs.State.{State}
use Rattle.session_undo.specs.Replies.{Reply}
use Rattle.session_undo.specs.Machine.{TriedFormat}
use Rattle.session_undo.specs.Adding.{AddStop, IsNewLine, StopStep, NoEnd}
use Rattle.session_undo.proofs.Commands.Steps.{refuses}
use Rattle.session_undo.proofs.Commands.Chains.{err-map}
use Rattle.session_undo.proofs.Commands.LineStops.{IsTextOf, MayStopText, format-full, format-stopped, text_count}
use Rattle.session_undo.proofs.session.Session.new_format.Goals as goal

pub returns-in-Ok-clause-made : goal.returns-in-Ok-clause-made
returns-in-Ok-clause-made g c =
    let is : IsTextOf c.args.self.now c.args.align (meaning c.args.format.now) c.in-Ok.compiled =
    subst (λ (s : State). IsTextOf s c.args.align (meaning c.args.format.now) c.in-Ok.compiled) c.self.view_is (rw (c.tree-tree.ensures, c.metrics-metrics.ensures, c.next_row.ensures.value, c.direction-direction.ensures) at c.in-Ok.ensures.compiled) in
    IfOk-weaker c.new_line.result (IsNewLine c.args.self.now c.args.group.now c.in-Ok.compiled)
    (λ new. (compiled : CompiledLine) × IsTextOf c.args.self.now c.args.align (meaning c.args.format.now) compiled × IsNewLine c.args.self.now c.args.group.now compiled new) (λ new made. (c.in-Ok.compiled, is, made)) c.new_line.ensures.made

pub returns-in-Ok-clause-refused : goal.returns-in-Ok-clause-refused
returns-in-Ok-clause-refused g c =
    let is : IsTextOf c.args.self.now c.args.align (meaning c.args.format.now) c.in-Ok.compiled =
    subst (λ (s : State). IsTextOf s c.args.align (meaning c.args.format.now) c.in-Ok.compiled) c.self.view_is (rw (c.tree-tree.ensures, c.metrics-metrics.ensures, c.next_row.ensures.value, c.direction-direction.ensures) at c.in-Ok.ensures.compiled) in
    err-map (λ (reply : Reply). AddStop c.args.self.now c.args.group.now c.in-Ok.compiled reply c.args.self.now) (λ (reply : Reply). TriedFormat c.args.self.now c.args.group.now c.args.align (meaning c.args.format.now) NoEnd reply c.args.self.now) c.new_line.result
    (λ reply step. format-full c.args.self.now c.args.group.now c.args.align (meaning c.args.format.now) NoEnd c.in-Ok.compiled reply c.args.self.now is step) c.new_line.ensures.refused

pub new_line-requires : goal.new_line-requires
new_line-requires g c =
    let is : IsTextOf c.args.self.now c.args.align (meaning c.args.format.now) c.in-Ok.compiled =
    subst (λ (s : State). IsTextOf s c.args.align (meaning c.args.format.now) c.in-Ok.compiled) c.self.view_is (rw (c.tree-tree.ensures, c.metrics-metrics.ensures, c.next_row.ensures.value, c.direction-direction.ensures) at c.in-Ok.ensures.compiled) in
    let whole : IsTree c.args.self.now.scene.tree = subst (λ (s : State). IsTree s.scene.tree) c.self.view_is (rw c.tree-tree.ensures at c.len-count.ensures.tree) in
    let long : length (spacing_meanings c.args.format.now.spacings.items) + 1 ≡ length (item_meanings c.args.format.now.items.items) =
    omega (arith, c.args.format.now.between, length-map c.args.format.now.spacings.items spacing_meaning, length-map c.args.format.now.items.items item_meaning) in
    record {
      small = format-small c.args.self.now.scene.tree.views c.args.self.now.scene.metrics (meaning c.args.format.now) c.args.align c.args.self.now.scene.direction c.args.self.now.scene.next_row c.in-Ok.compiled is;
      next = format-next c.args.self.now.scene.tree.views c.args.self.now.scene.metrics (meaning c.args.format.now) c.args.align c.args.self.now.scene.direction c.args.self.now.scene.next_row c.in-Ok.compiled
          (format-owned c.args.self.now.scene.tree c.args.self.now.scene.metrics (meaning c.args.format.now) c.args.align c.args.self.now.scene.direction c.args.self.now.scene.next_row c.in-Ok.compiled whole long is) is;
    }

pub returns-in_ok-count-in-Err-clause-refused : goal.returns-in_ok-count-in-Err-clause-refused
returns-in_ok-count-in-Err-clause-refused g c =
    let may : MayStopText c.args.self.now c.args.align (meaning c.args.format.now) c.in-Err.stop =
    subst (λ (s : State). MayStopText s c.args.align (meaning c.args.format.now) c.in-Err.stop) c.self.view_is (rw (c.tree-tree.ensures, c.metrics-metrics.ensures, c.next_row.ensures.value, c.direction-direction.ensures) at c.in-Err.ensures.stop) in
    let count : c.in_ok-count-in-Err.count ≡ text_count c.args.self.now c.args.align (meaning c.args.format.now) =
    subst (λ (s : State). c.in_ok-count-in-Err.count ≡ text_count s c.args.align (meaning c.args.format.now)) c.self.view_is (rw c.direction-direction.ensures at (c.in_ok-count-in-Err.ensures c.self.inside.scene.scene.tree.views)) in
    refuses (λ (reply : Reply). StopStep c.args.self.now c.args.group.now c.in_ok-count-in-Err.count c.in-Err.stop reply c.args.self.now) (λ (reply : Reply). TriedFormat c.args.self.now c.args.group.now c.args.align (meaning c.args.format.now) NoEnd reply c.args.self.now) c.line_refusal.result
    (λ reply step. format-stopped c.args.self.now c.args.group.now c.args.align (meaning c.args.format.now) NoEnd c.in_ok-count-in-Err.count c.in-Err.stop reply c.args.self.now count may step) c.line_refusal.ensures
