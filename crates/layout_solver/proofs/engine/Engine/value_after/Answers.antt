use Rattle.std.proofs.Common.{rules, [], ◌++◌, subst, sym}
use Rattle.std.proofs.lemmas.Result.{IfErr-weaker, IfOk-weaker}
use Rattle.problem_core.specs.Layout.{Problem}
use Rattle.corner_lines.specs.Shifts.{with_constant}
use Rattle.corner_view.specs.Changes.{IsNear}
use Rattle.layout_solver.specs.Layouts.{IsBestValue, with_added}
use Rattle.layout_solver.specs.Starts.{IsMoved}
use Rattle.layout_solver.specs.Trials.{IsTrialStop}
use Rattle.layout_solver.proofs.Changes.{marked_is, marked_moved, marked_stay, marked_values, marked_whole, refused_before, refused_same, refused_solved, refused_trial, refused_values}
use Rattle.layout_solver.proofs.engine.Engine.value_after.Goals as goal

pub pushed-result-requires-clause-values : goal.pushed-result-requires-clause-values
pushed-result-requires-clause-values g c =
    marked_values c.self.inside.corner c.mark.new.self c.self.inside.values.0 c.self.inside.earlier c.args.self.now
    (record { solved = c.self.invariant; view = c.self.view_is; scene = c.mark.ensures.scene; before = c.mark.ensures.before; room = c.requires.room })

pub pushed-result-requires-clause-whole : goal.pushed-result-requires-clause-whole
pushed-result-requires-clause-whole g c =
    marked_whole c.self.inside.corner c.mark.new.self c.self.inside.values.0 c.self.inside.earlier c.args.self.now
    (record { solved = c.self.invariant; view = c.self.view_is; scene = c.mark.ensures.scene; before = c.mark.ensures.before; room = c.requires.room }) [] c.args.rows.now c.requires.whole

pub pushed-result-requires-clause-attr : goal.pushed-result-requires-clause-attr
pushed-result-requires-clause-attr g c =
    marked_stay c.self.inside.corner c.mark.new.self c.self.inside.values.0 c.self.inside.earlier c.args.self.now
    (record { solved = c.self.invariant; view = c.self.view_is; scene = c.mark.ensures.scene; before = c.mark.ensures.before; room = c.requires.room }) c.args.attr c.requires.attr

pub invariant_of-self-inside : goal.invariant_of-self-inside
invariant_of-self-inside g c = (
  refused_values c.self.inside.corner c.mark.new.self c.self.inside.values.0 c.self.inside.earlier c.args.self.now
      (record { solved = c.self.invariant; view = c.self.view_is; scene = c.mark.ensures.scene; before = c.mark.ensures.before; room = c.requires.room }) c.pushed-result.new.c c.back.new.self c.pushed-result.ensures.before c.back.ensures.scene,
  (
    refused_before c.self.inside.corner c.mark.new.self c.self.inside.values.0 c.self.inside.earlier c.args.self.now
        (record { solved = c.self.invariant; view = c.self.view_is; scene = c.mark.ensures.scene; before = c.mark.ensures.before; room = c.requires.room }) c.pushed-result.new.c c.back.new.self c.pushed-result.ensures.before c.back.ensures.scene,
    tt,
  ),
)

pub invariant_of-self : goal.invariant_of-self
invariant_of-self g c =
    refused_solved c.self.inside.corner c.mark.new.self c.self.inside.values.0 c.self.inside.earlier c.args.self.now
    (record { solved = c.self.invariant; view = c.self.view_is; scene = c.mark.ensures.scene; before = c.mark.ensures.before; room = c.requires.room }) c.pushed-result.new.c c.back.new.self c.pushed-result.ensures.before c.back.ensures.scene
    _ _ (search rules) c.back.ensures.candidates

pub pushed-result-requires-clause-near : goal.pushed-result-requires-clause-near
pushed-result-requires-clause-near g c = λ p moved.
    subst (λ (q : Problem). IsNear q c.args.to.row c.args.to.constant)
    (sym (marked_is c.self.inside.corner c.mark.new.self c.self.inside.values.0 c.self.inside.earlier c.args.self.now (record { solved = c.self.invariant; view = c.self.view_is; scene = c.mark.ensures.scene; before = c.mark.ensures.before; room = c.requires.room }) [] c.args.rows.now p moved))
    c.requires.near

pub returns-clause-value : goal.returns-clause-value
returns-clause-value g c =
    IfOk-weaker c.pushed-result.result
    (λ f. (p : Problem) → IsMoved c.mark.new.self [] (c.mark.new.self.problem.rows ++ c.args.rows.now) p → IsBestValue (with_constant c.args.to.row c.args.to.constant p) c.args.attr f)
    (IsBestValue (with_constant c.args.to.row c.args.to.constant (with_added c.args.self.now [] c.args.rows.now)) c.args.attr)
    (λ f h. h (with_added c.args.self.now [] c.args.rows.now) (marked_moved c.self.inside.corner c.mark.new.self c.self.inside.values.0 c.self.inside.earlier c.args.self.now
    (record { solved = c.self.invariant; view = c.self.view_is; scene = c.mark.ensures.scene; before = c.mark.ensures.before; room = c.requires.room }) [] c.args.rows.now))
    c.pushed-result.ensures.value

pub returns-clause-stop : goal.returns-clause-stop
returns-clause-stop g c =
    IfErr-weaker c.pushed-result.result
    (λ stop. (p : Problem) → IsMoved c.mark.new.self [] (c.mark.new.self.problem.rows ++ c.args.rows.now) p
    → IsTrialStop p c.mark.new.self.problem.rows c.mark.new.self.marks c.args.rows.now c.args.to c.args.budget stop)
    (IsTrialStop (with_added c.args.self.now [] c.args.rows.now) c.args.self.now.problem.rows c.args.self.now.corner c.args.rows.now c.args.to c.args.budget)
    (λ stop h. refused_trial c.self.inside.corner c.mark.new.self c.self.inside.values.0 c.self.inside.earlier c.args.self.now
    (record { solved = c.self.invariant; view = c.self.view_is; scene = c.mark.ensures.scene; before = c.mark.ensures.before; room = c.requires.room }) [] c.args.rows.now c.args.to c.args.budget stop h)
    c.pushed-result.ensures.stop

pub returns-clause-same : goal.returns-clause-same
returns-clause-same g c =
    refused_same c.self.inside.corner c.mark.new.self c.self.inside.values.0 c.self.inside.earlier c.args.self.now
    (record { solved = c.self.invariant; view = c.self.view_is; scene = c.mark.ensures.scene; before = c.mark.ensures.before; room = c.requires.room }) c.pushed-result.new.c c.back.new.self c.pushed-result.ensures.before c.back.ensures.scene
    _ _ (search rules)
