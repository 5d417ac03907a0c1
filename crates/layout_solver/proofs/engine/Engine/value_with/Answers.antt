use Rattle.std.proofs.Common.{rules, false, [], ◌++◌}
use Rattle.std.proofs.lemmas.Result.{IfErr-weaker, IfOk-weaker}
use Rattle.cert_core.specs.Stops.{IsStopOf}
use Rattle.corner_view.specs.AddStops.{FromAdded}
use Rattle.problem_core.specs.Layout.{Problem}
use Rattle.layout_solver.specs.Layouts.{IsBestValue, with_added}
use Rattle.layout_solver.specs.Starts.{IsMoved}
use Rattle.layout_solver.proofs.Changes.{marked_moved, marked_stay, marked_values, marked_whole, refused_before, refused_same, refused_solved, refused_stop, refused_values}
use Rattle.layout_solver.proofs.engine.Engine.value_with.Goals as goal

pub tried-result-requires-clause-values : goal.tried-result-requires-clause-values
tried-result-requires-clause-values g c =
    marked_values c.self.inside.corner c.mark.new.self c.self.inside.values.0 c.self.inside.earlier c.args.self.now
    (record { solved = c.self.invariant; view = c.self.view_is; scene = c.mark.ensures.scene; before = c.mark.ensures.before; room = c.requires.room })

pub tried-result-requires-clause-whole : goal.tried-result-requires-clause-whole
tried-result-requires-clause-whole g c =
    marked_whole c.self.inside.corner c.mark.new.self c.self.inside.values.0 c.self.inside.earlier c.args.self.now
    (record { solved = c.self.invariant; view = c.self.view_is; scene = c.mark.ensures.scene; before = c.mark.ensures.before; room = c.requires.room }) [] c.args.rows.now c.requires.whole

pub tried-result-requires-clause-attr : goal.tried-result-requires-clause-attr
tried-result-requires-clause-attr g c =
    marked_stay c.self.inside.corner c.mark.new.self c.self.inside.values.0 c.self.inside.earlier c.args.self.now
    (record { solved = c.self.invariant; view = c.self.view_is; scene = c.mark.ensures.scene; before = c.mark.ensures.before; room = c.requires.room }) c.args.attr c.requires.attr

pub invariant_of-self-inside : goal.invariant_of-self-inside
invariant_of-self-inside g c = (
  refused_values c.self.inside.corner c.mark.new.self c.self.inside.values.0 c.self.inside.earlier c.args.self.now
      (record { solved = c.self.invariant; view = c.self.view_is; scene = c.mark.ensures.scene; before = c.mark.ensures.before; room = c.requires.room }) c.tried-result.new.c c.back.new.self c.tried-result.ensures.before c.back.ensures.scene,
  (
    refused_before c.self.inside.corner c.mark.new.self c.self.inside.values.0 c.self.inside.earlier c.args.self.now
        (record { solved = c.self.invariant; view = c.self.view_is; scene = c.mark.ensures.scene; before = c.mark.ensures.before; room = c.requires.room }) c.tried-result.new.c c.back.new.self c.tried-result.ensures.before c.back.ensures.scene,
    tt,
  ),
)

pub invariant_of-self : goal.invariant_of-self
invariant_of-self g c =
    refused_solved c.self.inside.corner c.mark.new.self c.self.inside.values.0 c.self.inside.earlier c.args.self.now
    (record { solved = c.self.invariant; view = c.self.view_is; scene = c.mark.ensures.scene; before = c.mark.ensures.before; room = c.requires.room }) c.tried-result.new.c c.back.new.self c.tried-result.ensures.before c.back.ensures.scene
    _ _ (search rules) c.back.ensures.candidates

pub returns-clause-value : goal.returns-clause-value
returns-clause-value g c =
    IfOk-weaker c.tried-result.result
    (λ f. (p : Problem) → IsMoved c.mark.new.self [] (c.mark.new.self.problem.rows ++ c.args.rows.now) p → IsBestValue p c.args.attr f)
    (IsBestValue (with_added c.args.self.now [] c.args.rows.now) c.args.attr)
    (λ f h. h (with_added c.args.self.now [] c.args.rows.now) (marked_moved c.self.inside.corner c.mark.new.self c.self.inside.values.0 c.self.inside.earlier c.args.self.now
    (record { solved = c.self.invariant; view = c.self.view_is; scene = c.mark.ensures.scene; before = c.mark.ensures.before; room = c.requires.room }) [] c.args.rows.now))
    c.tried-result.ensures.value

pub returns-clause-stop : goal.returns-clause-stop
returns-clause-stop g c =
    IfErr-weaker c.tried-result.result
    (λ stop. (p : Problem) → IsMoved c.mark.new.self [] (c.mark.new.self.problem.rows ++ c.args.rows.now) p
    → IsStopOf false p c.mark.new.self.problem.rows (FromAdded p c.mark.new.self.marks c.args.rows.now) c.args.budget stop)
    (IsStopOf false (with_added c.args.self.now [] c.args.rows.now) c.args.self.now.problem.rows (FromAdded (with_added c.args.self.now [] c.args.rows.now) c.args.self.now.corner c.args.rows.now) c.args.budget)
    (λ stop h. refused_stop c.self.inside.corner c.mark.new.self c.self.inside.values.0 c.self.inside.earlier c.args.self.now
    (record { solved = c.self.invariant; view = c.self.view_is; scene = c.mark.ensures.scene; before = c.mark.ensures.before; room = c.requires.room }) [] c.args.rows.now c.args.budget stop h)
    c.tried-result.ensures.stop

pub returns-clause-same : goal.returns-clause-same
returns-clause-same g c =
    refused_same c.self.inside.corner c.mark.new.self c.self.inside.values.0 c.self.inside.earlier c.args.self.now
    (record { solved = c.self.invariant; view = c.self.view_is; scene = c.mark.ensures.scene; before = c.mark.ensures.before; room = c.requires.room }) c.tried-result.new.c c.back.new.self c.tried-result.ensures.before c.back.ensures.scene
    _ _ (search rules)
