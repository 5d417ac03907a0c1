use Rattle.std.proofs.Common.{refl, rules}
use Rattle.layout_solver.proofs.Changes.{changed_before, changed_earlier, changed_solved, refused_before, refused_same, refused_solved, refused_values, some_values}
use Rattle.layout_solver.proofs.engine.Engine.solve.Goals as goal

pub invariant_of-self-inside : goal.invariant_of-self-inside
invariant_of-self-inside g c = (
  some_values c.go-result.new.c c.show_corner.ensures.kept,
  (
    changed_before c.self.inside.corner c.mark.new.self c.self.inside.values.0 c.self.inside.earlier c.args.self.now
        (record { solved = c.self.invariant; view = c.self.view_is; scene = c.mark.ensures.scene; before = c.mark.ensures.before; room = c.requires.room }) c.go-result.new.c c.in-Ok.ensures.before,
    tt,
  ),
)

pub invariant_of-self : goal.invariant_of-self
invariant_of-self g c =
    changed_solved c.self.inside.corner c.mark.new.self c.self.inside.values.0 c.self.inside.earlier c.args.self.now
    (record { solved = c.self.invariant; view = c.self.view_is; scene = c.mark.ensures.scene; before = c.mark.ensures.before; room = c.requires.room }) c.go-result.new.c c.in-Ok.ensures.before _ _
    c.in-Ok.ensures.end.end c.in-Ok.ensures.end.listed c.show_corner.ensures.kept (search rules)

pub invariant_of-self-inside-in-Err : goal.invariant_of-self-inside-in-Err
invariant_of-self-inside-in-Err g c = (
  refused_values c.self.inside.corner c.mark.new.self c.self.inside.values.0 c.self.inside.earlier c.args.self.now
      (record { solved = c.self.invariant; view = c.self.view_is; scene = c.mark.ensures.scene; before = c.mark.ensures.before; room = c.requires.room }) c.go-result.new.c c.back.new.self c.in-Err.ensures.before c.back.ensures.scene,
  (
    refused_before c.self.inside.corner c.mark.new.self c.self.inside.values.0 c.self.inside.earlier c.args.self.now
        (record { solved = c.self.invariant; view = c.self.view_is; scene = c.mark.ensures.scene; before = c.mark.ensures.before; room = c.requires.room }) c.go-result.new.c c.back.new.self c.in-Err.ensures.before c.back.ensures.scene,
    tt,
  ),
)

pub invariant_of-self-in-Err : goal.invariant_of-self-in-Err
invariant_of-self-in-Err g c =
    refused_solved c.self.inside.corner c.mark.new.self c.self.inside.values.0 c.self.inside.earlier c.args.self.now
    (record { solved = c.self.invariant; view = c.self.view_is; scene = c.mark.ensures.scene; before = c.mark.ensures.before; room = c.requires.room }) c.go-result.new.c c.back.new.self c.in-Err.ensures.before c.back.ensures.scene
    _ _ (search rules) c.back.ensures.candidates

pub returns-in-Ok-clause-problem : goal.returns-in-Ok-clause-problem
returns-in-Ok-clause-problem g c =
    c.in-Ok.ensures.problem c.args.self.now
    (record { from = c.self.inside.corner; values = c.self.inside.values.0; past = c.self.inside.earlier; is = record { solved = c.self.invariant; view = c.self.view_is; scene = c.mark.ensures.scene; before = c.mark.ensures.before; room = c.requires.room }; listed = c.mark.ensures.candidates })

pub returns-in-Ok-clause-solved : goal.returns-in-Ok-clause-solved
returns-in-Ok-clause-solved g c =
    c.in-Ok.ensures.solved c.args.self.now _
    (record { from = c.self.inside.corner; values = c.self.inside.values.0; past = c.self.inside.earlier; is = record { solved = c.self.invariant; view = c.self.view_is; scene = c.mark.ensures.scene; before = c.mark.ensures.before; room = c.requires.room }; listed = c.mark.ensures.candidates })
    (record { kept = c.show_corner.ensures.kept; problem = refl; values = (search rules); corner = refl })

pub returns-in-Ok-clause-earlier : goal.returns-in-Ok-clause-earlier
returns-in-Ok-clause-earlier g c =
    changed_earlier c.self.inside.corner c.mark.new.self c.self.inside.values.0 c.self.inside.earlier c.args.self.now
    (record { solved = c.self.invariant; view = c.self.view_is; scene = c.mark.ensures.scene; before = c.mark.ensures.before; room = c.requires.room }) c.go-result.new.c c.in-Ok.ensures.before _

pub returns-in-Err-clause-stop : goal.returns-in-Err-clause-stop
returns-in-Err-clause-stop g c =
    c.in-Err.ensures.stop c.args.self.now
    (record { from = c.self.inside.corner; values = c.self.inside.values.0; past = c.self.inside.earlier; is = record { solved = c.self.invariant; view = c.self.view_is; scene = c.mark.ensures.scene; before = c.mark.ensures.before; room = c.requires.room }; listed = c.mark.ensures.candidates })

pub returns-in-Err-clause-same : goal.returns-in-Err-clause-same
returns-in-Err-clause-same g c =
    refused_same c.self.inside.corner c.mark.new.self c.self.inside.values.0 c.self.inside.earlier c.args.self.now
    (record { solved = c.self.invariant; view = c.self.view_is; scene = c.mark.ensures.scene; before = c.mark.ensures.before; room = c.requires.room }) c.go-result.new.c c.back.new.self c.in-Err.ensures.before c.back.ensures.scene
    _ _ (search rules)
