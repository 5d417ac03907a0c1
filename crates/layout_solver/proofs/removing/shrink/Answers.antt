use Rattle.std.proofs.lemmas.Result.{IfErr-weaker, IfOk-weaker}
use Rattle.layout_solver.proofs.Removals.LeftChanges.{stood_leave, stood_left, stood_removed, stood_satisfied, stood_stands, stood_stop, stood_up}
use Rattle.layout_solver.proofs.removing.shrink.Goals as goal

pub take_out-requires-clause-leave : goal.take_out-requires-clause-leave
take_out-requires-clause-leave g c =
    stood_leave c.args.c.now c.stand.new.self c.show_corner.ensures.kept.corner c.in_ok-stand.ensures.stood c.show_corner-2.ensures.kept.whole c.in_ok-stand.ensures.marks (record { rows = c.args.rows.now; attrs = c.args.attrs.now }) c.requires.leave

pub take_out-requires-clause-values : goal.take_out-requires-clause-values
take_out-requires-clause-values g c =
    stood_up c.args.c.now c.stand.new.self c.show_corner.ensures.kept.corner c.in_ok-stand.ensures.stood c.show_corner-2.ensures.kept.whole c.in_ok-stand.ensures.marks c.show_corner.ensures.kept c.requires.values

pub take_out-requires-clause-standing : goal.take_out-requires-clause-standing
take_out-requires-clause-standing g c =
    stood_stands c.args.c.now c.stand.new.self c.show_corner.ensures.kept.corner c.in_ok-stand.ensures.stood c.show_corner-2.ensures.kept.whole c.in_ok-stand.ensures.marks c.show_corner.ensures.kept

pub take_out-requires-clause-satisfied : goal.take_out-requires-clause-satisfied
take_out-requires-clause-satisfied g c = (
  c.requires.satisfied.0,
  stood_satisfied c.args.c.now c.stand.new.self c.show_corner.ensures.kept.corner c.in_ok-stand.ensures.stood c.show_corner-2.ensures.kept.whole c.in_ok-stand.ensures.marks c.requires.satisfied.0 c.requires.satisfied.1,
)

pub returns-clause-problem : goal.returns-clause-problem
returns-clause-problem g c =
    IfOk-weaker c.take_out.result _ _
    (λ _ e p m. stood_left c.args.c.now c.stand.new.self c.show_corner.ensures.kept.corner c.in_ok-stand.ensures.stood c.show_corner-2.ensures.kept.whole c.in_ok-stand.ensures.marks (record { rows = c.args.rows.now; attrs = c.args.attrs.now }) c.take_out.new.c.problem p e m)
    c.take_out.ensures.problem

pub returns-clause-path : goal.returns-clause-path
returns-clause-path g c =
    IfOk-weaker c.take_out.result _ _
    (λ _ h p m. stood_removed c.args.c.now c.stand.new.self c.show_corner.ensures.kept.corner c.in_ok-stand.ensures.stood c.show_corner-2.ensures.kept.whole c.in_ok-stand.ensures.marks (record { rows = c.args.rows.now; attrs = c.args.attrs.now }) c.args.budget c.take_out.new.c.marks p h m)
    c.take_out.ensures.path

pub returns-clause-stop : goal.returns-clause-stop
returns-clause-stop g c =
    IfErr-weaker c.take_out.result _ _
    (λ stop h p m. stood_stop c.args.c.now c.stand.new.self c.show_corner.ensures.kept.corner c.in_ok-stand.ensures.stood c.show_corner-2.ensures.kept.whole c.in_ok-stand.ensures.marks (record { rows = c.args.rows.now; attrs = c.args.attrs.now }) c.args.budget stop p h m)
    c.take_out.ensures.stop
