use Rattle.std.proofs.Common.{◌∙◌}
use Rattle.conflict_core.proofs.TrialAdds.{added_whole, has_room}
use Rattle.conflict_core.proofs.trials.add_rows.Goals as goal

pub solve-requires-clause-room : goal.solve-requires-clause-room
solve-requires-clause-room g c = has_room c.args.e.now c.requires.nothing

pub solve-requires-clause-can : goal.solve-requires-clause-can
solve-requires-clause-can g c =
    added_whole c.args.t.now.problem.now c.args.ids.now c.args.e.now c.in_ok-attrs.attrs.items c.in_ok-rows.rows.items c.requires.nothing
    (c.in_ok-attrs.ensures ∙ c.requires.trials.attrs) c.in_ok-rows.ensures c.show_whole.ensures
