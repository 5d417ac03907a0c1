use Rattle.std.proofs.Common.{◌≡◌, ◌∙◌, ◌∷◌}
use Rattle.frac_core.proofs.Lists.{ok-both}
use Rattle.layout_solver.specs.Layouts.{solution_of, with_added}
use Rattle.conflict_core.specs.Yielding.{GivesWay}
use Rattle.conflict_core.proofs.GivingWay.{begun_way, begun_whole}
use Rattle.conflict_core.proofs.TrialAdds.{has_room}
use Rattle.conflict_core.proofs.yielding.begin.Goals as goal

pub solve-requires-clause-room : goal.solve-requires-clause-room
solve-requires-clause-room g c = has_room c.args.e.now c.requires.nothing

pub solve-requires-clause-can : goal.solve-requires-clause-can
solve-requires-clause-can g c =
    begun_whole c.args.t.now.problem.now c.args.s.now.rows.items c.args.to.now c.args.e.now c.in_ok-attrs.attrs.items c.args.rows.items c.requires.nothing
    (c.in_ok-attrs.ensures ∙ c.requires.trials.attrs) c.requires.rows c.show_whole.ensures c.requires.kept

pub returns : goal.returns
returns g c =
    let p = c.args.t.now.problem.now in
    ok-both c.solve.result (λ _. c.solve.new.self.problem ≡ with_added c.args.e.now c.in_ok-attrs.attrs.items c.args.rows.items) (λ _. c.solve.new.self.earlier ≡ solution_of c.args.e.now ∷ c.args.e.now.earlier)
    (λ _. GivesWay p c.args.s.now.rows.items c.args.to.now c.solve.new.self)
    (λ _ is before.
    begun_way p c.args.s.now.rows.items c.args.to.now c.args.e.now c.in_ok-attrs.attrs.items c.args.rows.items c.requires.nothing (c.in_ok-attrs.ensures ∙ c.requires.trials.attrs) c.requires.rows c.solve.new.self is before)
    c.solve.ensures.problem c.solve.ensures.earlier
