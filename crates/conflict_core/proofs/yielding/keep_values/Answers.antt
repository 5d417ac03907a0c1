use Rattle.std.proofs.Common.{sym, subst}
use Rattle.conflict_core.specs.Cores.{trial, without}
use Rattle.conflict_core.specs.Shown.{IsSolution}
use Rattle.conflict_core.proofs.GivingWay.{gives_solution, way_held}
use Rattle.conflict_core.proofs.Narrowing.{kept}
use Rattle.conflict_core.proofs.yielding.keep_values.Goals as goal

pub values_of-requires-clause-held : goal.values_of-requires-clause-held
values_of-requires-clause-held g c =
    way_held c.args.t.now.problem.now c.args.s.now.rows.items c.args.to.now c.args.e.now c.requires.way c.args.t.now.numbers.now c.requires.trials.numbers

pub returns-clause-search : goal.returns-clause-search
returns-clause-search g c =
    let solution : IsSolution (trial c.args.t.now.problem.now (without c.args.to.now.row c.args.s.now.rows.items)) c.in_ok-values.values =
    subst (IsSolution (trial c.args.t.now.problem.now (without c.args.to.now.row c.args.s.now.rows.items))) (sym c.in_ok-values.ensures)
    (gives_solution c.args.t.now.problem.now c.args.s.now.rows.items c.args.to.now c.args.e.now c.requires.way c.args.t.now.numbers.now c.requires.trials.numbers
    c.show_layout.ensures.best c.show_layout.ensures.kept) in
    (kept c.args.t.now.problem.now c.args.s.now.rows.items c.args.s.now.by c.args.s.now.without.items c.push.new.self.items c.args.to.now.row c.in_ok-values.values
    c.in_ok-push.ensures.items c.requires.search c.requires.next solution).0
