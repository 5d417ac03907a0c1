use Rattle.std.proofs.Common.{sym, subst}
use Rattle.std.proofs.lemmas.Result.{err_from_is_err_and}
use Rattle.constraint_compile.specs.Naming.{AreSameBut}
use Rattle.layout_solver.specs.Shifts.{AreKept}
use Rattle.held_items.specs.Kept.{items_of}
use Rattle.scenes.specs.Scene.{History}
use Rattle.scenes.proofs.MetricChanges.{changes-far, changes-lack, changes-made}
use Rattle.scenes.proofs.scene.Scene.changes_for.Goals as goal

pub returns-in_err-constants-clause-stop : goal.returns-in_err-constants-clause-stop
returns-in_err-constants-clause-stop g c =
    let exit = err_from_is_err_and c.from_residual.result c.from_residual.ensures.1 in
    rw (exit.1, exit.2)
    (rw (← c.self.view_is)
    (changes-lack c.self.inside.tree c.self.inside.metrics (items_of c.self.inside.items.items) c.self.inside.setting c.self.inside.engine c.args.name.now c.args.metrics.now c.in_err-constants.field-0.0 (rw c.as_slice.ensures at c.in_err-constants.ensures.stop)))

pub returns-in-Some-clause-changes : goal.returns-in-Some-clause-changes
returns-in-Some-clause-changes g c =
    let same : AreSameBut c.args.name.now c.self.inside.metrics c.args.metrics.now = subst (λ (h : History). AreSameBut c.args.name.now h.scene.metrics c.args.metrics.now) (sym c.self.view_is) c.requires in
    let own = rw c.as_slice.ensures at c.in_ok-constants.ensures.constants in
    let moves = rw (c.in-Some.is, c.rows.ensures, c.deref.ensures.value) at c.in_ok-to.ensures.some in
    let kept : AreKept c.in-Some.to.items = rw c.in-Some.is at c.in_ok-to.ensures.kept in
    rw (← c.self.view_is)
    (changes-made c.self.inside.tree c.self.inside.metrics (items_of c.self.inside.items.items) c.self.inside.setting c.self.inside.engine c.args.name.now c.args.metrics.now same c.self.invariant.0.scene.are_rows c.show_layout.ensures.whole c.in_ok-constants.constants.items own c.in-Some.to.items moves kept)

pub returns-clause-stop : goal.returns-clause-stop
returns-clause-stop g c =
    let same : AreSameBut c.args.name.now c.self.inside.metrics c.args.metrics.now = subst (λ (h : History). AreSameBut c.args.name.now h.scene.metrics c.args.metrics.now) (sym c.self.view_is) c.requires in
    let own = rw c.as_slice.ensures at c.in_ok-constants.ensures.constants in
    let far = rw (c.in-None.is, c.rows.ensures, c.deref.ensures.value) at c.in_ok-to.ensures.none in
    rw (← c.self.view_is)
    (changes-far c.self.inside.tree c.self.inside.metrics (items_of c.self.inside.items.items) c.self.inside.setting c.self.inside.engine c.args.name.now c.args.metrics.now same c.self.invariant.0.scene.are_rows c.show_layout.ensures.whole c.in_ok-constants.constants.items own (record {}) far)
