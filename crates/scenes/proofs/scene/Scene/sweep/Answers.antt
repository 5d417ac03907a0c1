use Rattle.std.proofs.Common.{◌≡◌, ◌∙◌, true, None, refl, sym, subst, true≢false}
use Rattle.std.proofs.lemmas.Result.{IfErr-weaker, IfOk-weaker, err_from_is_err_and}
use Rattle.std.specs.Prelude.{Vec}
use Rattle.std.specs.declared.alloc.Global.{Global}
use Rattle.problem_core.specs.Layout.{Problem}
use Rattle.layout_solver.specs.Layouts.{stays_at}
use Rattle.held_items.specs.Items.{has_size, size_of}
use Rattle.held_items.specs.Kept.{items_of, size_in}
use Rattle.held_items.proofs.Constants.Resized.{none-held}
use Rattle.scenes.specs.Kept.{scene_at}
use Rattle.scenes.specs.Scene.{History}
use Rattle.scenes.specs.Sweeping.{AreSweptOf, IsFarSweep, IsSweepStopOf}
use Rattle.sweep_laws.specs.Stretches.{IsSweep}
use Rattle.sweep_param.specs.Sweeps.{HasSolution, IsSweepStop}
use Rattle.sweep_run.specs.Told.{stretches_of}
use Rattle.sweep_run.specs.declared.stretches.Stretch.{Stretch}
use Rattle.sweep_run.specs.declared.stretches.SweepStop.{SweepStop}
use Rattle.scenes.proofs.Swept.{MaySweep, may-sweep, values-satisfy}
use Rattle.scenes.proofs.scene.Scene.sweep.Goals as goal

pub unreachable-requires : goal.unreachable-requires
unreachable-requires g c =
    let sized : has_size (items_of c.self.inside.items.items) ≡ true = rw (← c.self.view_is) at c.requires.sized in
    let none : size_of (items_of c.self.inside.items.items) ≡ None = rw c.as_slice.ensures at c.in_default.ensures.none in
    true≢false (sym sized ∙ none-held (items_of c.self.inside.items.items) none)

pub returns-in_err-p-clause-stop : goal.returns-in_err-p-clause-stop
returns-in_err-p-clause-stop g c =
    let exit = err_from_is_err_and c.from_residual.result c.from_residual.ensures.1 in
    rw (exit.1, exit.2, ← c.self.view_is)
    (c.in-Some.held.first_row, (size_in c.in-Some.held, rw c.as_slice.ensures at c.in-Some.ensures.some, refl), tt)

pub sweep-requires : goal.sweep-requires
sweep-requires g c =
    let is : c.in_ok-p.p ≡ record { rows = c.self.inside.engine.problem.rows; stays = stays_at c.self.inside.engine.values } = rw (← c.self.view_is) at c.in_ok-p.ensures in
    let near : IsFarSweep (items_of c.self.inside.items.items) c.args.from c.args.to → ⊥ = subst (λ (h : History). IsFarSweep h.scene.held c.args.from c.args.to → ⊥) (sym c.self.view_is) c.requires.near in
    let may : MaySweep c.in_ok-p.p c.in-Some.held.first_row c.args.from c.args.to =
    subst (λ (p : Problem). MaySweep p c.in-Some.held.first_row c.args.from c.args.to) (sym is)
    (may-sweep c.self.inside.metrics (items_of c.self.inside.items.items) c.self.inside.engine.problem (stays_at c.self.inside.engine.values) c.args.from c.args.to (size_in c.in-Some.held)
    c.self.invariant.0.scene.are_rows (rw c.as_slice.ensures at c.in-Some.ensures.some) c.show_layout.ensures.whole c.den.ensures.kept.lowest.above c.den-2.ensures.kept.lowest.above near) in record {
      solvable = subst HasSolution (sym is) (values-satisfy c.self.inside.engine c.show_layout.ensures.layout);
      row = may.row_is;
      order = c.requires.order;
      near = (may.from_near, may.to_near);
      wide = may.wide;
    }

pub returns-clause-swept : goal.returns-clause-swept
returns-clause-swept g c =
    let is : c.in_ok-p.p ≡ record { rows = c.self.inside.engine.problem.rows; stays = stays_at c.self.inside.engine.values } = rw (← c.self.view_is) at c.in_ok-p.ensures in
    rw (← c.self.view_is)
    (IfOk-weaker c.sweep.result (λ (s : Vec Stretch Global). IsSweep c.in_ok-p.p c.in-Some.held.first_row c.args.from c.args.to (stretches_of s.items))
    (λ (s : Vec Stretch Global). AreSweptOf (scene_at c.self.inside.tree c.self.inside.metrics (items_of c.self.inside.items.items) c.self.inside.setting c.self.inside.engine) c.args.from c.args.to (stretches_of s.items))
    (λ s swept. (c.in-Some.held.first_row, (size_in c.in-Some.held, rw c.as_slice.ensures at c.in-Some.ensures.some, refl), subst (λ (p : Problem). IsSweep p c.in-Some.held.first_row c.args.from c.args.to (stretches_of s.items)) is swept))
    c.sweep.ensures.sweep)

pub returns-clause-stop : goal.returns-clause-stop
returns-clause-stop g c =
    let is : c.in_ok-p.p ≡ record { rows = c.self.inside.engine.problem.rows; stays = stays_at c.self.inside.engine.values } = rw (← c.self.view_is) at c.in_ok-p.ensures in
    rw (← c.self.view_is)
    (IfErr-weaker c.sweep.result (λ (s : SweepStop). IsSweepStop c.in_ok-p.p c.in-Some.held.first_row c.args.from c.args.to c.args.budget s)
    (λ (s : SweepStop). IsSweepStopOf (scene_at c.self.inside.tree c.self.inside.metrics (items_of c.self.inside.items.items) c.self.inside.setting c.self.inside.engine) c.args.from c.args.to c.args.budget s)
    (λ s stops. (c.in-Some.held.first_row, (size_in c.in-Some.held, rw c.as_slice.ensures at c.in-Some.ensures.some, refl), subst (λ (p : Problem). IsSweepStop p c.in-Some.held.first_row c.args.from c.args.to c.args.budget s) is stops))
    c.sweep.ensures.stop)
