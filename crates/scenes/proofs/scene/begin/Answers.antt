use Rattle.std.proofs.Common.{◌∙◌, ◌<◌, ap, length, lit<, subst, sym, arith}
use Rattle.version_lists.specs.declared.versions.TheConstants.{VERSION_LIMIT}
use Rattle.layout_solver.specs.Layouts.{Layout, Solution}
use Rattle.scenes.proofs.First.{first-forgotten}
use Rattle.scenes.proofs.Engines.Additions.{first-can, first-posed}
use Rattle.scenes.proofs.scene.begin.Goals as goal

pub solve-requires : goal.solve-requires
solve-requires g c = record {
  room = subst (λ (l : Layout). length l.earlier < VERSION_LIMIT) (sym c.requires.new) (lit< tt);
  can = first-can c.args.engine.now c.args.request.now c.requires.new c.requires.first;
}

pub forget-requires : goal.forget-requires
forget-requires g c = rw c.in-Ok.ensures.earlier (omega arith)

pub returns-clause-problem : goal.returns-clause-problem
returns-clause-problem g c =
    ap (λ (s : Solution). s.problem) c.forget.ensures.solution ∙ c.in-Ok.ensures.problem
    ∙ first-posed c.args.engine.now c.args.request.now c.requires.new c.requires.first

pub returns-clause-earlier : goal.returns-clause-earlier
returns-clause-earlier g c =
    first-forgotten c.args.engine.now c.solve.new.self.earlier c.forget.new.self.earlier (ap (λ (l : Layout). l.earlier) c.requires.new) c.in-Ok.ensures.earlier c.forget.ensures.earlier
