use Rattle.std.proofs.Common.{◌∙◌, refl}
use Rattle.std.proofs.lemmas.Result.{err_from_is_err_and}
use Rattle.layout_solver.proofs.Removals.LeftEnds.{gone_first, next_held}
use Rattle.layout_solver.proofs.removing.drop_rows.Goals as goal

pub loop-gone-init : goal.loop-gone-init
loop-gone-init g c = record { before = refl; gone = gone_first c.args.c.now c.requires.values c.requires.standing }

pub free_next-requires-clause-held : goal.free_next-requires-clause-held
free_next-requires-clause-held g c = next_held c.args.c.now.problem c.args.rows.now c.loop-gone.gone c.loop-gone.c.problem c.loop-gone.invariant.gone.problem c.requires.apart c.requires.held c.loop-gone-test.true

pub loop-gone-preserved : goal.loop-gone-preserved
loop-gone-preserved g c = record {
  before = c.drop_next.ensures.before ∙ c.free_next.ensures.before ∙ c.loop-gone.invariant.before;
  gone = c.in_ok-drop_next.ensures.gone c.args.c.now.problem c.args.c.now.marks
      (c.in_ok-free_next.ensures.freed c.args.c.now.problem c.args.c.now.marks c.show_corner.ensures.kept c.requires.apart c.loop-gone.invariant.gone);
}

pub returns-in_err-drop_next-clause-stop : goal.returns-in_err-drop_next-clause-stop
returns-in_err-drop_next-clause-stop g c =
    let p = err_from_is_err_and c.from_residual-in_err-drop_next.result c.from_residual-in_err-drop_next.ensures.1 in
    rw (p.1, p.2) (c.in_err-drop_next.ensures.stop c.args.c.now.problem c.args.c.now.marks
    (c.in_ok-free_next.ensures.freed c.args.c.now.problem c.args.c.now.marks c.show_corner.ensures.kept c.requires.apart c.loop-gone.invariant.gone))
