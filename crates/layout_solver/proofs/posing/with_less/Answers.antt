use Rattle.std.proofs.Common.{subst, sym}
use Rattle.problem_core.specs.Kept.{IsWhole}
use Rattle.layout_solver.specs.Removals.{stood}
use Rattle.layout_solver.proofs.Posed.Left.{without-is}
use Rattle.layout_solver.proofs.Posed.Wholes.{removed_whole}
use Rattle.layout_solver.proofs.posing.with_less.Goals as goal

pub of-requires : goal.of-requires
of-requires g c =
    rw (c.in_ok-rows.ensures, c.rows.ensures, c.in_ok-left.ensures, c.deref.ensures.value, c.in_ok-stays.ensures)
    (subst IsWhole (without-is (record { rows = c.args.rows.now; attrs = c.args.attrs.now }) (stood c.args.engine.now))
    (removed_whole c.args.engine.now c.show_layout.ensures.layout (record { rows = c.args.rows.now; attrs = c.args.attrs.now }) c.requires))

pub returns : goal.returns
returns g c =
    rw (c.of.ensures, c.in_ok-rows.ensures, c.rows.ensures, c.in_ok-left.ensures, c.deref.ensures.value, c.in_ok-stays.ensures)
    (sym (without-is (record { rows = c.args.rows.now; attrs = c.args.attrs.now }) (stood c.args.engine.now)))
