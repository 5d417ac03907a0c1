use Rattle.std.proofs.Common.{List, take, IfSome}
use Rattle.problem_core.specs.declared.parts.RowName.{RowName}
use Rattle.problem_core.specs.declared.parts.Side.{Side}
use Rattle.corner_view.specs.Entries.{AreEntries}
use Rattle.primal_run.specs.Deciding.{HasBegun, IsDecider, IsNoLater, IsSeen}
use Rattle.primal_run.proofs.Deciders.{AreSeenLines}
use Rattle.primal_run.proofs.deciding.see_row.Given as goal

abbrev pub invariant-loop-i : goal.invariant-loop-i
invariant-loop-i g l = record {
  decider : IfSome l.best (IsDecider l.c.problem l.c.marks l.tie);
  begun : HasBegun l.c l.trail l.best;
  later : IsNoLater l.c.problem l.fn.found l.best;
  own : (side : Side) → IsSeen l.c l.trail l.tie l.best (record { row = l.m.row; side = side });
  entries : (names : List RowName) → AreEntries l.c l.m names → AreSeenLines l.c l.trail l.tie l.best (take l.i names);
}
