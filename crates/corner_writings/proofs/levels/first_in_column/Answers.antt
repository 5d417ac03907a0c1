use Rattle.std.proofs.Common.{◌+◌, subst, sym, inl, inr}
use Rattle.corner_table.specs.Tables.{lists_of}
use Rattle.corner_writings.proofs.LevelFacts.ColumnFronts.{IsBestSoFar, best_is_first, best_next, best_stays, ends_first, none_is_none}
use Rattle.corner_writings.proofs.levels.first_in_column.Goals.{then-is_before+in-Some+else-ends_column, then-is_before+in_default, else-is_before}
use Rattle.corner_writings.proofs.levels.first_in_column.Goals as goal

pub returns-then-ends_column-clause-some : goal.returns-then-ends_column-clause-some
returns-then-ends_column-clause-some c =
    ends_first (lists_of c.args.table.now) c.args.line c.args.side c.column-l-items.result.now c.loop-l.l-index c.loop-l.first c.in-Some.found c.requires.kept c.column-l-items.ensures.value.rising c.loop-l-test.true
    (λ m nonzero. (c.column-l-items.ensures.value.exact m).1 nonzero) c.loop-l.invariant (c.is_before.ensures.yes c.if-is_before.true) (c.ends_column.ensures.yes c.if-ends_column.true) c.in-Some.ensures.slot c.in-Some.ensures.some

pub loop-l-preserved : goal.loop-l-preserved
loop-l-preserved c = elim c.if-is_before.branch [
  | then-is_before+in-Some+else-ends_column w ↦
      subst (IsBestSoFar (lists_of c.args.table.now) c.args.line c.args.side c.column-l-items.result.now (c.loop-l.l-index + 1)) (sym w.first-is)
      (best_next (lists_of c.args.table.now) c.args.line c.args.side c.column-l-items.result.now c.loop-l.l-index c.loop-l.first w.in-Some.found c.loop-l.invariant
      (c.is_before.ensures.yes w.if-is_before.true) w.in-Some.ensures.slot (w.ends_column.ensures.no w.if-ends_column.false) w.in-Some.ensures.some)
  | then-is_before+in_default w ↦
      subst (IsBestSoFar (lists_of c.args.table.now) c.args.line c.args.side c.column-l-items.result.now (c.loop-l.l-index + 1)) (sym w.first-is)
      (best_stays (lists_of c.args.table.now) c.args.line c.args.side c.column-l-items.result.now c.loop-l.l-index c.loop-l.first c.loop-l.invariant (inr w.in_default.ensures.none))
  | else-is_before w ↦
      subst (IsBestSoFar (lists_of c.args.table.now) c.args.line c.args.side c.column-l-items.result.now (c.loop-l.l-index + 1)) (sym w.first-is)
      (best_stays (lists_of c.args.table.now) c.args.line c.args.side c.column-l-items.result.now c.loop-l.l-index c.loop-l.first c.loop-l.invariant (inl (c.is_before.ensures.no w.if-is_before.false)))
]

pub returns-clause-some : goal.returns-clause-some
returns-clause-some c =
    best_is_first (lists_of c.args.table.now) c.args.line c.args.side c.column-l-items.result.now c.loop-l.l-index c.loop-l.first (λ m nonzero. (c.column-l-items.ensures.value.exact m).1 nonzero) c.loop-l-test.false c.loop-l.invariant

pub returns-clause-none : goal.returns-clause-none
returns-clause-none c =
    none_is_none (lists_of c.args.table.now) c.args.line c.args.side c.column-l-items.result.now c.loop-l.l-index c.loop-l.first (λ m nonzero. (c.column-l-items.ensures.value.exact m).1 nonzero) c.loop-l-test.false c.loop-l.invariant
