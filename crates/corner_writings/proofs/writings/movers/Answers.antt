use Rattle.std.proofs.Common.{rules, ◌≡◌, ◌∙◌, ap, refl, subst, sym, None, map, [], ◌∷◌}
use Rattle.problem_core.specs.declared.stops.What.TheVariants.{Mark as MarkOf}
use Rattle.corner_laws.specs.Runs.{other_side}
use Rattle.corner_table.specs.Tables.{AreMoved, lists_of, problem_of, standing_at}
use Rattle.corner_writings.proofs.Readings.MovedFacts.{moved_are, some_side, thing, turned_are}
use Rattle.corner_view.proofs.Facts.{mark_named}
use Rattle.corner_writings.proofs.writings.movers.Goals as goal
use Rattle.frac_core.proofs.Lists.{length-mapped as map_length}

pub line_slot-line-requires-clause-row : goal.line_slot-line-requires-clause-row
line_slot-line-requires-clause-row c = mark_named (problem_of (lists_of c.args.table.now)) c.args.mark c.requires.outside.0

pub returns-then-is_some : goal.returns-then-is_some
returns-then-is_some c =
    let s = some_side c.side_at.result (sym c.is_some.ensures ∙ c.if-is_some.true) in (
      MarkOf (record { row = c.args.mark.row; side = other_side c.args.mark.side }) ∷ [],
      turned_are (lists_of c.args.table.now) c.args.mark s.0 c.requires.kept c.requires.outside
          (ap (λ w. (standing_at (lists_of c.args.table.now) w).side) (sym c.line_slot-line.ensures.value) ∙ sym c.side_at.ensures ∙ s.1),
      refl,
    )

pub returns : goal.returns
returns c =
    let none : c.side_at.result ≡ None = search rules in (
      map (thing (lists_of c.args.table.now)) c.moved.result.now,
      moved_are (lists_of c.args.table.now) c.args.mark c.moved.result.now c.requires.kept c.requires.outside
          (ap (λ w. (standing_at (lists_of c.args.table.now) w).side) (sym c.line_slot-line.ensures.value) ∙ sym c.side_at.ensures ∙ none)
          (subst (λ n. AreMoved (lists_of c.args.table.now) n c.moved.result.now) c.line_slot-line.ensures.value c.moved.ensures.moved) c.moved.ensures.slots,
      map_length (thing (lists_of c.args.table.now)) c.moved.result.now,
    )
