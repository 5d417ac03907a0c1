use Rattle.std.proofs.Common.{◌↔◌, ◌<◌, IsTrue, length, false, refl, sym, subst, arith, Some, None, get_or}
use Rattle.path_lines.specs.Tables.{IsLineAt, line_count, name_at}
use Rattle.path_lines.proofs.Iffs.{never}
use Rattle.path_levels.specs.declared.outline.LineFacts.{LineFacts}
use Rattle.path_levels.specs.declared.sums.LevelSum.{LevelSum}
use Rattle.path_levels.specs.Costs.{IsNegativeFirst, cost_in}
use Rattle.path_levels.proofs.Judging.LineCosts.{inside_decided, outside_decided}
use Rattle.path_levels.proofs.columns.is_negative_column.Goals as goal

pub returns-in-Some : goal.returns-in-Some
returns-in-Some c = λ p at kept sums.
    let within : c.args.spot.at < line_count p = let h = kept.lines_are.count in omega (arith, c.requires.spot, h) in
    let line : IsLineAt p at (name_at p c.args.spot.at) c.index-lines-spot.result = subst (IsLineAt p at (name_at p c.args.spot.at)) (sym c.index-lines-spot.is) (kept.lines_are.each c.args.spot.at c.index-lines-spot.result within) in
    let inside : IsLineAt p at (name_at p c.args.spot.at) (Some c.in-Some.field-0) = subst (IsLineAt p at (name_at p c.args.spot.at)) c.in-Some.is line in
    never false refl (inside_decided p at c.args.spot.at c.args.spot.side c.in-Some.field-0.side kept.there within inside.0)

pub returns-in-None : goal.returns-in-None
returns-in-None c = λ p at kept sums.
    let within : c.args.spot.at < line_count p = let h = kept.lines_are.count in omega (arith, c.requires.spot, h) in
    let line : IsLineAt p at (name_at p c.args.spot.at) c.index-lines-spot.result = subst (IsLineAt p at (name_at p c.args.spot.at)) (sym c.index-lines-spot.is) (kept.lines_are.each c.args.spot.at c.index-lines-spot.result within) in
    let outside : IsLineAt p at (name_at p c.args.spot.at) None = subst (IsLineAt p at (name_at p c.args.spot.at)) c.in-None.is line in
    outside_decided c.is_negative_first.result p at c.args.tableau.corner.outline.now c.args.tableau.corner.lines.now c.args.tableau.levels.now c.index.result.now c.args.spot.at c.args.spot.side kept sums within outside c.is_negative_first.ensures.none
    (subst (λ (f : LineFacts). (d : LevelSum) → IsTrue c.is_negative_first.result ↔ IsNegativeFirst (length c.args.tableau.levels.now) (λ k. cost_in c.args.spot.side f c.args.spot.at k (get_or c.args.tableau.levels.now k d))) c.index.ensures c.is_negative_first.ensures.first)
