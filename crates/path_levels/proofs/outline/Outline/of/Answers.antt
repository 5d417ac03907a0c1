use Rattle.std.proofs.Common.{List, length, ap, subst}
use Rattle.problem_core.specs.Layout.{Row}
use Rattle.path_lines.specs.Tables.{line_count}
use Rattle.path_levels.specs.declared.outline.LevelFacts.{LevelFacts}
use Rattle.path_levels.specs.OutlineParts.{AreFactsTo}
use Rattle.path_levels.proofs.OutlineParts.{is_outline, sized_outline}
use Rattle.path_levels.proofs.outline.Outline.of.Goals as goal

facts_here : (c : goal.After-rows-rows) → AreFactsTo c.args.p.now c.in_ok-levels.levels.items (line_count c.args.p.now) c.in_ok-lines.lines.items
facts_here c = subst (λ (ls : List LevelFacts). AreFactsTo c.args.p.now ls (line_count c.args.p.now) c.in_ok-lines.lines.items) c.deref.ensures.value c.in_ok-lines.ensures

pub returns-clause-outline : goal.returns-clause-outline
returns-clause-outline c =
    is_outline c.args.p.now (length c.in_ok-ranks.ranks.items) (record { lines = c.in_ok-lines.lines; levels = c.in_ok-levels.levels; rows = length c.rows-rows.result.now })
    c.in_ok-levels.ensures (facts_here c) (ap (λ (rs : List Row). length rs) c.rows-rows.ensures)

pub returns-clause-sized : goal.returns-clause-sized
returns-clause-sized c = sized_outline c.args.p.now c.in_ok-levels.levels.items c.in_ok-lines.lines.items c.show_whole.ensures (facts_here c)
