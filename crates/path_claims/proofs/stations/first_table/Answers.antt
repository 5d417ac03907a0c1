use Rattle.std.proofs.Common.{◌∙◌, List, length, sym, ap, subst, Option}
use Rattle.path_lines.specs.declared.table.Inside.{Inside}
use Rattle.path_lines.specs.Tables.{AreSized}
use Rattle.path_levels.specs.Levels.{AreSizedLevels}
use Rattle.path_levels.specs.Rows.{AreKept}
use Rattle.path_claims.proofs.Beginning.FirstAttrs.{attrs_first}
use Rattle.path_claims.proofs.StationTables.{begins_kept, outline_long}
use Rattle.path_claims.proofs.stations.first_table.Goals as goal

pub begun_levels-requires-clause-kept : goal.begun_levels-requires-clause-kept
begun_levels-requires-clause-kept c =
    subst (AreKept c.args.p.now _ c.args.outline.now) (sym c.deref.ensures.value) (begins_kept c.args.p.now c.args.outline.now c.in_ok-lines.lines.items c.requires.outline c.show_whole.ensures c.in_ok-lines.ensures.lines)

pub begun_levels-requires-clause-corner : goal.begun_levels-requires-clause-corner
begun_levels-requires-clause-corner c = record {
  outline = record {
    outline_is = c.requires.sized;
    count = ap (λ (zs : List (Option Inside)). length zs) c.deref.ensures.value ∙ c.in_ok-lines.ensures.count ∙ sym (outline_long c.args.p.now c.args.outline.now c.requires.outline);
  };
  lines_are = subst AreSized (sym c.deref.ensures.value) c.in_ok-lines.ensures.sized;
}

pub returns-clause-sized : goal.returns-clause-sized
returns-clause-sized c = record {
  lines = c.in_ok-lines.ensures.sized;
  count = c.in_ok-lines.ensures.count ∙ sym (outline_long c.args.p.now c.args.outline.now c.requires.outline);
  levels = subst (λ (zs : List (Option Inside)). AreSizedLevels (length zs) c.in_ok-levels.levels.items) c.deref.ensures.value c.in_ok-levels.ensures.sized;
  level_count = c.in_ok-levels.ensures.count;
}

pub returns-clause-table : goal.returns-clause-table
returns-clause-table c = record {
  kept = begins_kept c.args.p.now c.args.outline.now c.in_ok-lines.lines.items c.requires.outline c.show_whole.ensures c.in_ok-lines.ensures.lines;
  levels = c.in_ok-levels.ensures.levels;
  attrs = attrs_first c.args.p.now c.show_whole.ensures;
}
