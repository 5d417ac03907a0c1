use Rattle.std.proofs.Common.{◌≡◌, ◌++◌, ◌||◌, take, drop, All, IsTrue, false}
use Rattle.std.specs.List.{list_any}
use Rattle.format_compile.specs.Asks.{IsKeptAsk, AreAsks}
use Rattle.format_compile.specs.FormatLines.{lines_of, parts_views}
use Rattle.compile_parts.specs.Lookups.{numbers}
use Rattle.format_compile.specs.FormatRefusals.{unknown_parts, lacks_parent, has_view_space, HaveRanks}
use Rattle.format_compile.specs.FormatViews.{parts_view}
use Rattle.format_compile.proofs.asks.resolve_parts.Given as goal

abbrev pub invariant-loop-part : goal.invariant-loop-part
invariant-loop-part l = record {
  known : unknown_parts l.tree.views l.metrics (parts_view (drop l.part-index l.parts)) ≡ unknown_parts l.tree.views l.metrics (parts_view l.parts);
  asks : l.out.lacks_rank ≡ false → AreAsks l.tree.views l.metrics (lines_of l.tree.views (parts_view (take l.part-index l.parts))) l.out.rows.items;
  kept : All IsKeptAsk l.out.rows.items;
  views : numbers l.out.views.items ++ parts_views l.tree.views (parts_view (drop l.part-index l.parts)) ≡ parts_views l.tree.views (parts_view l.parts);
  parent : (l.out.lacks_parent || list_any (lacks_parent l.tree.views) (parts_view (drop l.part-index l.parts))) ≡ list_any (lacks_parent l.tree.views) (parts_view l.parts);
  space : (l.out.has_view_space || list_any (has_view_space l.tree.views) (parts_view (drop l.part-index l.parts))) ≡ list_any (has_view_space l.tree.views) (parts_view l.parts);
  rank : IsTrue l.out.lacks_rank → HaveRanks l.tree.views l.metrics (parts_view l.parts) → ⊥;
}
