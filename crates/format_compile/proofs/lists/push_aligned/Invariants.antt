use Rattle.std.proofs.Common.{◌≡◌, ◌++◌, drop}
use Rattle.std.specs.Prelude.{IsUtf8}
use Rattle.vfl_text.specs.View.{item_meanings}
use Rattle.format_compile.specs.FormatParts.{aligned_parts}
use Rattle.format_compile.specs.FormatViews.{parts_view}
use Rattle.format_compile.proofs.lists.push_aligned.Given as goal

abbrev pub invariant-loop-item : goal.invariant-loop-item
invariant-loop-item l = record {
  parts : parts_view l.out.items ++ aligned_parts l.word l.before (item_meanings (drop l.item-index l.items)) ≡ parts_view l.fn.out.items ++ aligned_parts l.word l.first (item_meanings l.items);
  text : IsUtf8 l.before;
}
