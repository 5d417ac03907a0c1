use Rattle.std.proofs.Common.{◌≡◌, ◌++◌, drop}
use Rattle.std.specs.Prelude.{IsUtf8}
use Rattle.vfl_text.specs.View.{spacing_meanings, item_meanings}
use Rattle.format_compile.specs.FormatParts.{chain_parts, last_name}
use Rattle.format_compile.specs.FormatViews.{parts_view}
use Rattle.format_compile.proofs.lists.push_chain.Given as goal

abbrev pub invariant-loop-i : goal.invariant-loop-i
invariant-loop-i l = record {
  parts : parts_view l.out.items ++ chain_parts l.course l.before (spacing_meanings (drop l.i l.spacings)) (item_meanings (drop l.i l.items)) ≡ parts_view l.fn.out.items ++ chain_parts l.course l.first (spacing_meanings l.spacings) (item_meanings l.items);
  last : last_name l.before (item_meanings (drop l.i l.items)) ≡ last_name l.first (item_meanings l.items);
  text : IsUtf8 l.before;
}
