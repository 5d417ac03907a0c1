-- A format without where its names and lists lie in memory.
use Rattle.std.specs.Prelude.{List, map, Option, Some, None}
use Rattle.span_text.specs.Objects.{meant, object_view}
use Rattle.vfl_text.specs.declared.parts.Pred.{Pred}
use Rattle.vfl_text.specs.declared.parts.Spacing.{Spacing}
use Rattle.vfl_text.specs.declared.parts.Spacing.TheVariants as spacing
use Rattle.vfl_text.specs.declared.parts.Item.{Item}
use Rattle.vfl_text.specs.declared.parts.Format.{Format}
use Rattle.vfl_text.specs.Formats.{PredMeaning, SpacingMeaning, Flush, Standard, Given, ItemMeaning}
use Rattle.vfl_text.specs.Formats.{FormatMeaning}

-- the meaning of a predicate
abbrev pub pred_meaning : Pred → PredMeaning
pred_meaning p = record { rel = p.rel; object = meant p.object; priority = object_view p.priority }

-- the meanings of predicates, in order
abbrev pub pred_meanings : List Pred → List PredMeaning
pred_meanings ps = map pred_meaning ps

-- the meaning of a connection
abbrev pub spacing_meaning : Spacing → SpacingMeaning
spacing_meaning spacing.Flush = Flush
spacing_meaning spacing.Standard = Standard
spacing_meaning (spacing.Given preds) = Given (pred_meanings preds.items)

-- the meanings of connections, in order
abbrev pub spacing_meanings : List Spacing → List SpacingMeaning
spacing_meanings gs = map spacing_meaning gs

-- the meaning of the connection to a parent, where one stands at this end
abbrev pub end_meaning : Option Spacing → Option SpacingMeaning
end_meaning None = None
end_meaning (Some g) = Some (spacing_meaning g)

-- the meaning of an item of a format
abbrev pub item_meaning : Item → ItemMeaning
item_meaning i = record { name = i.name.now; sizes = pred_meanings i.sizes.items }

-- the meanings of items, in order
abbrev pub item_meanings : List Item → List ItemMeaning
item_meanings is = map item_meaning is

-- the meaning of a format
abbrev pub meaning : Format → FormatMeaning
meaning f = record {
  axis = f.axis;
  from_parent = end_meaning f.from_parent;
  items = item_meanings f.items.items;
  spacings = spacing_meanings f.spacings.items;
  to_parent = end_meaning f.to_parent;
}
