-- Each row of a format is the row of a linear line.
use Rattle.std.specs.Prelude.{ℕ, ◌+◌, pos, negsuc, ℤ, false, true, List, [], ◌∷◌, ◌++◌, Option, None}
use Rattle.std.specs.Prelude.{Some, is_some, if◌then◌else◌}
use Rattle.std.specs.Option.{option_map, option_to_list}
use Rattle.frac_core.specs.Fraction.{Fraction}
use Rattle.span_text.specs.Objects as object
use Rattle.span_text.specs.Objects.{Meant}
use Rattle.span_text.specs.declared.limits.TheConstants.{UNIT}
use Rattle.vfl_text.specs.Formats.{PredMeaning}
use Rattle.script_text.specs.Grammar.{decimal}
use Rattle.script_text.specs.declared.words.AttrWord.{AttrWord}
use Rattle.script_text.specs.Meaning.{Term, Linear}
use Rattle.script_text.specs.Meaning as mean
use Rattle.view_tree.specs.Views.{LiveView, view_named, view_of}
use Rattle.format_compile.specs.declared.parts.Owner.{Owner}
use Rattle.format_compile.specs.declared.parts.Owner.TheVariants as owner
use Rattle.format_compile.specs.FormatParts.{End, Span, Part, View, Bar, Asks}
use Rattle.format_compile.specs.FormatRefusals.{parent_of}

-- the name of the view, or an empty one if there is no view
abbrev pub name_in : Option LiveView → List ℕ
name_in None = []
name_in (Some v) = v.name

-- the name of a live view by its number
abbrev pub name_of : List LiveView → Option ℕ → List ℕ
name_of views None = []
name_of views (Some id) = name_in (view_of views id)

-- the name of the view whose attribute an end is: the view of this name, or its parent
abbrev pub owner_name : List LiveView → Owner → List ℕ → List ℕ
owner_name views owner.Itself name = name
owner_name views owner.Parent name = name_of views (parent_of views name)

-- the attribute, once
abbrev pub end_term : List LiveView → End → Term
end_term views e = record { by = decimal false UNIT; of = mean.Attr (owner_name views e.owner e.view) e.word }

-- the attribute of the second end, once, if there is one
abbrev pub minus_terms : List LiveView → Option End → List Term
minus_terms views None = []
minus_terms views (Some e) = end_term views e ∷ []

-- a number of thousandths
abbrev pub number : ℤ → Fraction
number (pos n) = decimal false n
number (negsuc n) = decimal true (n + 1)

-- the meaning of the object: the same attribute of another view if it names one, otherwise a number or a
-- metric
abbrev pub object_term : List LiveView → AttrWord → Meant → Term
object_term views w (object.Number z) = record { by = number z; of = mean.One }
object_term views w (object.Name name) = record {
  by = decimal false UNIT;
  of = (if is_some (view_named views name) then mean.Attr name w else mean.Metric name);
}

-- the first end has the relation to the second one, if there is one, with the object added
abbrev pub line_of : List LiveView → Span → PredMeaning → Linear
line_of views s p = record {
  left = end_term views s.plus ∷ [];
  rel = p.rel;
  right = minus_terms views s.minus ++ object_term views s.plus.word p.object ∷ [];
  priority = p.priority;
  weight = 1;
}

-- the lines of all rows, in order
abbrev pub lines_of : List LiveView → List Part → List Linear
lines_of views [] = []
lines_of views (View name ∷ ps) = lines_of views ps
lines_of views (Bar name ∷ ps) = lines_of views ps
lines_of views (Asks span pred ∷ ps) = line_of views span pred ∷ lines_of views ps

-- ---- the views in the text

-- the number of the live view of this name, if there is one
abbrev pub ids_named : List LiveView → List ℕ → List ℕ
ids_named views name = option_to_list (option_map (λ v. v.id) (view_named views name))

-- the number of the live view that an object names, if it names one
abbrev pub object_views : List LiveView → Meant → List ℕ
object_views views (object.Number z) = []
object_views views (object.Name name) = ids_named views name

-- the number of the live view in the text of a part, if there is one; a bar names none
abbrev pub part_views : List LiveView → Part → List ℕ
part_views views (View name) = ids_named views name
part_views views (Bar name) = []
part_views views (Asks span pred) = object_views views pred.object

-- the numbers of the live views in the text of the parts, in order
abbrev pub parts_views : List LiveView → List Part → List ℕ
parts_views views [] = []
parts_views views (p ∷ ps) = part_views views p ++ parts_views views ps
