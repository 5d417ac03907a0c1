-- The parts of a format, whatever the place of their names in memory.
use Rattle.std.specs.Prelude.{List, map, Option, Some, None}
use Rattle.vfl_text.specs.View.{pred_meaning}
use Rattle.format_compile.specs.declared.parts.End as declared_end
use Rattle.format_compile.specs.declared.parts.Span as declared_span
use Rattle.format_compile.specs.declared.parts.Part as declared_part
use Rattle.format_compile.specs.declared.parts.Part.TheVariants as part
use Rattle.format_compile.specs.FormatParts.{End, Span, Part, View, Bar, Asks}

-- an end, with the name of its view
abbrev pub end_view : declared_end.End → End
end_view e = record { owner = e.owner; view = e.view.now; word = e.word }

-- the second end, if there is one
abbrev pub minus_view : Option declared_end.End → Option End
minus_view None = None
minus_view (Some e) = Some (end_view e)

-- the measure of a row, with the names of the views
abbrev pub span_view : declared_span.Span → Span
span_view s = record { plus = end_view s.plus; minus = minus_view s.minus }

-- a part, with the names in it
abbrev pub part_view : declared_part.Part → Part
part_view (part.View name) = View name.now
part_view (part.Bar name) = Bar name.now
part_view (part.Asks span pred) = Asks (span_view span) (pred_meaning pred)

-- the parts, in order
abbrev pub parts_view : List declared_part.Part → List Part
parts_view ps = map part_view ps
