-- The wrong uses of a format, for a list of views and a list of metrics.
use Rattle.std.specs.Prelude.{⊤, ℕ, List, [], ◌∷◌, Option, None, Some, is_some, is_none}
use Rattle.std.specs.Prelude.{Bool, true, false, ◌&&◌}
use Rattle.std.specs.Option.{option_or, option_map, option_and_then}
use Rattle.span_text.specs.Objects as object
use Rattle.span_text.specs.Objects.{Meant}
use Rattle.vfl_text.specs.declared.parts.Axis.{Axis}
use Rattle.vfl_text.specs.declared.parts.Axis.TheVariants as axis
use Rattle.vfl_text.specs.Formats.{PredMeaning}
use Rattle.script_text.specs.declared.words.Align.{Align}
use Rattle.script_text.specs.declared.words.Align.TheVariants as align
use Rattle.view_tree.specs.Views.{LiveView, view_named, view_of}
use Rattle.compile_parts.specs.Meaning.{MetricList, unless, unknown_object, IsRank}
use Rattle.format_compile.specs.FormatParts.{Part, View, Bar, Asks}

-- ---- unknown names

-- the first name in the object and the priority that is neither a view's nor a metric's
abbrev pub unknown_pred : List LiveView → MetricList → PredMeaning → Option (List ℕ)
unknown_pred views metrics p = option_or (unknown_object views metrics (Some p.object))
    (unknown_object views metrics p.priority)

-- the first name in a part that must be a view's or a metric's and isn't
abbrev pub unknown_part : List LiveView → MetricList → Part → Option (List ℕ)
unknown_part views metrics (View name) = unless (is_some (view_named views name)) name
unknown_part views metrics (Bar name) = None
unknown_part views metrics (Asks span pred) = unknown_pred views metrics pred

-- the first such name in the parts
abbrev pub unknown_parts : List LiveView → MetricList → List Part → Option (List ℕ)
unknown_parts views metrics [] = None
unknown_parts views metrics (p ∷ ps) = option_or (unknown_part views metrics p)
    (unknown_parts views metrics ps)

-- ---- wrong uses

-- the alignment runs along the direction of the format
abbrev pub runs_along : Axis → Align → Bool
runs_along axis.H align.Left = true
runs_along axis.H align.Right = true
runs_along axis.H align.CenterX = true
runs_along axis.H _ = false
runs_along axis.V align.Top = true
runs_along axis.V align.Bottom = true
runs_along axis.V align.CenterY = true
runs_along axis.V _ = false

-- there is an alignment, and it runs along the direction of the format
abbrev pub is_along : Axis → Option Align → Bool
is_along a None = false
is_along a (Some w) = runs_along a w

-- the parent of the view of this name
abbrev pub parent_of : List LiveView → List ℕ → Option ℕ
parent_of views name = option_and_then (λ id. option_and_then (λ v. v.parent) (view_of views id))
    (option_map (λ v. v.id) (view_named views name))

-- the part is the bar of a parent, and there is none
abbrev pub lacks_parent : List LiveView → Part → Bool
lacks_parent views (View name) = false
lacks_parent views (Bar name) = is_none (parent_of views name)
lacks_parent views (Asks span pred) = false

-- the object names a view
abbrev pub is_view_object : List LiveView → Meant → Bool
is_view_object views (object.Name name) = is_some (view_named views name)
is_view_object views (object.Number z) = false

-- a view is in place of a number: only a size may be compared with another view's
abbrev pub has_view_space : List LiveView → Part → Bool
has_view_space views (View name) = false
has_view_space views (Bar name) = false
has_view_space views (Asks span pred) = is_some span.minus && is_view_object views pred.object

-- if the part asks for a row, the row's priority has a rank
abbrev pub HasPartRank : List LiveView → MetricList → Part → Type 0
HasPartRank views metrics (View name) = ⊤
HasPartRank views metrics (Bar name) = ⊤
HasPartRank views metrics (Asks span pred) = (r : ℕ) × IsRank views metrics pred.priority r

-- each priority in the parts has a rank
abbrev pub HaveRanks : List LiveView → MetricList → List Part → Type 0
HaveRanks views metrics [] = ⊤
HaveRanks views metrics (p ∷ ps) = HasPartRank views metrics p × HaveRanks views metrics ps
