-- The meaning of a linear line, for a list of views and a list of metrics.
use Rattle.std.specs.Prelude.{◌≡◌, ℕ, ◌*◌, ◌/◌, ◌<◌, ◌≤◌, List, [], ◌∷◌, ◌++◌, map, Option}
use Rattle.std.specs.Prelude.{Some, None, is_some, Bool, true, false, ◌||◌, pos, ◌*ℤ◌}
use Rattle.std.specs.List.{list_any}
use Rattle.std.specs.Option.{option_or, option_map, option_to_list}
use Rattle.frac_core.specs.Fraction.{Fraction}
use Rattle.problem_core.specs.declared.parts.Term.{Term}
use Rattle.problem_core.specs.Layout.{coefficient}
use Rattle.problem_core.specs.Window.{zero_fraction}
use Rattle.problem_core.specs.declared.limits.TheConstants.{REQUIRED, WEIGHT_LIMIT}
use Rattle.name_tables.specs.Names.{value_of}
use Rattle.view_tree.specs.Views.{LiveView, view_named}
use Rattle.span_text.specs.Objects.{Meant}
use Rattle.span_text.specs.Objects as object
use Rattle.span_text.specs.declared.limits.TheConstants.{UNIT}
use Rattle.script_text.specs.declared.words.AttrWord.{AttrWord}
use Rattle.script_text.specs.declared.words.AttrWord.TheVariants as word
use Rattle.script_text.specs.Meaning.{Operand, Linear}
use Rattle.script_text.specs.Meaning as mean
use Rattle.view_tree.specs.Attributes.{left_of, top_of, width_of, height_of}
use Rattle.compile_parts.specs.Fractions.{times, negated, total}
use Rattle.compile_parts.specs.declared.shares.AttrSum.{AttrSum}

-- the metrics with their values
abbrev pub MetricList : Type 0
MetricList = List (List ℕ × Fraction)

-- ---- attributes

-- so many times the left and so many times the width of a view, over the scale
abbrev pub across : ℕ → ℕ → ℕ → AttrSum
across scale edge size = record { scale = scale; edge = edge; size = size; is_across = true }

-- so many times the top and so many times the height of a view, over the scale
abbrev pub down : ℕ → ℕ → ℕ → AttrSum
down scale edge size = record { scale = scale; edge = edge; size = size; is_across = false }

-- an attribute by the four kept ones, with the least scale for which both factors are whole
abbrev pub attr_sum : AttrWord → AttrSum
attr_sum word.Left = across 1 1 0
attr_sum word.Leading = across 1 1 0
attr_sum word.Right = across 1 1 1
attr_sum word.Trailing = across 1 1 1
attr_sum word.CenterX = across 2 2 1
attr_sum word.Width = across 1 0 1
attr_sum word.Top = down 1 1 0
attr_sum word.Bottom = down 1 1 1
attr_sum word.CenterY = down 2 2 1
attr_sum word.Height = down 1 0 1

-- the edge of a view, across or down
abbrev pub edge_in : Bool → ℕ → ℕ
edge_in true view = left_of view
edge_in false view = top_of view

-- the size of a view, across or down
abbrev pub size_in : Bool → ℕ → ℕ
size_in true view = width_of view
size_in false view = height_of view

-- so many times the edge, and so many times the size, of a view
abbrev pub edge_and_size : Bool → ℕ → ℕ → ℕ → List Term
edge_and_size is_across view edge size = record { attr = edge_in is_across view; by = pos edge }
    ∷ record { attr = size_in is_across view; by = pos size } ∷ []

-- twice the attribute that is this sum
abbrev pub twice : AttrSum → ℕ → List Term
twice s view = edge_and_size s.is_across view (2 / s.scale * s.edge) (2 / s.scale * s.size)

-- twice an attribute of a view, by the four kept ones
abbrev pub doubled : ℕ → AttrWord → List Term
doubled view w = twice (attr_sum w) view

-- ---- terms

-- the term subtracted
abbrev pub minus : mean.Term → mean.Term
minus t = record { by = negated t.by; of = t.of }

-- the factor of the term has a denominator above 0
abbrev pub HasDenominator : mean.Term → Type 0
HasDenominator t = 0 < t.by.den

-- all terms of the line brought to its left side, in the order of the text
abbrev pub terms_of : Linear → List mean.Term
terms_of l = l.left ++ map minus l.right

-- how often so many times an attribute of the view has the attribute v; 0 if there is no view
abbrev pub share_in : Option LiveView → Fraction → AttrWord → ℕ → Fraction
share_in None by word v = zero_fraction
share_in (Some view) by word v = record {
  num = by.num *ℤ coefficient v (doubled view.id word);
  den = by.den * 2;
}

-- how often so many times an operand has the attribute v
abbrev pub operand_share : List LiveView → ℕ → Fraction → Operand → Fraction
operand_share views v by (mean.Attr name word) = share_in (view_named views name) by word v
operand_share views v by (mean.Metric name) = zero_fraction
operand_share views v by mean.One = zero_fraction

-- how often the term has the attribute v
abbrev pub share : List LiveView → ℕ → mean.Term → Fraction
share views v t = operand_share views v t.by t.of

-- the coefficient of the attribute v in a sum of terms
abbrev pub sum_at : List LiveView → List mean.Term → ℕ → Fraction
sum_at views terms v = total (share views v) terms

-- ---- constants

-- the contribution of a term to the constant: nothing, a number, or a multiple of a metric
pub data Part : Type 0 where
  Nothing : Part
  Number : Fraction → Part
  Multiple : Fraction → List ℕ → Part

-- the contribution of so many times an operand to the constant
abbrev pub part_of : Fraction → Operand → Part
part_of by (mean.Attr name word) = Nothing
part_of by (mean.Metric name) = Multiple by name
part_of by mean.One = Number by

-- the contribution of the term to the constant
abbrev pub part : mean.Term → Part
part t = part_of t.by t.of

-- so many times the metric's value, and 0 if there is no metric
abbrev pub value_in : Option Fraction → Fraction → Fraction
value_in None by = zero_fraction
value_in (Some value) by = times by value

-- the contribution of the part to the constant, for these metrics
abbrev pub part_value : MetricList → Part → Fraction
part_value metrics Nothing = zero_fraction
part_value metrics (Number by) = by
part_value metrics (Multiple by name) = value_in (value_of metrics name) by

-- ---- names

-- a view or a metric has the name
abbrev pub is_named : List LiveView → MetricList → List ℕ → Bool
is_named views metrics name = is_some (view_named views name) || is_some (value_of metrics name)

-- the name, unless the fact holds
abbrev pub unless : Bool → List ℕ → Option (List ℕ)
unless true name = None
unless false name = Some name

-- the name in an operand that must be a view's or a metric's and isn't
abbrev pub unknown_in : List LiveView → MetricList → Operand → Option (List ℕ)
unknown_in views metrics (mean.Attr name word) = unless (is_some (view_named views name)) name
unknown_in views metrics (mean.Metric name) = unless (is_named views metrics name) name
unknown_in views metrics mean.One = None

-- the name in an object or a priority that is neither a view's nor a metric's
abbrev pub unknown_object : List LiveView → MetricList → Option Meant → Option (List ℕ)
unknown_object views metrics (Some (object.Name name)) = unless (is_named views metrics name) name
unknown_object views metrics (Some (object.Number z)) = None
unknown_object views metrics None = None

-- the first name in the terms that must be a view's or a metric's and isn't
abbrev pub unknown_among : List LiveView → MetricList → List mean.Term → Option (List ℕ)
unknown_among views metrics [] = None
unknown_among views metrics (t ∷ ts) = option_or (unknown_in views metrics t.of)
    (unknown_among views metrics ts)

-- the first such name in the terms and the priority of the line
abbrev pub first_unknown : List LiveView → MetricList → Linear → Option (List ℕ)
first_unknown views metrics l = option_or (unknown_among views metrics (terms_of l))
    (unknown_object views metrics l.priority)

-- the operand names a view in place of a number
abbrev pub is_view_number : List LiveView → Operand → Bool
is_view_number views (mean.Attr name word) = false
is_view_number views (mean.Metric name) = is_some (view_named views name)
is_view_number views mean.One = false

-- one of the terms names a view in place of a number
abbrev pub has_view_number : List LiveView → List mean.Term → Bool
has_view_number views terms = list_any (λ t. is_view_number views t.of) terms

-- r is the rank of a row that may be asked for, or of a required one
abbrev pub IsRowRank : ℕ → Type 0
IsRowRank r = (0 < r) × (r ≤ REQUIRED)

-- w is a weight that a row may have: from 1 up to the limit
abbrev pub IsWeight : ℕ → Type 0
IsWeight w = (0 < w) × (w ≤ WEIGHT_LIMIT)

-- the rank of a priority
abbrev pub IsRank : List LiveView → MetricList → Option Meant → ℕ → Type 0
IsRank views metrics None r = r ≡ REQUIRED
IsRank views metrics (Some (object.Number z)) r = (z ≡ pos (r * UNIT)) × IsRowRank r
IsRank views metrics (Some (object.Name name)) r = (view_named views name ≡ None)
    × (value_of metrics name ≡ Some (record { num = pos r; den = 1 })) × IsRowRank r

-- the number of the view that an operand names
abbrev pub view_in : List LiveView → Operand → List ℕ
view_in views (mean.Attr name word) = option_to_list (option_map (λ v. v.id) (view_named views name))
view_in views (mean.Metric name) = []
view_in views mean.One = []

-- the numbers of the views that the terms name, in order
abbrev pub views_in : List LiveView → List mean.Term → List ℕ
views_in views [] = []
views_in views (t ∷ ts) = view_in views t.of ++ views_in views ts
