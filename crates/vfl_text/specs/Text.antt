-- The canonical text of a format: the direction always written, no space, each relation written inside
-- parentheses, and no parentheses where one predicate of the relation == without a priority stands for a
-- space that isn't below 0.
use Rattle.std.specs.Prelude.{ℕ, ℤ, pos, negsuc, suc, ◌+◌, ◌/◌, ◌%◌, ◌==◌, ◌&&◌, Bool, true, false, List, []}
use Rattle.std.specs.Prelude.{◌∷◌, ◌++◌, Option, Some, None, codes, decimal, if◌then◌else◌}
use Rattle.problem_core.specs.declared.parts.Rel as relation
use Rattle.problem_core.specs.declared.parts.Rel.TheVariants as rel
use Rattle.span_text.specs.Bytes.{at_sign, bar, comma, digit_0, left_bracket, left_paren, minus, point}
use Rattle.span_text.specs.Bytes.{right_bracket, right_paren}
use Rattle.span_text.specs.Objects as object
use Rattle.span_text.specs.Objects.{Meant}
use Rattle.span_text.specs.declared.limits.TheConstants.{HUNDREDTH, TENTH, UNIT}
use Rattle.vfl_text.specs.declared.parts.Axis.{Axis}
use Rattle.vfl_text.specs.declared.parts.Axis.TheVariants as axis
use Rattle.vfl_text.specs.Formats.{PredMeaning, SpacingMeaning, Flush, Standard, Given, ItemMeaning}
use Rattle.vfl_text.specs.Formats.{FormatMeaning}

-- thousandths below one as decimals, the fewest there can be
unfoldable pub decimals_text : ℕ → List ℕ
decimals_text f = if f == 0 then [] else point ∷ (digit_0 + f / TENTH) ∷
    (if f % TENTH == 0 then [] else (digit_0 + f / HUNDREDTH % 10) ∷
    (if f % HUNDREDTH == 0 then [] else (digit_0 + f % HUNDREDTH) ∷ []))

-- a number of thousandths, with the fewest decimals there can be
unfoldable pub number_text : ℕ → List ℕ
number_text n = decimal (n / UNIT) ++ decimals_text (n % UNIT)

-- the same, with "-" in front where it is below 0
abbrev pub signed_text : ℤ → List ℕ
signed_text (pos n) = number_text n
signed_text (negsuc n) = minus ∷ number_text (suc n)

-- the text of an `object` or a `priority`
abbrev pub object_text : Meant → List ℕ
object_text (object.Number z) = signed_text z
object_text (object.Name n) = n

-- the text of a `rel`
abbrev pub relation_text : relation.Rel → List ℕ
relation_text rel.Eq = codes "=="
relation_text rel.Le = codes "<="
relation_text rel.Ge = codes ">="

-- "@" and the priority, or nothing where there is none
abbrev pub priority_text : Option Meant → List ℕ
priority_text None = []
priority_text (Some p) = at_sign ∷ object_text p

-- the text of a `pred`, with its relation
abbrev pub pred_text : PredMeaning → List ℕ
pred_text p = relation_text p.rel ++ (object_text p.object ++ priority_text p.priority)

-- the predicates behind the first one
abbrev pub more_text : List PredMeaning → List ℕ
more_text [] = []
more_text (p ∷ ps) = comma ∷ (pred_text p ++ more_text ps)

-- the predicates of a list, with "," between them
abbrev pub preds_text : List PredMeaning → List ℕ
preds_text [] = []
preds_text (p ∷ ps) = pred_text p ++ more_text ps

-- the same in parentheses
abbrev pub list_text : List PredMeaning → List ℕ
list_text ps = left_paren ∷ (preds_text ps ++ right_paren ∷ [])

-- what an `item` says of its view's size: nothing, or predicates in parentheses
abbrev pub sizes_text : List PredMeaning → List ℕ
sizes_text [] = []
sizes_text (p ∷ ps) = list_text (p ∷ ps)

-- the text of an `item`
abbrev pub item_text : ItemMeaning → List ℕ
item_text i = left_bracket ∷ (i.name ++ (sizes_text i.sizes ++ right_bracket ∷ []))

-- the relation is ==
abbrev pub is_eq : relation.Rel → Bool
is_eq rel.Eq = true
is_eq rel.Le = false
is_eq rel.Ge = false

-- there is no priority
abbrev pub is_none : Option Meant → Bool
is_none None = true
is_none (Some p) = false

-- a name or a number that isn't below 0
abbrev pub is_plain : Meant → Bool
is_plain (object.Number (pos n)) = true
is_plain (object.Number (negsuc n)) = false
is_plain (object.Name n) = true

-- what is written without parentheses and relation
abbrev pub is_simple : PredMeaning → Bool
is_simple p = is_eq p.rel && is_none p.priority && is_plain p.object

-- what stands between the two "-" of a connection
abbrev pub given_text : List PredMeaning → List ℕ
given_text [] = list_text []
given_text (p ∷ []) = if is_simple p then object_text p.object else list_text (p ∷ [])
given_text (p ∷ q ∷ ps) = list_text (p ∷ q ∷ ps)

-- the text of a `connection`
abbrev pub spacing_text : SpacingMeaning → List ℕ
spacing_text Flush = []
spacing_text Standard = minus ∷ []
spacing_text (Given ps) = minus ∷ (given_text ps ++ minus ∷ [])

-- the text of a direction, with its ":"
abbrev pub axis_text : Axis → List ℕ
axis_text axis.H = codes "H:"
axis_text axis.V = codes "V:"

-- the parent's bar in front and the connection to it, or nothing where the parent isn't there
abbrev pub from_text : Option SpacingMeaning → List ℕ
from_text None = []
from_text (Some g) = bar ∷ spacing_text g

-- the connection to the parent at the end and its bar, or nothing where the parent isn't there
abbrev pub to_text : Option SpacingMeaning → List ℕ
to_text None = []
to_text (Some g) = spacing_text g ++ bar ∷ []

-- the views behind the first one, each with the connection before it
abbrev pub chain_text : List SpacingMeaning → List ItemMeaning → List ℕ
chain_text [] is = []
chain_text (g ∷ gs) [] = []
chain_text (g ∷ gs) (i ∷ is) = spacing_text g ++ (item_text i ++ chain_text gs is)

-- the views, each behind the first with the connection before it
abbrev pub views_text : List SpacingMeaning → List ItemMeaning → List ℕ
views_text gs [] = []
views_text gs (i ∷ is) = item_text i ++ chain_text gs is

-- the canonical text of a `format`
unfoldable pub format_text : FormatMeaning → List ℕ
format_text f = axis_text f.axis ++ (from_text f.from_parent
    ++ (views_text f.spacings f.items ++ to_text f.to_parent))
