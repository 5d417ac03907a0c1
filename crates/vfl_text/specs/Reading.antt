-- Reading a format from left to right. An error is the count of the bytes that are left where no format goes
-- on.
use Rattle.std.specs.Prelude.{ℕ, pos, neg_ℤ, Bool, ◌==◌, ◌||◌, List, [], ◌∷◌, ◌++◌, Option, Some, None}
use Rattle.std.specs.Prelude.{Result, Ok, if◌then◌else◌}
use Rattle.problem_core.specs.declared.parts.Rel as relation
use Rattle.problem_core.specs.declared.parts.Rel.TheVariants as rel
use Rattle.span_text.specs.Bytes.{at_sign, bar, colon, comma, equals, greater, left_bracket, left_paren}
use Rattle.span_text.specs.Bytes.{less, minus, right_bracket, right_paren, upper_h, upper_v}
use Rattle.span_text.specs.Classes.{is_letter, is_word}
use Rattle.span_text.specs.Reading.{◌>>=◌, starts, tried, end_at}
use Rattle.span_text.specs.Tokens.{skip, sign_at, name_at, number_at}
use Rattle.span_text.specs.Loops.{loop_at}
use Rattle.span_text.specs.Objects as object
use Rattle.span_text.specs.Objects.{Meant}
use Rattle.vfl_text.specs.declared.parts.Axis.{Axis}
use Rattle.vfl_text.specs.declared.parts.Axis.TheVariants as axis
use Rattle.vfl_text.specs.Formats.{PredMeaning, SpacingMeaning, Flush, Standard, Given, ItemMeaning}
use Rattle.vfl_text.specs.Formats.{FormatMeaning}
use Rattle.vfl_text.specs.Grammar.{relations, axes, pred, item, single, with_item, with_end, started}

-- the first byte of a number below 0, and of a connection that isn't nothing
abbrev pub is_minus : ℕ → Bool
is_minus b = b == minus

-- the byte in front of a priority
abbrev pub is_at : ℕ → Bool
is_at b = b == at_sign

-- the byte between two predicates of a list
abbrev pub is_comma : ℕ → Bool
is_comma b = b == comma

-- the first byte of a relation
abbrev pub is_compare : ℕ → Bool
is_compare b = (b == less) || (b == equals) || (b == greater)

-- the first byte of a list
abbrev pub is_list : ℕ → Bool
is_list b = b == left_paren

-- the first byte of a view
abbrev pub is_view : ℕ → Bool
is_view b = b == left_bracket

-- the byte that stands for the parent's edge
abbrev pub is_bar : ℕ → Bool
is_bar b = b == bar

-- what may follow a connection
abbrev pub is_joined : ℕ → Bool
is_joined b = (b == left_bracket) || (b == bar)

-- what a further round begins with
abbrev pub is_more : ℕ → Bool
is_more b = (b == minus) || (b == left_bracket) || (b == bar)

-- the first byte of a direction
abbrev pub is_axis : ℕ → Bool
is_axis b = (b == upper_h) || (b == upper_v)

-- a value and the text behind it
abbrev pub with_rest : {V : Type 0} → V → List ℕ → Result (V × List ℕ) ℕ
with_rest v s = Ok (v, s)

-- the meaning of a NAME that was read, as that of an `object`, with the text behind it
abbrev pub as_name : List ℕ × List ℕ → Result (Meant × List ℕ) ℕ
as_name r = Ok (object.Name r.0, r.1)

-- the same of a NUMBER
abbrev pub as_number : ℕ × List ℕ → Result (Meant × List ℕ) ℕ
as_number r = Ok (object.Number (pos r.0), r.1)

-- the same of a NUMBER behind "-"
abbrev pub as_negative : ℕ × List ℕ → Result (Meant × List ℕ) ℕ
as_negative r = Ok (object.Number (neg_ℤ (pos r.0)), r.1)

-- NAME or NUMBER, which `priority` is: its meaning, and the text behind it
unfoldable pub value_at : List ℕ → Result (Meant × List ℕ) ℕ
value_at s = if starts is_letter s then name_at s >>= as_name else number_at s >>= as_number

-- `object`: its meaning, and the text behind it
unfoldable pub object_at : List ℕ → Result (Meant × List ℕ) ℕ
object_at s = if starts is_minus s then sign_at minus s >>= (λ t. number_at t >>= as_negative) else value_at s

-- the meaning of a `pred` whose priority was read, with the text behind it
abbrev pub with_priority : relation.Rel → Meant → Meant × List ℕ → Result (PredMeaning × List ℕ) ℕ
with_priority r o p = Ok (pred r o (Some p.0), p.1)

-- `pred` behind this relation and object, a priority or none: the meaning of all, and the text behind it
unfoldable pub priority_at : relation.Rel → Meant → List ℕ → Result (PredMeaning × List ℕ) ℕ
priority_at r o s = if starts is_at s then sign_at at_sign s >>= (λ t. value_at t >>= with_priority r o)
    else with_rest (pred r o None) s

-- `pred` behind its relation: its meaning, and the text behind it
unfoldable pub ruled_at : relation.Rel → List ℕ → Result (PredMeaning × List ℕ) ℕ
ruled_at r s = object_at s >>= (λ o. priority_at r o.0 o.1)

-- `pred`: its meaning, and the text behind it
unfoldable pub pred_at : List ℕ → Result (PredMeaning × List ℕ) ℕ
pred_at s = if starts is_compare s then tried relations s >>= (λ r. ruled_at r.0 (skip r.1))
    else ruled_at rel.Eq s

-- a `pred` of a `list`, behind those of the meanings ps, and then "," and what g reads, or ")": the meanings
-- of all, and the text behind the list
unfoldable pub pred_round_at : (List PredMeaning → List ℕ → Result (List PredMeaning × List ℕ) ℕ)
    → List PredMeaning → List ℕ → Result (List PredMeaning × List ℕ) ℕ
pred_round_at g ps s = pred_at s >>= (λ p. if starts is_comma p.1
    then sign_at comma p.1 >>= g (ps ++ p.0 ∷ [])
    else sign_at right_paren p.1 >>= with_rest (ps ++ p.0 ∷ []))

-- `list`: the meanings of its predicates, and the text behind it
unfoldable pub preds_at : List ℕ → Result (List PredMeaning × List ℕ) ℕ
preds_at s = sign_at left_paren s >>= loop_at pred_round_at []

-- `item`: its meaning, and the text behind it
unfoldable pub item_at : List ℕ → Result (ItemMeaning × List ℕ) ℕ
item_at s = sign_at left_bracket s >>= (λ s. name_at s >>= (λ n. if starts is_list n.1
    then preds_at n.1 >>= (λ p. sign_at right_bracket p.1 >>= with_rest (item n.0 p.0))
    else sign_at right_bracket n.1 >>= with_rest (item n.0 [])))

-- `connection` behind its first "-": its meaning, and the text behind it
unfoldable pub spaced_at : List ℕ → Result (SpacingMeaning × List ℕ) ℕ
spaced_at s = if starts is_list s
    then preds_at s >>= (λ p. sign_at minus p.1 >>= with_rest (Given p.0))
    else (if starts is_word s then value_at s >>= (λ o. sign_at minus o.1 >>= with_rest (Given (single o.0)))
    else with_rest Standard s)

-- `connection`: its meaning, and the text behind it
unfoldable pub spacing_at : List ℕ → Result (SpacingMeaning × List ℕ) ℕ
spacing_at s = if starts is_minus s then sign_at minus s >>= spaced_at else with_rest Flush s

-- `format` behind its last connection, from the parent's bar to the end: the meaning of all
abbrev pub parent_at : FormatMeaning → SpacingMeaning → List ℕ → Result FormatMeaning ℕ
parent_at f g s = sign_at bar s >>= (λ t. end_at t >>= (λ _. Ok (with_end f g)))

-- `format` behind a connection: the next view and what k reads behind it, or the parent's bar and the end
unfoldable pub next_at : (FormatMeaning → List ℕ → Result FormatMeaning ℕ) → FormatMeaning → SpacingMeaning
    → List ℕ → Result FormatMeaning ℕ
next_at k f g s = if starts is_view s
    then item_at s >>= (λ i. k (with_item f g i.0) i.1)
    else parent_at f g s

-- `format` behind a view: a connection and what follows it, where k reads behind a next view, or the end
unfoldable pub round_at : (FormatMeaning → List ℕ → Result FormatMeaning ℕ) → FormatMeaning → List ℕ
    → Result FormatMeaning ℕ
round_at k f s = if starts is_more s then spacing_at s >>= (λ g. next_at k f g.0 g.1)
    else end_at s >>= (λ _. Ok f)

-- the direction of a `format` with its ":", or neither, which means H: its meaning, and the text behind it
unfoldable pub orientation_at : List ℕ → Result (Axis × List ℕ) ℕ
orientation_at s = if starts is_axis s then tried axes s >>= (λ a. sign_at colon (skip a.1) >>= with_rest a.0)
    else with_rest axis.H s

-- the meaning of a connection to the parent in front, with the text behind it
abbrev pub from_spacing : SpacingMeaning × List ℕ → Result (Option SpacingMeaning × List ℕ) ℕ
from_spacing g = Ok (Some g.0, g.1)

-- the parent's bar in front of a `format` and the connection, or neither: its meaning, and the text behind it
unfoldable pub from_parent_at : List ℕ → Result (Option SpacingMeaning × List ℕ) ℕ
from_parent_at s = if starts is_bar s then sign_at bar s >>= (λ t. spacing_at t >>= from_spacing)
    else with_rest None s

-- `format`, which the whole text is: its meaning
unfoldable pub format_at : List ℕ → Result FormatMeaning ℕ
format_at s = orientation_at (skip s) >>= (λ a. from_parent_at a.1
    >>= (λ g. item_at g.1 >>= (λ i. loop_at round_at (started a.0 g.0 i.0) i.1)))
