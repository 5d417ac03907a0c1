-- Reading a line from left to right.
use Rattle.std.specs.Prelude.{ℕ, Bool, true, false, List, [], ◌∷◌, ◌++◌, Option, Some, None, Result, Ok}
use Rattle.std.specs.Prelude.{codes, pos, ◌==◌, ◌-◌, if◌then◌else◌, length, min, Err}
use Rattle.span_text.specs.Bytes.{at_sign, hash, lower_a, lower_i, lower_w, minus, plus, star}
use Rattle.span_text.specs.Reading.{◌>>=◌, lit_at, starts, tried, end_at}
use Rattle.span_text.specs.Classes.{is_letter, is_space}
use Rattle.span_text.specs.Tokens.{is_point, skip, tail_at, word_at, sign_at, name_at, raw_name_at, number_at}
use Rattle.span_text.specs.Tokens.{whole_at}
use Rattle.span_text.specs.Loops.{loop_at}
use Rattle.span_text.specs.Multiples.{multiple_at}
use Rattle.span_text.specs.declared.multiples.Multiple.{Multiple}
use Rattle.span_text.specs.declared.multiples.Multiple.TheVariants as multiple
use Rattle.span_text.specs.Objects.{Meant}
use Rattle.span_text.specs.Objects as object
use Rattle.frac_core.specs.Fraction.{Fraction}
use Rattle.vfl_text.specs.Grammar.{relations}
use Rattle.vfl_text.specs.Reading.{format_at, is_at, is_minus}
use Rattle.script_text.specs.Fractions.{lowest}
use Rattle.script_text.specs.Meaning.{Operand, Term, Linear, Change, Plain, Said}
use Rattle.script_text.specs.Meaning as mean
use Rattle.script_text.specs.Grammar.{alignments, attributes, changing_words, decimal, directions, times}
use Rattle.script_text.specs.Grammar.{does_change, does_plain, is_any, linear}
use Rattle.problem_core.specs.declared.parts.Rel.{Rel}
use Rattle.script_text.specs.declared.words.Align.{Align}
use Rattle.script_text.specs.declared.words.AttrWord.{AttrWord}
use Rattle.script_text.specs.declared.words.ChangeWord.{ChangeWord}
use Rattle.script_text.specs.declared.words.ChangeWord.TheVariants as change
use Rattle.script_text.specs.declared.words.PlainWord.{PlainWord}
use Rattle.script_text.specs.declared.words.PlainWord.TheVariants as plain
use Rattle.script_text.specs.declared.words.FirstWord.{FirstWord}
use Rattle.script_text.specs.declared.words.FirstWord.TheVariants as first

-- the first byte of `align`
abbrev pub is_a : ℕ → Bool
is_a b = b == lower_a

-- the first byte of `in`
abbrev pub is_i : ℕ → Bool
is_i b = b == lower_i

-- the first byte of `weight`
abbrev pub is_w : ℕ → Bool
is_w b = b == lower_w

-- the first byte of `hug`
abbrev pub is_h : ℕ → Bool
is_h b = b == 104

-- the first byte of `resist`
abbrev pub is_r : ℕ → Bool
is_r b = b == 114

-- the sign in front of a term that is added
abbrev pub is_plus : ℕ → Bool
is_plus b = b == plus

-- the sign between a multiplier and a variable
abbrev pub is_star : ℕ → Bool
is_star b = b == star

-- the byte with which a comment begins
abbrev pub is_hash : ℕ → Bool
is_hash b = b == hash

-- after the word `view`: a name, and perhaps `in` and the parent's name
unfoldable pub view_at : List ℕ → Result Change ℕ
view_at s = do
  name ← name_at s
  if starts is_i name.1
      then (do
        rest ← word_at (codes "in") name.1
        parent ← name_at rest
        _ ← end_at parent.1
        Ok (mean.Views (mean.View name.0 (Some parent.0))))
      else (do
        _ ← end_at name.1
        Ok (mean.Views (mean.View name.0 None)))

-- the text of a tree, which is the end of a line of this length
unfoldable pub tree_at : ℕ → List ℕ → Result Change ℕ
tree_at len [] = Err 0
tree_at len (b ∷ s) = Ok (mean.Views (mean.Tree (b ∷ s) (len - length (b ∷ s))))

-- a name and no more
unfoldable pub named_at : (List ℕ → Change) → List ℕ → Result Change ℕ
named_at f s = do
  name ← name_at s
  _ ← end_at name.1
  Ok (f name.0)

-- for the metric of this name a value
unfoldable pub metric_value_at : List ℕ → Bool → List ℕ → Result Change ℕ
metric_value_at name is_negative s = do
  value ← number_at s
  _ ← end_at value.1
  Ok (mean.Update (mean.Metric name (decimal is_negative value.0)))

-- after the word `metric`: a name, perhaps -, and a value
unfoldable pub metric_at : List ℕ → Result Change ℕ
metric_at s = do
  name ← name_at s
  if starts is_minus name.1
      then (do
        rest ← sign_at minus name.1
        metric_value_at name.0 true rest)
      else metric_value_at name.0 false name.1

-- after the word `window`: a width and a height
unfoldable pub window_at : List ℕ → Result Change ℕ
window_at s = do
  width ← number_at s
  height ← number_at width.1
  _ ← end_at height.1
  Ok (mean.Update (mean.Window (decimal false width.0) (decimal false height.0)))

-- after the word `budget`: a whole number
unfoldable pub budget_at : List ℕ → Result Plain ℕ
budget_at s = do
  value ← whole_at s
  _ ← end_at value.1
  Ok (mean.Budget value.0)

-- nothing more, with this meaning
unfoldable pub bare_at : Plain → List ℕ → Result Plain ℕ
bare_at m s = do
  _ ← end_at s
  Ok m

-- an attribute of the view of this name, from the point on
unfoldable pub attribute_at : List ℕ → List ℕ → Result (Operand × List ℕ) ℕ
attribute_at name s = do
  rest ← lit_at (codes ".") s
  word ← tried attributes rest
  rest ← tail_at word.1
  Ok (mean.Attr name word.0, rest)

-- an attribute of a view, or the name of a metric
unfoldable pub variable_at : List ℕ → Result (Operand × List ℕ) ℕ
variable_at s = do
  name ← raw_name_at s
  if starts is_point name.1 then attribute_at name.0 name.1 else Ok (mean.Metric name.0, skip name.1)

-- so many times the operand that was read, and the text after it
abbrev pub with_by : Fraction → Operand × List ℕ → Result (Term × List ℕ) ℕ
with_by by o = Ok (times by o.0, o.1)

-- so many times a variable
unfoldable pub product_at : Fraction → List ℕ → Result (Term × List ℕ) ℕ
product_at by s = variable_at s >>= with_by by

-- after a multiplier or a number
unfoldable pub multiplied_at : Bool → Multiple → List ℕ → Result (Term × List ℕ) ℕ
multiplied_at is_negative (multiple.Number n) s = if starts is_star s
    then sign_at star s >>= product_at (decimal is_negative n)
    else Ok (times (decimal is_negative n) mean.One, s)
multiplied_at is_negative (multiple.Ratio p q) s = sign_at star s >>= product_at (lowest is_negative p q)

-- a term after its sign
unfoldable pub term_at : Bool → List ℕ → Result (Term × List ℕ) ℕ
term_at is_negative s = if starts is_letter s
    then product_at (lowest is_negative 1 1) s
    else multiple_at s >>= λ m. multiplied_at is_negative m.0 m.1

-- this is the next term, and the text after it
abbrev pub some_term : Term × List ℕ → Result (Option (Term × List ℕ)) ℕ
some_term t = Ok (Some t)

-- this sign and a term after it
abbrev pub signed_at : Bool → ℕ → List ℕ → Result (Option (Term × List ℕ)) ℕ
signed_at is_negative sign s = sign_at sign s >>= term_at is_negative >>= some_term

-- the next term of a sum, if there is one
unfoldable pub next_at : List ℕ → Result (Option (Term × List ℕ)) ℕ
next_at s = if starts is_plus s
    then signed_at false plus s
    else (if starts is_minus s then signed_at true minus s else Ok None)

-- if a next term was read, what g reads after it; otherwise these terms, and the text
abbrev pub go_on : (List Term → List ℕ → Result (List Term × List ℕ) ℕ) → List Term → List ℕ
    → Option (Term × List ℕ) → Result (List Term × List ℕ) ℕ
go_on g terms s None = Ok (terms, s)
go_on g terms s (Some t) = g (terms ++ t.0 ∷ []) t.1

-- after some terms: a next one and what g reads after it, or the end of the sum
unfoldable pub behind_at : (List Term → List ℕ → Result (List Term × List ℕ) ℕ) → List Term → List ℕ
    → Result (List Term × List ℕ) ℕ
behind_at g terms s = next_at s >>= go_on g terms s

-- the first term of a sum, perhaps with - in front
unfoldable pub first_at : List ℕ → Result (Term × List ℕ) ℕ
first_at s = if starts is_minus s then sign_at minus s >>= term_at true else term_at false s

-- terms with + and - between them, and perhaps - in front
unfoldable pub expression_at : List ℕ → Result (List Term × List ℕ) ℕ
expression_at s = first_at s >>= λ t. loop_at behind_at (t.0 ∷ []) t.1

-- the relation that was read, and the text after its blanks
abbrev pub with_blanks : Rel × List ℕ → Result (Rel × List ℕ) ℕ
with_blanks r = Ok (r.0, skip r.1)

-- a relation, and the blanks after it
unfoldable pub relation_at : List ℕ → Result (Rel × List ℕ) ℕ
relation_at s = tried relations s >>= with_blanks

-- the object that is this name, and the text after it
abbrev pub named_object : List ℕ × List ℕ → Result (Option Meant × List ℕ) ℕ
named_object n = Ok (Some (object.Name n.0), n.1)

-- the object that is this number of thousandths, and the text after it
abbrev pub number_object : ℕ × List ℕ → Result (Option Meant × List ℕ) ℕ
number_object n = Ok (Some (object.Number (pos n.0)), n.1)

-- a name or a number
unfoldable pub object_at : List ℕ → Result (Option Meant × List ℕ) ℕ
object_at s = if starts is_letter s then name_at s >>= named_object else number_at s >>= number_object

-- `@` and a name or a number, or no priority
unfoldable pub priority_at : List ℕ → Result (Option Meant × List ℕ) ℕ
priority_at s = if starts is_at s then sign_at at_sign s >>= object_at else Ok (None, s)

-- `weight` and a whole number, or the weight 1
unfoldable pub weight_at : List ℕ → Result (ℕ × List ℕ) ℕ
weight_at s = if starts is_w s then word_at (codes "weight") s >>= whole_at else Ok (1, s)

-- two expressions with a relation between them, and perhaps a priority and a weight
unfoldable pub linear_at : List ℕ → Result (Linear × List ℕ) ℕ
linear_at s = do
  left ← expression_at s
  rel ← relation_at left.1
  right ← expression_at rel.1
  priority ← priority_at right.1
  weight ← weight_at priority.1
  Ok (linear left.0 rel.0 right.0 priority.0 weight.0, weight.1)

-- after the word `constrain`: a group's name and a linear constraint
unfoldable pub constrain_at : List ℕ → Result Change ℕ
constrain_at s = do
  group ← name_at s
  line ← linear_at group.1
  _ ← end_at line.1
  Ok (mean.Update (mean.Constrain group.0 line.0))

-- a format of this group with this alignment
unfoldable pub format_line_at : List ℕ → Option Align → List ℕ → Result Change ℕ
format_line_at n a s = format_at s >>= λ f. Ok (mean.Update (mean.Vfl n a f))

-- after the word `vfl`: a group's name, perhaps an alignment, and a format
unfoldable pub vfl_at : List ℕ → Result Change ℕ
vfl_at s = do
  group ← name_at s
  if starts is_a group.1
      then (do
        rest ← word_at (codes "align") group.1
        align ← tried alignments rest
        rest ← tail_at align.1
        format_line_at group.0 (Some align.0) rest)
      else format_line_at group.0 None group.1

-- a name, a point and an attribute
unfoldable pub view_word_at : List ℕ → Result ((List ℕ × AttrWord) × List ℕ) ℕ
view_word_at s = do
  name ← raw_name_at s
  rest ← lit_at (codes ".") name.1
  word ← tried attributes rest
  rest ← tail_at word.1
  Ok ((name.0, word.0), rest)

-- for this attribute of the view of this name: a value, and perhaps a priority
unfoldable pub suggestion_at : List ℕ → AttrWord → Bool → List ℕ → Result Change ℕ
suggestion_at name word is_negative s = do
  value ← number_at s
  priority ← priority_at value.1
  _ ← end_at priority.1
  Ok (mean.Update (mean.Suggest name word (decimal is_negative value.0) priority.0))

-- after the word `suggest`: an attribute of a view, perhaps -, a value, and perhaps a priority
unfoldable pub suggest_at : List ℕ → Result Change ℕ
suggest_at s = do
  of ← view_word_at s
  if starts is_minus of.1
      then (do
        rest ← sign_at minus of.1
        suggestion_at of.0.0 of.0.1 true rest)
      else suggestion_at of.0.0 of.0.1 false of.1

-- after the word `release`: an attribute of a view
unfoldable pub release_at : List ℕ → Result Change ℕ
release_at s = do
  of ← view_word_at s
  _ ← end_at of.1
  Ok (mean.Leave (mean.Release of.0.0 of.0.1))

-- after the word `direction`: a direction
unfoldable pub direction_at : List ℕ → Result Change ℕ
direction_at s = do
  to ← tried directions s
  rest ← tail_at to.1
  _ ← end_at rest
  Ok (mean.Turn to.0)

-- `hug` and a priority, or neither
unfoldable pub hug_at : List ℕ → Result (Option Meant × List ℕ) ℕ
hug_at s = if starts is_h s then word_at (codes "hug") s >>= object_at else Ok (None, s)

-- `resist` and a priority, or neither
unfoldable pub resist_at : List ℕ → Result (Option Meant × List ℕ) ℕ
resist_at s = if starts is_r s then word_at (codes "resist") s >>= object_at else Ok (None, s)

-- after a view's name, width and height: perhaps priorities
unfoldable pub pulls_at : List ℕ → ℕ → ℕ → List ℕ → Result Change ℕ
pulls_at name width height s = do
  hug ← hug_at s
  resist ← resist_at hug.1
  _ ← end_at resist.1
  Ok (mean.Update (mean.Size name (decimal false width) (decimal false height) hug.0 resist.0))

-- after the word `size`: a view's name, a width, a height, and perhaps priorities
unfoldable pub size_at : List ℕ → Result Change ℕ
size_at s = do
  name ← name_at s
  width ← number_at name.1
  height ← number_at width.1
  pulls_at name.0 width.0 height.0 height.1

-- after the word `sweep`: the word `width`, and two widths
unfoldable pub sweep_at : List ℕ → Result Plain ℕ
sweep_at s = do
  text ← word_at (codes "width") s
  from ← number_at text
  to ← number_at from.1
  _ ← end_at to.1
  Ok (mean.Sweep (decimal false from.0) (decimal false to.0))

-- the text after the word of a change in a line of this length
abbrev pub change_at : ℕ → ChangeWord → List ℕ → Result Change ℕ
change_at len change.View s = view_at s
change_at len change.Tree s = tree_at len s
change_at len change.Metric s = metric_at s
change_at len change.Window s = window_at s
change_at len change.Vfl s = vfl_at s
change_at len change.Constrain s = constrain_at s
change_at len change.Suggest s = suggest_at s
change_at len change.Size s = size_at s
change_at len change.Drop s = named_at (λ n. mean.Leave (mean.Drop n)) s
change_at len change.Remove s = named_at (λ n. mean.Leave (mean.Remove n)) s
change_at len change.Release s = release_at s
change_at len change.Unsize s = named_at (λ n. mean.Leave (mean.Unsize n)) s
change_at len change.Direction s = direction_at s
change_at len change.Keep s = named_at mean.Keep s

-- the text after the word of another command
abbrev pub plain_at : PlainWord → List ℕ → Result Plain ℕ
plain_at plain.Undo s = bare_at mean.Undo s
plain_at plain.Budget s = budget_at s
plain_at plain.Frames s = bare_at mean.Frames s
plain_at plain.Rows s = bare_at mean.Rows s
plain_at plain.Diagnose s = bare_at mean.Diagnose s
plain_at plain.Certify s = bare_at mean.Certify s
plain_at plain.Sweep s = sweep_at s

-- the text after the first word and the spaces that follow it
unfoldable pub apart_at : List ℕ → Result (List ℕ) ℕ
apart_at [] = Ok []
apart_at (b ∷ s) = if is_space b then Ok (skip (b ∷ s)) else Err (length (b ∷ s))

-- the first word of a line: a change's word, if there is one, or else another command's; if there is neither,
-- the reading that came further
abbrev pub as_first : Result (ChangeWord × List ℕ) ℕ → Result (PlainWord × List ℕ) ℕ
    → Result (FirstWord × List ℕ) ℕ
as_first (Ok c) r = Ok (first.Change c.0, c.1)
as_first (Err m) (Ok p) = Ok (first.Plain p.0, p.1)
as_first (Err m) (Err n) = Err (min m n)

-- after `why` in a line of this length: a change
unfoldable pub changing_at : ℕ → List ℕ → Result Change ℕ
changing_at len s = do
  word ← tried changing_words s
  rest ← apart_at word.1
  change_at len word.0 rest

-- the text after the first word of a line of this length
abbrev pub follows_at : ℕ → FirstWord → List ℕ → Result Said ℕ
follows_at len (first.Change k) s = change_at len k s >>= λ m. Ok (does_change m)
follows_at len (first.Plain k) s = plain_at k s >>= λ m. Ok (does_plain m)
follows_at len first.Why s = changing_at len s >>= λ m. Ok (mean.Why m)

-- in a line of this length, one of these first words, and the text after it
unfoldable pub said_at : List (List ℕ × FirstWord) → ℕ → List ℕ → Result Said ℕ
said_at words len s = do
  word ← tried words s
  rest ← apart_at word.1
  follows_at len word.0 rest

-- a line of this length after the blanks in front of it: a comment, a command or a question, or nothing
unfoldable pub content_at : List (List ℕ × FirstWord) → ℕ → List ℕ → Result Said ℕ
content_at words len s = if starts is_hash s
    then (do
      _ ← lit_at (codes "#") s
      Ok mean.Nothing)
    else (if starts is_any s
    then said_at words len s
    else (do
      _ ← end_at s
      Ok mean.Nothing))

-- the meaning of a line, or how many of its bytes are left where the reading ends
unfoldable pub line_at : List (List ℕ × FirstWord) → List ℕ → Result Said ℕ
line_at words s = content_at words (length s) (skip s)

-- the words `layout` and `2`, and nothing else
unfoldable pub version_at : List ℕ → Result (Unit {0}) ℕ
version_at s = do
  rest ← lit_at (codes "layout") (skip s)
  text ← apart_at rest
  more ← lit_at (codes "2") text
  left ← tail_at more
  _ ← end_at left
  Ok tt
