-- A format as one list of parts, in the order of its text, and after them the alignment.
use Rattle.std.specs.Prelude.{ℕ, pos, List, [], ◌∷◌, ◌++◌, map, Option, Some, None}
use Rattle.problem_core.specs.declared.parts.Rel.TheVariants as rel
use Rattle.span_text.specs.Objects as object
use Rattle.vfl_text.specs.declared.parts.Axis.{Axis}
use Rattle.vfl_text.specs.declared.parts.Axis.TheVariants as axis
use Rattle.vfl_text.specs.Formats.{PredMeaning, SpacingMeaning, Flush, Standard, Given, ItemMeaning}
use Rattle.vfl_text.specs.Formats.{FormatMeaning}
use Rattle.script_text.specs.declared.words.Align.{Align}
use Rattle.script_text.specs.declared.words.Align.TheVariants as align
use Rattle.script_text.specs.declared.words.AttrWord.{AttrWord}
use Rattle.script_text.specs.declared.words.AttrWord.TheVariants as word
use Rattle.script_text.specs.declared.words.Direction.{Direction}
use Rattle.script_text.specs.declared.words.Direction.TheVariants as direction
use Rattle.format_compile.specs.declared.parts.Course.{Course}
use Rattle.format_compile.specs.declared.parts.Course.TheVariants as course
use Rattle.format_compile.specs.declared.parts.Owner.{Owner}
use Rattle.format_compile.specs.declared.parts.Owner.TheVariants as owner
use Rattle.format_compile.specs.declared.lists.TheConstants.{USUAL_BETWEEN, USUAL_INSIDE}

-- an attribute of the view of this name, or of that view's parent
pub record End : Type 0 where
  pub owner : Owner
  pub view : List ℕ
  pub word : AttrWord

-- the measure of a row: the first end less the second, or the first alone, which is then a size
pub record Span : Type 0 where
  pub plus : End
  pub minus : Option End

-- the name of a view, the parent's bar beside a view, and a row that the format asks for
pub data Part : Type 0 where
  View : List ℕ → Part
  Bar : List ℕ → Part
  Asks : Span → PredMeaning → Part

-- ---- measures

-- the course of a horizontal format
abbrev pub course_across : Direction → Course
course_across direction.Ltr = course.Rightwards
course_across direction.Rtl = course.Leftwards

-- the way in which a format's views follow each other
abbrev pub course_of : Direction → Axis → Course
course_of d axis.H = course_across d
course_of d axis.V = course.Downwards

-- the edge at which a view begins on this course
abbrev pub near : Course → AttrWord
near course.Rightwards = word.Left
near course.Leftwards = word.Right
near course.Downwards = word.Top

-- the edge at which it ends
abbrev pub far : Course → AttrWord
far course.Rightwards = word.Right
far course.Leftwards = word.Left
far course.Downwards = word.Bottom

-- its size along this course
abbrev pub extent : Course → AttrWord
extent course.Rightwards = word.Width
extent course.Leftwards = word.Width
extent course.Downwards = word.Height

-- the distance from one end on to the other: the greater less the lesser
abbrev pub onwards : Course → End → End → Span
onwards course.Rightwards from to = record { plus = to; minus = Some from }
onwards course.Leftwards from to = record { plus = from; minus = Some to }
onwards course.Downwards from to = record { plus = to; minus = Some from }

-- this attribute of the view of this name
abbrev pub own : List ℕ → AttrWord → End
own name w = record { owner = owner.Itself; view = name; word = w }

-- this attribute of the parent of the view of this name
abbrev pub parents : List ℕ → AttrWord → End
parents name w = record { owner = owner.Parent; view = name; word = w }

-- from the parent to its view
abbrev pub inside_near : Course → List ℕ → Span
inside_near c name = onwards c (parents name (near c)) (own name (near c))

-- from one view to the next
abbrev pub between : Course → List ℕ → List ℕ → Span
between c before name = onwards c (own before (far c)) (own name (near c))

-- from the view to its parent
abbrev pub inside_far : Course → List ℕ → Span
inside_far c name = onwards c (own name (far c)) (parents name (far c))

-- the view along the format
abbrev pub size : Course → List ℕ → Span
size c name = record { plus = own name (extent c); minus = None }

-- the offset of the view from the one before it
abbrev pub off : AttrWord → List ℕ → List ℕ → Span
off w before name = record { plus = own name w; minus = Some (own before w) }

-- ---- rows that are asked for

-- so many thousandths, required
abbrev pub exactly : ℕ → PredMeaning
exactly n = record { rel = rel.Eq; object = object.Number (pos n); priority = None }

-- for each predicate a row with this measure
abbrev pub asks : Span → List PredMeaning → List Part
asks s ps = map (Asks s) ps

-- a connection, with its usual space in thousandths
abbrev pub spacing_parts : Span → ℕ → SpacingMeaning → List Part
spacing_parts s usual Flush = Asks s (exactly 0) ∷ []
spacing_parts s usual Standard = Asks s (exactly usual) ∷ []
spacing_parts s usual (Given ps) = asks s ps

-- the name of an item's view, and the rows of its size
abbrev pub item_parts : Course → ItemMeaning → List Part
item_parts c i = View i.name ∷ asks (size c i.name) i.sizes

-- the views after the one of this name, each with the connection before it
abbrev pub chain_parts : Course → List ℕ → List SpacingMeaning → List ItemMeaning → List Part
chain_parts c before [] is = []
chain_parts c before (g ∷ gs) [] = []
chain_parts c before (g ∷ gs) (i ∷ is) = spacing_parts (between c before i.name) USUAL_BETWEEN g
    ++ (item_parts c i ++ chain_parts c i.name gs is)

-- the parent's bar in front of the view of this name, and the connection to it, if there is one
abbrev pub leading_parts : Course → List ℕ → Option SpacingMeaning → List Part
leading_parts c name None = []
leading_parts c name (Some g) = Bar name ∷ spacing_parts (inside_near c name) USUAL_INSIDE g

-- the parent's bar after the view of this name, and the connection to it, if there is one
abbrev pub back_parts : Course → List ℕ → Option SpacingMeaning → List Part
back_parts c name None = []
back_parts c name (Some g) = Bar name ∷ spacing_parts (inside_far c name) USUAL_INSIDE g

-- ---- alignment

-- the attribute that an alignment names
abbrev pub aligned_word : Align → AttrWord
aligned_word align.Left = word.Left
aligned_word align.Right = word.Right
aligned_word align.Top = word.Top
aligned_word align.Bottom = word.Bottom
aligned_word align.CenterX = word.CenterX
aligned_word align.CenterY = word.CenterY

-- the views after the one of this name, each aligned with the one before it
abbrev pub aligned_parts : AttrWord → List ℕ → List ItemMeaning → List Part
aligned_parts w before [] = []
aligned_parts w before (i ∷ is) = Asks (off w before i.name) (exactly 0) ∷ aligned_parts w i.name is

-- the rows of the alignment, if there is one, of the views after the one of this name
abbrev pub align_parts : Option Align → List ℕ → List ItemMeaning → List Part
align_parts None first is = []
align_parts (Some a) first is = aligned_parts (aligned_word a) first is

-- ---- the whole

-- the name of the last one, or this one if there is none
abbrev pub last_name : List ℕ → List ItemMeaning → List ℕ
last_name name [] = name
last_name name (i ∷ is) = last_name i.name is

-- the parts of the format and of the alignment on this course with these items, and none without items
abbrev pub parts_over : FormatMeaning → Option Align → Course → List ItemMeaning → List Part
parts_over f align c [] = []
parts_over f align c (i ∷ is) =
    leading_parts c i.name f.from_parent
    ++ (item_parts c i
    ++ (chain_parts c i.name f.spacings is
    ++ (back_parts c (last_name i.name is) f.to_parent
    ++ align_parts align i.name is)))

-- all parts of the format in this direction, in the order of its text, and after them the rows of the
-- alignment
unfoldable pub parts : FormatMeaning → Option Align → Direction → List Part
parts f align d = parts_over f align (course_of d f.axis) f.items
