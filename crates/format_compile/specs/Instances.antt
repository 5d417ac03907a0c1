-- The measures of some formats in each direction.
use Rattle.std.specs.Prelude.{◌≡◌, ◌≢◌, List, ℕ, [], ◌∷◌, Some, None, codes}
use Rattle.vfl_text.specs.declared.parts.Axis.{Axis}
use Rattle.vfl_text.specs.declared.parts.Axis.TheVariants as axis
use Rattle.vfl_text.specs.Formats.{ItemMeaning, Standard, FormatMeaning}
use Rattle.script_text.specs.declared.words.AttrWord.TheVariants as word
use Rattle.script_text.specs.declared.words.Direction.TheVariants as direction
use Rattle.format_compile.specs.declared.lists.TheConstants.{USUAL_BETWEEN}
use Rattle.format_compile.specs.FormatParts.{View, Asks, course_of, own, parents, exactly, parts}
use Rattle.format_compile.specs.FormatParts.{inside_near, between, inside_far}

-- a view without a size
abbrev pub plain : List ℕ → ItemMeaning
plain name = record { name = name; sizes = [] }

-- the views a and b, along this axis with the usual space
abbrev pub pair : Axis → FormatMeaning
pair along = record {
  axis = along;
  from_parent = None;
  items = plain (codes "a") ∷ plain (codes "b") ∷ [];
  spacings = Standard ∷ [];
  to_parent = None;
}

-- A row measures an edge less the one to its left: from left to right the first view's left less its
-- parent's, the next one's left less the right of the one before, and the parent's right less the last one's;
-- from right to left the parent's right less the first view's, the left of the one before less the next one's
-- right, and the last one's left less its parent's. A vertical format asks for the same in both directions.
pub record SomeCourses : Type 0 where
  pub near_ltr : inside_near (course_of direction.Ltr axis.H) (codes "a")
      ≡ record { plus = own (codes "a") word.Left; minus = Some (parents (codes "a") word.Left) }
  pub near_rtl : inside_near (course_of direction.Rtl axis.H) (codes "a")
      ≡ record { plus = parents (codes "a") word.Right; minus = Some (own (codes "a") word.Right) }
  pub between_ltr : between (course_of direction.Ltr axis.H) (codes "a") (codes "b")
      ≡ record { plus = own (codes "b") word.Left; minus = Some (own (codes "a") word.Right) }
  pub between_rtl : between (course_of direction.Rtl axis.H) (codes "a") (codes "b")
      ≡ record { plus = own (codes "a") word.Left; minus = Some (own (codes "b") word.Right) }
  pub far_ltr : inside_far (course_of direction.Ltr axis.H) (codes "b")
      ≡ record { plus = parents (codes "b") word.Right; minus = Some (own (codes "b") word.Right) }
  pub far_rtl : inside_far (course_of direction.Rtl axis.H) (codes "b")
      ≡ record { plus = own (codes "b") word.Left; minus = Some (parents (codes "b") word.Left) }
  pub down : parts (pair axis.V) None direction.Rtl ≡ parts (pair axis.V) None direction.Ltr
  -- the views keep the order of the text, with the same space between them
  pub whole : parts (pair axis.H) None direction.Rtl
      ≡ View (codes "a")
      ∷ Asks (record { plus = own (codes "a") word.Left; minus = Some (own (codes "b") word.Right) })
      (exactly USUAL_BETWEEN)
      ∷ View (codes "b") ∷ []
  pub apart : inside_near (course_of direction.Rtl axis.H) (codes "a")
      ≢ inside_near (course_of direction.Ltr axis.H) (codes "a")
