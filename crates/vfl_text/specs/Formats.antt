-- What a format means, whatever the place of its names in memory.
use Rattle.std.specs.Prelude.{ℕ, List, Option}
use Rattle.problem_core.specs.declared.parts.Rel.{Rel}
use Rattle.span_text.specs.Objects.{Meant}
use Rattle.vfl_text.specs.declared.parts.Axis.{Axis}

-- the meaning of a `pred`: a relation, an object, and a priority where one is written
pub record PredMeaning : Type 0 where
  pub rel : Rel
  pub object : Meant
  pub priority : Option Meant

-- the meaning of a `connection`: no space, the usual space, or predicates of the space
pub data SpacingMeaning : Type 0 where
  Flush : SpacingMeaning
  Standard : SpacingMeaning
  Given : List PredMeaning → SpacingMeaning

-- the meaning of an `item`: the name of a view, and predicates of its size
pub record ItemMeaning : Type 0 where
  pub name : List ℕ
  pub sizes : List PredMeaning

-- the meaning of a `format`: its direction, its views, the connections between them, and that to the parent
-- at each end where it stands there
pub record FormatMeaning : Type 0 where
  pub axis : Axis
  pub from_parent : Option SpacingMeaning
  pub items : List ItemMeaning
  pub spacings : List SpacingMeaning
  pub to_parent : Option SpacingMeaning
