-- What an object means, whatever the place of its name in memory.
use Rattle.std.specs.Prelude.{ℕ, List, ℤ, Option, None, Some}
use Rattle.span_text.specs.declared.object.Object.{Object}
use Rattle.span_text.specs.declared.object.Object.TheVariants as object

-- the meaning of an `object` or a `priority`: a number in thousandths, or a name
pub data Meant : Type 0 where
  Number : ℤ → Meant
  Name : List ℕ → Meant

-- the meaning of an object, wherever its name lies
abbrev pub meant : Object → Meant
meant (object.Number thousandths) = Number thousandths
meant (object.Name text) = Name text.now

-- the meaning of an object, where there is one
abbrev pub object_view : Option Object → Option Meant
object_view None = None
object_view (Some o) = Some (meant o)
