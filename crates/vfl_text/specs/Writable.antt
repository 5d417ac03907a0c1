-- Which formats have a text: names are names, numbers are those that the grammar can write, and each space
-- that is given has a predicate.
use Rattle.std.specs.Prelude.{◌≡◌, ℕ, pos, negsuc, suc, ◌+◌, ◌<◌, true, List, [], ◌∷◌, length, Option}
use Rattle.std.specs.Prelude.{Some, None}
use Rattle.span_text.specs.Classes.{is_letter, is_word}
use Rattle.span_text.specs.Language.{AllIn}
use Rattle.span_text.specs.Objects as object
use Rattle.span_text.specs.Objects.{Meant}
use Rattle.span_text.specs.Tokens.{number_bound}
use Rattle.vfl_text.specs.Formats.{PredMeaning, SpacingMeaning, Flush, Standard, Given, ItemMeaning}
use Rattle.vfl_text.specs.Formats.{FormatMeaning}

-- a letter or _, and then letters, digits and _
abbrev pub IsName : List ℕ → Type 0
IsName [] = ⊥
IsName (b ∷ x) = (is_letter b ≡ true) × AllIn is_word x

-- a name, or a number that can be written
abbrev pub IsObject : Meant → Type 0
IsObject (object.Number (pos n)) = n < number_bound
IsObject (object.Number (negsuc n)) = suc n < number_bound
IsObject (object.Name n) = IsName n

-- the same, where the number isn't below 0
abbrev pub IsValue : Meant → Type 0
IsValue (object.Number (pos n)) = n < number_bound
IsValue (object.Number (negsuc n)) = ⊥
IsValue (object.Name n) = IsName n

-- no priority, or one that can be written
abbrev pub IsPriority : Option Meant → Type 0
IsPriority None = Unit {0}
IsPriority (Some p) = IsValue p

-- a predicate whose object and priority can be written
abbrev pub IsPred : PredMeaning → Type 0
IsPred p = IsObject p.object × IsPriority p.priority

-- each predicate can be written
abbrev pub ArePreds : List PredMeaning → Type 0
ArePreds [] = Unit {0}
ArePreds (p ∷ ps) = IsPred p × ArePreds ps

-- a connection that can be written: where it has predicates, at least one, each of which can be written
abbrev pub IsSpacing : SpacingMeaning → Type 0
IsSpacing Flush = Unit {0}
IsSpacing Standard = Unit {0}
IsSpacing (Given ps) = (0 < length ps) × ArePreds ps

-- each connection can be written
abbrev pub AreSpacings : List SpacingMeaning → Type 0
AreSpacings [] = Unit {0}
AreSpacings (g ∷ gs) = IsSpacing g × AreSpacings gs

-- no parent at this end, or one whose connection can be written
abbrev pub IsEnd : Option SpacingMeaning → Type 0
IsEnd None = Unit {0}
IsEnd (Some g) = IsSpacing g

-- each view has a name by the grammar, and predicates of its size that can be written
abbrev pub AreItems : List ItemMeaning → Type 0
AreItems [] = Unit {0}
AreItems (i ∷ is) = (IsName i.name × ArePreds i.sizes) × AreItems is

-- the parts of the format can be written, and between its views there is one connection fewer than views
pub record IsWritable (f : FormatMeaning) : Type 0 where
  pub from_parent : IsEnd f.from_parent
  pub items : AreItems f.items
  pub spacings : AreSpacings f.spacings
  pub to_parent : IsEnd f.to_parent
  pub between : length f.spacings + 1 ≡ length f.items
