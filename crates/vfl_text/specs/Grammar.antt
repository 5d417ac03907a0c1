-- The grammar of formats.
use Rattle.std.specs.Prelude.{ℕ, pos, neg_ℤ, List, [], ◌∷◌, ◌++◌, Option, Some, None, codes}
use Rattle.problem_core.specs.declared.parts.Rel as relation
use Rattle.problem_core.specs.declared.parts.Rel.TheVariants as rel
use Rattle.span_text.specs.Bytes.{at_sign, bar, colon, comma, left_bracket, left_paren, minus}
use Rattle.span_text.specs.Bytes.{right_bracket, right_paren}
use Rattle.span_text.specs.Language.{Rel, Or, End, Words}
use Rattle.span_text.specs.Tokens.{Blanks, Sign, Name, Number}
use Rattle.span_text.specs.Loops.{Loop}
use Rattle.span_text.specs.Objects as object
use Rattle.span_text.specs.Objects.{Meant}
use Rattle.vfl_text.specs.declared.parts.Axis.{Axis}
use Rattle.vfl_text.specs.declared.parts.Axis.TheVariants as axis
use Rattle.vfl_text.specs.Formats.{PredMeaning, SpacingMeaning, Flush, Standard, Given, ItemMeaning}
use Rattle.vfl_text.specs.Formats.{FormatMeaning}

-- `rel`: each relation as it is written, with its meaning
abbrev pub relations : List (List ℕ × relation.Rel)
relations = (codes "==", rel.Eq) ∷ (codes "<=", rel.Le) ∷ (codes ">=", rel.Ge) ∷ []

-- the directions of a `format`, each as it is written, with its meaning
abbrev pub axes : List (List ℕ × Axis)
axes = (codes "H", axis.H) ∷ (codes "V", axis.V) ∷ []

-- a name or a number
abbrev pub Value : {A : Type 0} → (Meant → Rel A) → Rel A
Value F = Or (Name (λ n. F (object.Name n))) (Number (λ n. F (object.Number (pos n))))

-- the same, or a number below 0
abbrev pub Object : {A : Type 0} → (Meant → Rel A) → Rel A
Object F = Or (Sign minus (Number (λ n. F (object.Number (neg_ℤ (pos n)))))) (Value F)

-- the meaning of a `pred` of these parts
abbrev pub pred : relation.Rel → Meant → Option Meant → PredMeaning
pred r o p = record { rel = r; object = o; priority = p }

-- "@" and a priority, or none
abbrev pub Priority : {A : Type 0} → relation.Rel → Meant → (PredMeaning → Rel A) → Rel A
Priority r o F = Or (Sign at_sign (Value (λ p. F (pred r o (Some p))))) (F (pred r o None))

-- behind a relation
abbrev pub Ruled : {A : Type 0} → relation.Rel → (PredMeaning → Rel A) → Rel A
Ruled r F = Object (λ o. Priority r o F)

-- No relation means ==.
abbrev pub Pred : {A : Type 0} → (PredMeaning → Rel A) → Rel A
Pred F = Or (Words relations (λ r. Blanks (Ruled r F))) (Ruled rel.Eq F)

-- a predicate, and "," and the next one or ")"
abbrev pub PredRound : {A : Type 0} → (List PredMeaning → Rel A) → (List PredMeaning → Rel A)
    → List PredMeaning → Rel A
PredRound F G ps = Pred (λ p. Or (Sign comma (G (ps ++ p ∷ []))) (Sign right_paren (F (ps ++ p ∷ []))))

-- predicates in parentheses
abbrev pub Preds : {A : Type 0} → (List PredMeaning → Rel A) → Rel A
Preds F = Sign left_paren (Loop (PredRound F) [])

-- the meaning of an `item` of this name and these predicates
abbrev pub item : List ℕ → List PredMeaning → ItemMeaning
item n ps = record { name = n; sizes = ps }

-- a view in brackets
abbrev pub View : {A : Type 0} → (ItemMeaning → Rel A) → Rel A
View F = Sign left_bracket (Name (λ n. Or (Preds (λ ps. Sign right_bracket (F (item n ps))))
    (Sign right_bracket (F (item n [])))))

-- the meaning of a NAME or NUMBER alone in a `connection`: one predicate, with == and no priority
abbrev pub single : Meant → List PredMeaning
single o = pred rel.Eq o None ∷ []

-- behind the first "-" of a connection
abbrev pub Spaced : {A : Type 0} → (SpacingMeaning → Rel A) → Rel A
Spaced F = Or (Preds (λ ps. Sign minus (F (Given ps))))
    (Or (Value (λ o. Sign minus (F (Given (single o))))) (F Standard))

-- `connection`: "-" and what stands behind it, or nothing
abbrev pub Connection : {A : Type 0} → (SpacingMeaning → Rel A) → Rel A
Connection F = Or (Sign minus (Spaced F)) (F Flush)

-- the meaning of a `format` with one more connection and one more view behind the others
abbrev pub with_item : FormatMeaning → SpacingMeaning → ItemMeaning → FormatMeaning
with_item f g i = record {
  axis = f.axis;
  from_parent = f.from_parent;
  items = f.items
      ++ i ∷ [];
  spacings = f.spacings ++ g ∷ [];
  to_parent = f.to_parent;
}

-- the meaning of a `format` with this connection to the parent at its end
abbrev pub with_end : FormatMeaning → SpacingMeaning → FormatMeaning
with_end f g = record {
  axis = f.axis;
  from_parent = f.from_parent;
  items = f.items;
  spacings = f.spacings;
  to_parent = Some g;
}

-- behind a connection: the next view, or the parent and the end
abbrev pub Next : (FormatMeaning → Rel FormatMeaning) → FormatMeaning → SpacingMeaning → Rel FormatMeaning
Next G f g = Or (View (λ i. G (with_item f g i))) (Sign bar (End (with_end f g)))

-- behind a view
abbrev pub Round : (FormatMeaning → Rel FormatMeaning) → FormatMeaning → Rel FormatMeaning
Round G f = Or (Connection (λ g. Next G f g)) (End f)

-- No orientation means H.
abbrev pub Orientation : {A : Type 0} → (Axis → Rel A) → Rel A
Orientation F = Or (Words axes (λ a. Blanks (Sign colon (F a)))) (F axis.H)

-- the parent in front and the connection to it, or neither
abbrev pub FromParent : {A : Type 0} → (Option SpacingMeaning → Rel A) → Rel A
FromParent F = Or (Sign bar (Connection (λ g. F (Some g)))) (F None)

-- the meaning of a `format` that has come to its first view
abbrev pub started : Axis → Option SpacingMeaning → ItemMeaning → FormatMeaning
started a g i = record { axis = a; from_parent = g; items = i ∷ []; spacings = []; to_parent = None }

-- the whole text is a `format`, maybe with spaces in front, and means this
unfoldable pub FormatText : Rel FormatMeaning
FormatText = Blanks (Orientation (λ a. FromParent (λ g. View (λ i. Loop Round (started a g i)))))
